-- Bad input is refused with a number: that of each refusal.
use Rattle.std.specs.Prelude.{ℕ}
use Rattle.exceptions.specs.declared.Refusal.{Refusal}
use Rattle.exceptions.specs.declared.Refusal.TheVariants.{Image, Hart, Access, Request, Register, Place}

-- 1 image, 2 hart, 3 access, 4 trap request, 5 register number; 6 the place of a stopped walk (2026-07)
abbrev pub number : Refusal → ℕ
number Image = 1
number Hart = 2
number Access = 3
number Request = 4
number Register = 5
number Place = 6
