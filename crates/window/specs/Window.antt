-- "The image travels as a window of base and bytes": the same translation as over the two.
use Rattle.std.specs.Prelude.{List, ℕ}
use Rattle.translate.specs.declared.Translated.{Translated}
use Rattle.translate.specs.Translated.{translated}
use Rattle.window.specs.declared.Request.{Request}

abbrev pub translation : ℕ → List ℕ → Request → Translated
translation base bytes r = translated r.hart base bytes r.kind r.address r.width
