-- What an access asks of a leaf at each stage.
use Rattle.std.specs.Prelude.{Bool, true, false}
use Rattle.rules.specs.declared.Kind.{Kind}
use Rattle.rules.specs.declared.Kind.TheVariants.{Load}
use Rattle.rules.specs.declared.Right.{Right}
use Rattle.rules.specs.declared.Right.TheVariants.{Read}
use Rattle.rules.specs.declared.Need.{Need}
use Rattle.rules.specs.Kind.{by}
use Rattle.access.specs.declared.Access.{Access}

-- what a kind of access needs that asks for a right, for a user or not, with the SUM and MXR that count
abbrev pub need_of : Kind → Right → (user sum mxr : Bool) → Need
need_of kind right user sum mxr = record { right = right; fetch = by kind true false false; user = user; sum = sum; mxr = mxr }

-- At the first stage: the access's own mode, and the SUM and MXR that count there.
abbrev pub first_need : Access → Need
first_need a = need_of a.kind a.right a.user a.sum a.mxr

-- "Second stage: always U=1; MXR is mstatus's only."
abbrev pub second_need : Access → Need
second_need a = need_of a.kind a.right true false a.mmxr

-- "The hart's reads of guest entries go through the second stage as reads, need R, and MXR doesn't help."
abbrev pub entry_need : Need
entry_need = need_of Load Read true false false
