-- The three rights that a leaf grants, and what goes by them.
use Rattle.rules.specs.declared.Kind.{Kind}
use Rattle.rules.specs.Kind.{by}
use Rattle.rules.specs.declared.Right.{Right}
use Rattle.rules.specs.declared.Right.TheVariants.{Read, Write, Execute}

-- the one that is the right's own
abbrev pub by_right : {A : Type 0} → Right → A → A → A → A
by_right Read read write execute = read
by_right Write read write execute = write
by_right Execute read write execute = execute

-- "Loads need R, or X with MXR; stores need W, fetches X.": the right that is a kind's own (`granted` says what grants it)
abbrev pub right_of : Kind → Right
right_of kind = by kind Execute Read Write
