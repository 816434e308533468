-- What the walk hands over: its end, and the list of reads in an array, with their count.
use Rattle.std.specs.Prelude.{List, [], ◌∷◌, ℕ, length, Result}
use Rattle.exceptions.specs.declared.Exception.{Exception}
use Rattle.access.specs.declared.Machine.{Machine}
use Rattle.stages.specs.declared.Read.{Read}
use Rattle.stages.specs.Tree.{Ran, item}
use Rattle.stages.specs.Stages.{machine}
use Rattle.stages.specs.Listed.{places, padded}
use Rattle.walk.specs.declared.Walked.{Walked}

abbrev pub walked : Ran (Result Machine Exception) → Walked
walked r = record { reads = padded places r.reads; count = length r.reads; reached = r.end }

-- the list that words hold, four to a read
unfoldable pub unpack : List ℕ → List Read
unpack [] = []
unpack (s ∷ []) = []
unpack (s ∷ l ∷ []) = []
unpack (s ∷ l ∷ m ∷ []) = []
unpack (s ∷ l ∷ m ∷ v ∷ ws) = item s l (machine m) v ∷ unpack ws
