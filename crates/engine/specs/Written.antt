-- What the engine leaves: a walk's list as words from an index on, the rest of the places zero, with their count and the walk's end.
use Rattle.std.specs.Prelude.{◌≡◌, List, ℕ, length, Result}
use Rattle.std.proofs.lemmas.List.Edits.{sets}
use Rattle.exceptions.specs.declared.Exception.{Exception}
use Rattle.access.specs.declared.Machine.{Machine}
use Rattle.stages.specs.Tree.{Ran}
use Rattle.stages.specs.Listed.{padded, read_words}
use Rattle.engine.specs.declared.Listed.{Listed}

pub record Written (ran : Ran (Result Machine Exception)) (places from : ℕ) (before after : List ℕ) (r : Listed) : Type 0 where
  pub words : after ≡ sets before from (read_words (padded places ran.reads))
  pub count : r.count ≡ length ran.reads
  pub end : r.reached ≡ ran.end
