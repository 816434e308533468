-- What a walk into words leaves, as its run. Assumes nothing.
use Rattle.std.specs.Prelude.{Option}
use mathlib.Core.Path.{◌≡◌, ap, ◌∙◌}
use mathlib.Core.List.{List}
use Prim.Native.Nat.{ℕ, ◌+◌, ◌*◌}
use lib.ListN.{length}
use lib.Seq.{sets, length-sets}
use Rattle.access.specs.declared.Machine.{Machine}
use Rattle.stages.specs.Tree.{Walk, Ran, run}
use Rattle.stages.specs.Listed.{read_words}
use Rattle.second_stage.specs.Words.{Into, onto, into}
use Rattle.second_stage.proofs.Runs.{into-run}

pub record Left {A : Type 0} (ran : Ran A) (before : List ℕ) (from : ℕ) (after : List ℕ) (behind : ℕ) (came : A) : Type 0 where
  pub words : after ≡ sets before from (read_words ran.reads)
  pub next : behind ≡ from + 4 * length ran.reads
  pub end : came ≡ ran.end
  pub size : length after ≡ length before

pub left_by : {A : Type 0} (look : Machine → Option ℕ) (w : Walk A) (before : List ℕ) (from : ℕ) {after : List ℕ} {behind : ℕ} {came : A} → onto after behind came ≡ into look w before from
    → Left (run look w) before from after behind came
left_by {A} look w before from e =
    let k = e ∙ into-run look w before from in
    let words = ap (λ (i : Into A). i.words) k in
    record {
      words = words;
      next = ap (λ (i : Into A). i.next) k;
      end = ap (λ (i : Into A). i.end) k;
      size = ap length words ∙ length-sets before from (read_words (run look w).reads);
    }
