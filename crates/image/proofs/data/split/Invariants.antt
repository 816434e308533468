use Rattle.std.proofs.Common.{◌≡◌, ◌-◌, length}
use lib.Seq.{sets}
use Rattle.image.specs.Data.{low_bytes}
use Rattle.image.proofs.data.split.Given as goal

abbrev pub invariant-loop-byte : goal.invariant-loop-byte
invariant-loop-byte l = (length l.byte-items ≡ l.width) × (sets l.byte-items l.byte-index (low_bytes (l.width - l.byte-index) l.rest) ≡ low_bytes l.width l.value)
