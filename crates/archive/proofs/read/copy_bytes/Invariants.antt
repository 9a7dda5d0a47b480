-- The bytes passed so far are copied.
use Rattle.std.proofs.Common.{◌≡◌, length}
use Rattle.archive.proofs.SameBytes.{SameUpto}
use Rattle.archive.proofs.read.copy_bytes.Given as goal

abbrev pub invariant-loop-i : goal.invariant-loop-i
invariant-loop-i l = (length l.to ≡ length l.from) × SameUpto l.to l.from l.i
