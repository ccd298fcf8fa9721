use Rattle.std.proofs.Common.{ℕ, ◌<◌, false}
use Rattle.elf.proofs.stages.Records.refuse.Given as goal

-- The test fits none of the records so far.
abbrev pub invariant-loop-i : goal.invariant-loop-i
invariant-loop-i g l = (j : ℕ) → j < l.i → goal.F-post g l.test j false
