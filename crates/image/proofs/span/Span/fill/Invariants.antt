use Rattle.std.proofs.Common.{◌≡◌, ℕ, ◌+◌, ◌^◌, ◌<◌, ◌≤◌, slice_index_or}
use Rattle.image.proofs.span.Span.fill.Given as goal

-- The items so far are made.
abbrev pub invariant-loop-j : goal.invariant-loop-j
invariant-loop-j g l =
    ((k : ℕ) (d : _) → k < l.j → l.address + k < 2 ^ 64 → goal.F-post g l.make (l.address + k) (slice_index_or l.items k d))
    × ((k : ℕ) (d : _) → k < l.j → 2 ^ 64 ≤ l.address + k → slice_index_or l.items k d ≡ l.none)
