use Rattle.std.proofs.Common.{◌+◌, ◌-◌, cond, ◌&&◌, nat_lt, nat_le}
use Rattle.image.specs.Prescribed.{byte_of}
use Rattle.image.specs.Spans.{Kept, Puts}
use Rattle.image.proofs.words.Span+u8.put_word.Given as goal

-- The bytes of the word so far stand in the buffer, the others are as they were.
abbrev pub invariant-loop-k : goal.invariant-loop-k
invariant-loop-k l =
    Kept l.initial.self l.self
    × Puts l.initial.self l.self (λ a old. cond (nat_le l.target a && nat_lt a (l.target + l.k)) (byte_of l.word (a - l.target)) old)
