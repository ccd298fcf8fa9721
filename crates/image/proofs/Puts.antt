-- One byte more of a word. Assumes nothing.
use Rattle.std.proofs.Common.{◌≡◌, ℕ, ◌+◌, ◌-◌, cond, ◌&&◌, nat_eq, nat_lt, nat_le, arith}
use Rattle.std.proofs.lemmas.Bool.Decides.{nat_tests}

pub byte_more : (value : ℕ → ℕ) (t k a old now new : ℕ) → now ≡ cond (nat_le t a && nat_lt a (t + k)) (value (a - t)) old → new ≡ cond (nat_eq a (t + k)) (value k) now → new ≡ cond (nat_le t a && nat_lt a (t + (k + 1))) (value (a - t)) old
byte_more value t k a old now new before put = grind (arith, nat_tests)
