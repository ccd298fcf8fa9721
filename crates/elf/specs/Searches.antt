-- The lowest and the highest number that something holds of. Assumes nothing.
use Rattle.std.specs.Prelude.{ℕ, zero, suc, ◌<◌, Bool, cond, nat_lt, Option, MatchOption}

-- P holds of some number below n.
abbrev pub SomeBelow : ℕ → (ℕ → Type 0) → Type 0
SomeBelow n P = (i : ℕ) × (i < n) × P i

-- i is the lowest number below n that P holds of.
pub record Lowest (n : ℕ) (P : ℕ → Type 0) (i : ℕ) : Type 0 where
  pub within : i < n
  pub fits : P i
  pub lowest : (j : ℕ) → j < i → P j → ⊥

-- What a search for the first number below n that P holds of finds.
abbrev pub FirstOf : ℕ → (ℕ → Type 0) → Option ℕ → Type 0
FirstOf n P r = MatchOption r ((i : ℕ) → i < n → P i → ⊥) (Lowest n P)

-- i is the highest number below n that P holds of.
pub record Highest (n : ℕ) (P : ℕ → Type 0) (i : ℕ) : Type 0 where
  pub within : i < n
  pub fits : P i
  pub highest : (j : ℕ) → i < j → j < n → P j → ⊥

-- The lowest number below n that passes the test, or n where none does.
unfoldable pub lowest : (ℕ → Bool) → ℕ → ℕ
lowest test zero = 0
lowest test (suc n) = cond (nat_lt (lowest test n) n) (lowest test n) (cond (test n) n (suc n))
