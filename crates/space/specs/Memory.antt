-- What a write leaves of the memory around it. Assumes nothing.
use Rattle.std.specs.Prelude.{◌≡◌, ℕ, ◌+◌, ◌<◌, ◌≤◌, ◌⊎◌, List, length, slice_index}

-- The memory holds bytes.
abbrev pub Bytes : List ℕ → Type 0
Bytes xs = (k : ℕ) → slice_index xs k < 256

-- Outside the n places from `at` on, ys is xs.
pub record Apart (at n : ℕ) (xs ys : List ℕ) : Type 0 where
  pub long : length ys ≡ length xs
  pub rest : (k : ℕ) → (k < at) ⊎ (at + n ≤ k) → slice_index ys k ≡ slice_index xs k

-- From `at` on there are n zeros, and the rest is as it was.
pub record Zeroed (at n : ℕ) (xs ys : List ℕ) : Type 0 where
  pub apart : Apart at n xs ys
  pub zero : (i : ℕ) → i < n → slice_index ys (at + i) ≡ 0

-- What a wipe of n places from `at` on does: zeros where they lie in the memory, else nothing.
pub record Wiped (at n : ℕ) (xs ys : List ℕ) : Type 0 where
  pub zeroed : at + n ≤ length xs → Zeroed at n xs ys
  pub same : length xs < at + n → ys ≡ xs
