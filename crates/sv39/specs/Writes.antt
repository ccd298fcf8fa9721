-- Writes to the entries of tables, and tables under way. Assumes nothing.
use Rattle.std.specs.Prelude.{◌≡◌, ℕ, ◌+◌, ◌*◌, ◌<◌, cond, List, ◌==◌, nat_lt}
use Rattle.space.specs.Memory.{Apart}
use Rattle.sv39.specs.Entries.{pointer}
use Rattle.sv39.specs.declared.figures.Figures.{Figures}
use Rattle.sv39.specs.Tables.{count, bottom, word}

-- Entry k became v, and the rest is as it was.
pub record Written (k v : ℕ) (xs ys : List ℕ) : Type 0 where
  pub apart : Apart (8 * k) 8 xs ys
  pub here : word ys k ≡ v

-- Root table, middle table with the pointers to n leaf tables, and empty leaf tables.
pub record Built (g : Figures) (n : ℕ) (xs ys : List ℕ) : Type 0 where
  pub apart : Apart 0 ((g.leaves + 2) * 4096) xs ys
  pub root : (i : ℕ) → i < 512 → word ys i ≡ cond (i == g.gigabyte) (pointer (bottom g + 1)) 0
  pub middle : (i : ℕ) → i < 512 → word ys (512 + i) ≡ cond (nat_lt i n) (pointer (bottom g + 2 + i)) 0
  pub slots : (j : ℕ) → j < count g → word ys (1024 + j) ≡ 0
