-- What writes leave of memory. Assumes nothing.
use Rattle.std.proofs.Common.{ℕ, ◌-◌, List, set, arith, length-set}
use Rattle.std.proofs.lemmas.Grind.{common_steps}
use Rattle.space.specs.Memory.{Bytes, Apart, Zeroed}

-- One byte is written.
pub apart_one : (at v : ℕ) (xs : List ℕ) → Apart at 1 xs (set xs at v)
apart_one at v xs = record { long = length-set xs at v; rest = λ k o. grind (arith, common_steps) }

-- Zeros among bytes are bytes.
pub bytes_zeroed : (at n : ℕ) (xs ys : List ℕ) → Bytes xs → Zeroed at n xs ys → Bytes ys
bytes_zeroed at n xs ys bytes z k = let here = z.zero (k - at) in let rest = z.apart.rest k in let was = bytes k in grind arith
