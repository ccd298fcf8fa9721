-- A number of an address's width, as the library reads it and as the definitions have it. Assumes nothing.
use Rattle.std.proofs.Common.{◌≡◌, ℕ, zero, suc, ◌+◌, ◌-◌, ◌*◌, ◌^◌, ◌<◌, ◌≤◌, ◌⊎◌, List, take, drop, slice_index, ℤ, pos, negsuc, ◌-ℤ◌, refl, inl, inr, rules, arith, to_z-of_z, to_z, of_z, get_or-take, get_or-drop}
use Rattle.std.proofs.lemmas.Bool.{cases_lt, lt-ltb, le-ltb}
use Rattle.std.proofs.lemmas.Int.{ints}
use Rattle.std.proofs.Math.Nat.{mul-le-mul_right, pow-succ'}
use mir.Syntax.{Width}
use mir.Val.{hbits}
use lib.Signed.{mag}
use Rattle.byteorder.specs.Endian.{little_number, twos_complement}
use Rattle.elf.specs.Bytes.{le}
use Rattle.elf.specs.Records.{signed}

pub number_at : (bytes : List ℕ) (at width n : ℕ) → (width ≡ 4) ⊎ (width ≡ 8) → width ≤ n → little_number width (take n (drop at bytes)) ≡ le bytes at width
unfolding le
number_at bytes at width n (inl four) room = rw four (search (rules, get_or-take, get_or-drop))
number_at bytes at width n (inr eight) room = rw eight (search (rules, get_or-take, get_or-drop))

pub number_small : (bytes : List ℕ) (at width : ℕ) → ((k : ℕ) → slice_index bytes k < 256) → le bytes at width < 256 ^ width
unfolding le
number_small bytes at zero small = omega arith
number_small bytes at (suc width) small =
    let byte = small (at + width) in
    let rest = number_small bytes at width small in
    let high : slice_index bytes (at + width) * 256 ^ width ≤ 255 * 256 ^ width = mul-le-mul_right (256 ^ width) (omega arith) in
    rw (pow-succ' 256 width) (omega arith)

below_zero : (x n : ℕ) → x < n → pos x -ℤ pos n ≡ negsuc (n - 1 - x)
below_zero x n less = omega (arith, ints)

signed_whole : (width half x : ℕ) → 2 ^ (8 * width - 1) ≡ half → 2 ^ (8 * width) ≡ 2 * half → 256 ^ width ≡ 2 * half → x < 2 * half → twos_complement width x ≡ signed width x
unfolding signed
signed_whole width half x top whole same small =
    elim (cases_lt x half) [
      | inl low ↦ rw (top, same, lt-ltb x half low, lt-ltb (2 * x) (2 * half) (omega arith)) refl
      | inr high ↦ rw (top, whole, same, le-ltb x half high, le-ltb (2 * x) (2 * half) (omega arith)) (below_zero x (2 * half) small)
    ]

pub signed_number : (width x : ℕ) → (width ≡ 4) ⊎ (width ≡ 8) → x < 256 ^ width → twos_complement width x ≡ signed width x
signed_number width x (inl four) small =
    let size : 256 ^ width ≡ 2 * 2 ^ 31 = rw four refl in
    signed_whole width (2 ^ 31) x (rw four refl) (rw four refl) size (omega arith)
signed_number width x (inr eight) small =
    let size : 256 ^ width ≡ 2 * 2 ^ 63 = rw eight refl in
    signed_whole width (2 ^ 63) x (rw eight refl) (rw eight refl) size (omega arith)

-- A signed result, to its bits and back.
pub there_and_back : (w : Width) (z : ℤ) → mag z < 2 ^ hbits w → to_z w (of_z w z) ≡ z
there_and_back w z small = to_z-of_z {w = w} {z = z} (record { sfits = small })
