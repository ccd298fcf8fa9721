-- Numbers stored in bytes, and what writes leave of them. Assumes nothing.
use Rattle.std.proofs.Common.{◌≡◌, ℕ, zero, suc, ◌+◌, ◌-◌, ◌*◌, ◌^◌, ◌<◌, ◌≤◌, ◌⊎◌, List, ◌++◌, get_or, take, drop, get_or-take, get_or-drop, refl, ap, ◌∙◌, zero-mul, arith, lit<}
use Rattle.byteorder.specs.Endian.{little_number, little_bytes}
use Rattle.byteorder.specs.Numbers.{little_number-reads_back}
use Rattle.space.specs.Memory.{Apart, Zeroed}
use Rattle.sv39.specs.Walks.{le}
use Rattle.sv39.specs.Tables.{word}
use Rattle.sv39.specs.Writes.{Written}

-- The number depends on its bytes alone, wherever they stand.
pub le_same : (xs ys : List ℕ) (at to n : ℕ) → ((i : ℕ) → i < n → get_or ys (to + i) 0 ≡ get_or xs (at + i) 0) → le ys to n ≡ le xs at n
unfolding le
le_same xs ys at to zero same = refl
le_same xs ys at to (suc n) same = rw (le_same xs ys at to n (λ i h. same i (omega arith)), same n (omega arith))

pub le_zero : (xs : List ℕ) (at n : ℕ) → ((i : ℕ) → i < n → get_or xs (at + i) 0 ≡ 0) → le xs at n ≡ 0
unfolding le
le_zero xs at zero none = refl
le_zero xs at (suc n) none =
    rw (le_zero xs at n (λ i h. none i (omega arith)), none n (omega arith)) (omega (arith, zero-mul (256 ^ n)))

-- The bytes of a part of a list that is cut from another.
pub cut : (xs ys zs : List ℕ) (s e n : ℕ) → ys ≡ take (e - s) (drop s xs) → zs ≡ take n ys → s + n ≤ e → (i : ℕ) → i < n → get_or zs i 0 ≡ get_or xs (s + i) 0
cut xs ys zs s e n ys_is zs_is fits i h =
    ap (λ l. get_or l i 0) zs_is ∙ get_or-take n ys i 0 h ∙ ap (λ l. get_or l i 0) ys_is ∙ get_or-take (e - s) (drop s xs) i 0 (omega arith) ∙ get_or-drop s xs i 0

-- Eight bytes stand for the number that the library reads from them.
pub le_bytes : (xs bs : List ℕ) (at : ℕ) → ((i : ℕ) → i < 8 → get_or xs (at + i) 0 ≡ get_or bs i 0) → le xs at 8 ≡ little_number 8 bs
unfolding le
le_bytes xs bs at same =
    omega (arith, same 0 (lit< tt), same 1 (lit< tt), same 2 (lit< tt), same 3 (lit< tt), same 4 (lit< tt), same 5 (lit< tt), same 6 (lit< tt), same 7 (lit< tt))

-- A number's bytes are written to an entry.
pub written : {k v : ℕ} {xs ys rest : List ℕ} (bs : List ℕ) → Apart (8 * k) 8 xs ys → ((i : ℕ) → i < 8 → get_or ys (8 * k + i) 0 ≡ get_or bs i 0) → bs ≡ little_bytes 8 v ++ rest → v < 2 ^ 64 → Written k v xs ys
written {k} {v} {xs} {ys} {rest} bs apart bytes number fits =
    record { apart = apart; here = le_bytes ys bs (8 * k) bytes ∙ ap (little_number 8) number ∙ little_number-reads_back 8 v rest fits }

-- An entry that a write does not meet stays.
pub word_apart : {at n : ℕ} {xs ys : List ℕ} → Apart at n xs ys → (k : ℕ) → (8 * k + 8 ≤ at) ⊎ (at + n ≤ 8 * k) → word ys k ≡ word xs k
word_apart {at} {n} {xs} {ys} z k o = le_same xs ys (8 * k) (8 * k) 8 (λ i h.
    z.rest (8 * k + i) (grind arith))

pub word_zeroed : {at n : ℕ} {xs ys : List ℕ} → Zeroed at n xs ys → (k : ℕ) → at ≤ 8 * k → 8 * k + 8 ≤ at + n → word ys k ≡ 0
word_zeroed {at} {n} {xs} {ys} z k low high = le_zero ys (8 * k) 8 (λ i h.
    let d : 8 * k + i ≡ at + (8 * k + i - at) = omega arith in
    ap (λ j. get_or ys j 0) d ∙ z.zero (8 * k + i - at) (omega arith))

-- What a leaf of a level covers.
pub span : (l : ℕ) → l < 3 → (0 < 512 ^ l) × (512 ^ l < 2 ^ 64)
span zero h = (lit< tt, lit< tt)
span (suc zero) h = (lit< tt, lit< tt)
span (suc (suc zero)) h = (lit< tt, lit< tt)
span (suc (suc (suc l))) h = absurd (omega arith)
