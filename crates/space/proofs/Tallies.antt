-- Counts that change by one. Assumes nothing.
use Rattle.std.proofs.Common.{◌≡◌, ℕ, zero, suc, ◌+◌, ◌<◌, ◌≤◌, None, Option, refl, ap, ⊎_elim, arith}
use Rattle.std.proofs.lemmas.Bool.{cases_eq}
use Rattle.space.specs.declared.parts.Mapping.{Mapping}
use Rattle.space.specs.Meaning.{one, tally}

pub tally_none : (page : ℕ → Option Mapping) → ((q : ℕ) → page q ≡ None) → (a n : ℕ) → tally page a n ≡ 0
unfolding tally
tally_none page none a zero = refl
tally_none page none a (suc n) = let e = tally_none page none a n in let f = ap one (none (a + n)) in omega arith

pub tally_same : (page other : ℕ → Option Mapping) (a n : ℕ) → ((q : ℕ) → q < a + n → other q ≡ page q) → tally other a n ≡ tally page a n
unfolding tally
tally_same page other a zero same = refl
tally_same page other a (suc n) same =
    let e = tally_same page other a n (λ q h. same q (omega arith)) in
    let f = ap one (same (a + n) (omega arith)) in
    omega arith

-- One page more.
pub tally_more : (page other : ℕ → Option Mapping) (p a n : ℕ) → a ≤ p → p < a + n → one (page p) ≡ 0 → one (other p) ≡ 1 → ((q : ℕ) → (q ≡ p → ⊥) → other q ≡ page q) → tally other a n ≡ tally page a n + 1
unfolding tally
tally_more page other p a zero low high was is same = absurd (omega arith)
tally_more page other p a (suc n) low high was is same =
    let before = tally_same page other a n in
    let more = tally_more page other p a n low in
    let here = same (a + n) in
    ⊎_elim (λ (e : p ≡ a + n). let s = before (λ q h. same q (omega arith)) in grind arith) (λ (ne : p ≡ a + n → ⊥). let s = more (omega arith) was is same in grind arith) (cases_eq p (a + n))
