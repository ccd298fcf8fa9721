-- The list of free frames. Assumes nothing.
use Rattle.std.proofs.Common.{◌≡◌, ℕ, zero, suc, ◌+◌, ◌<◌, ◌≤◌, true, ltb, List, length, get_or, set, sym, refl, subst, arith, get_or-set_other, get_or-set_same}
use Rattle.std.proofs.lemmas.Bool.{and_parts, and_from, eqb-true, eq-eqb, ltb-true, lt-ltb}
use Rattle.space.specs.Frames.{chained}

pub chain_end : (t : ℕ) (free : List ℕ) (h : ℕ) → chained t free h 0 ≡ true → h ≡ t
unfolding chained
chain_end t free h e = eqb-true h t e

pub chain_parts : (t : ℕ) (free : List ℕ) (h n : ℕ) → chained t free h (suc n) ≡ true → (h < t) × (chained t free (get_or free h 0) n ≡ true)
unfolding chained
chain_parts t free h n e =
    let a = and_parts (ltb h t) (chained t free (get_or free h 0) n) e in
    (ltb-true h t a.0, a.1)

pub chain_more : (t : ℕ) (free : List ℕ) (h n : ℕ) → h < t → chained t free (get_or free h 0) n ≡ true → chained t free h (suc n) ≡ true
unfolding chained
chain_more t free h n l e = and_from (ltb h t) (chained t free (get_or free h 0) n) (lt-ltb h t l) e

pub chain_done : (t : ℕ) (free : List ℕ) (h : ℕ) → h ≡ t → chained t free h 0 ≡ true
unfolding chained
chain_done t free h e = eq-eqb h t e

-- What a list begins with.
pub chain_le : (t : ℕ) (free : List ℕ) (h n : ℕ) → chained t free h n ≡ true → h ≤ t
chain_le t free h zero e = omega (arith, chain_end t free h e)
chain_le t free h (suc n) e = omega (arith, (chain_parts t free h n e).0)

-- A list has one length.
pub chain_unique : (t : ℕ) (free : List ℕ) (h m n : ℕ) → chained t free h m ≡ true → chained t free h n ≡ true → m ≡ n
chain_unique t free h zero zero a b = refl
chain_unique t free h zero (suc n) a b = absurd (omega (arith, chain_end t free h a, (chain_parts t free h n b).0))
chain_unique t free h (suc m) zero a b = absurd (omega (arith, chain_end t free h b, (chain_parts t free h m a).0))
chain_unique t free h (suc m) (suc n) a b =
    let e = chain_unique t free (get_or free h 0) m n (chain_parts t free h m a).1 (chain_parts t free h n b).1 in omega arith

-- A change that the list does not meet leaves it.
pub chain_skip : (t : ℕ) (free : List ℕ) (f v h n : ℕ) → ((k : ℕ) → k ≤ n → chained t free f k ≡ true → ⊥) → chained t free h n ≡ true → chained t (set free f v) h n ≡ true
chain_skip t free f v h zero apart e = chain_done t (set free f v) h (chain_end t free h e)
chain_skip t free f v h (suc n) apart e =
    let p = chain_parts t free h n e in
    let other = get_or-set_other free f h v 0 (λ q. apart (suc n) (omega arith) (subst (λ x. chained t free x (suc n) ≡ true) q e)) in
    chain_more t (set free f v) h n p.0
    (subst (λ x. chained t (set free f v) x n ≡ true) (sym other) (chain_skip t free f v (get_or free h 0) n (λ k l. apart k (omega arith)) p.1))

-- The first frame goes.
pub chain_pop : (t : ℕ) (free : List ℕ) (v h n : ℕ) → chained t free h (suc n) ≡ true → chained t (set free h v) (get_or free h 0) n ≡ true
chain_pop t free v h n e =
    chain_skip t free h v (get_or free h 0) n (λ k l q. let u = chain_unique t free h k (suc n) q e in omega arith) (chain_parts t free h n e).1

-- A frame in use comes first.
pub chain_push : (t : ℕ) (free : List ℕ) (f h n : ℕ) → f < t → f < length free → t < get_or free f 0 → chained t free h n ≡ true → chained t (set free f h) f (suc n) ≡ true
chain_push t free f h n l within used e =
    let same = get_or-set_same free f h 0 within in
    let kept = chain_skip t free f h h n (λ k d q. not_in k q) e in
    chain_more t (set free f h) f n l (subst (λ x. chained t (set free f h) x n ≡ true) (sym same) kept)
  where
    not_in : (k : ℕ) → chained t free f k ≡ true → ⊥
    not_in zero q = omega (arith, chain_end t free f q)
    not_in (suc k) q = omega (arith, chain_le t free (get_or free f 0) k (chain_parts t free f k q).1)

-- Each entry names the next.
pub chain_whole : (t : ℕ) (free : List ℕ) → ((k : ℕ) → k < t → get_or free k 0 ≡ k + 1) → (n h : ℕ) → h + n ≡ t → chained t free h n ≡ true
chain_whole t free next zero h e = chain_done t free h (omega arith)
chain_whole t free next (suc n) h e =
    chain_more t free h n (omega arith)
    (subst (λ x. chained t free x n ≡ true) (sym (next h (omega arith))) (chain_whole t free next n (h + 1) (omega arith)))
