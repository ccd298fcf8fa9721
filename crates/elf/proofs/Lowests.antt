-- The lowest number that passes a test. Assumes nothing.
use Rattle.std.proofs.Common.{◌≡◌, ℕ, zero, suc, ◌<◌, ◌≤◌, Bool, true, cond, ltb, ◌⊎◌, Decides, sym, refl, ◌∙◌, subst, inl, inr, arith}
use Rattle.std.proofs.lemmas.Bool.{cases_lt, cases_Bool, lt-ltb, le-ltb, cond-true, cond-false, cases_order, both_ways}
use Rattle.elf.specs.Searches.{Lowest, lowest}

module _ (test : ℕ → Bool) where
  -- What the lowest number is: one that passes and has none below it, or the end.
  pub lowest_is : (n : ℕ) → (Lowest n (λ i. test i ≡ true) (lowest test n)) ⊎ ((lowest test n ≡ n) × ((i : ℕ) → i < n → test i ≡ true → ⊥))
  unfolding lowest
  lowest_is zero = inr (refl, λ i h. absurd (omega arith))
  lowest_is (suc n) =
      let m = lowest test n in
      elim (lowest_is n) [
        | inl found ↦
            let e : cond (ltb m n) m (cond (test n) n (suc n)) ≡ m = cond-true (ltb m n) m (cond (test n) n (suc n)) (lt-ltb m n found.within) in
            let more : Lowest (suc n) (λ i. test i ≡ true) m = record { within = let w = found.within in omega arith; fits = found.fits; lowest = found.lowest } in
            inl (subst (Lowest (suc n) (λ i. test i ≡ true)) (sym e) more)
        | inr absent ↦
            let at_end : n ≤ m = omega (arith, absent.0) in
            let e : cond (ltb m n) m (cond (test n) n (suc n)) ≡ cond (test n) n (suc n) = cond-false (ltb m n) m (cond (test n) n (suc n)) (le-ltb m n at_end) in
            elim (cases_Bool (test n)) [
              | inl pass ↦
                  let here : Lowest (suc n) (λ i. test i ≡ true) n = record { within = omega arith; fits = pass; lowest = absent.1 } in
                  inl (subst (Lowest (suc n) (λ i. test i ≡ true)) (sym (e ∙ cond-true (test n) n (suc n) pass)) here)
              | inr fail ↦
                  inr (
                    e ∙ cond-false (test n) n (suc n) fail,
                    λ i h t.
                        elim (cases_lt i n) [
                          | inl below ↦ absent.1 i below t
                          | inr last ↦ let here : i ≡ n = omega arith in absurd (both_ways (test n) fail (subst (λ (k : ℕ). test k ≡ true) here t))
                        ],
                  )
            ]
      ]

  -- The lowest number of which P holds is the one that the test finds.
  pub lowest_found : (P : ℕ → Type 0) (n i : ℕ) → ((j : ℕ) → Decides (test j) (P j)) → Lowest n P i → lowest test n ≡ i
  lowest_found P n i tells found =
      elim (lowest_is n) [
        | inl mine ↦
            let m = lowest test n in
            elim (cases_order m i) [
              | inl same ↦ same
              | inr (inl less) ↦ absurd (found.lowest m less ((tells m).0 mine.fits))
              | inr (inr more) ↦ absurd (mine.lowest i more ((tells i).1 found.fits))
            ]
        | inr absent ↦ absurd (absent.1 i found.within ((tells i).1 found.fits))
      ]

  -- Where P holds of none, the test finds the end.
  pub lowest_none : (P : ℕ → Type 0) (n : ℕ) → ((j : ℕ) → Decides (test j) (P j)) → ((i : ℕ) → i < n → P i → ⊥) → lowest test n ≡ n
  lowest_none P n tells absent =
      elim (lowest_is n) [
        | inl mine ↦ absurd (absent (lowest test n) mine.within ((tells (lowest test n)).0 mine.fits))
        | inr end ↦ end.0
      ]

  pub lowest_most : (n : ℕ) → lowest test n ≤ n
  lowest_most n = elim (lowest_is n) [ inl mine ↦ let w = mine.within in omega arith | inr end ↦ omega (arith, end.0) ]
