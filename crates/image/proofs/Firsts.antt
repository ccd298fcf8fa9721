-- What a search in a list finds. Assumes nothing.
use Rattle.std.proofs.Common.{◌≡◌, Bool, true, false, List, [], ◌∷◌, Some, None, sym, refl, ◌∙◌, subst, inl, inr}
use Rattle.std.specs.List.{find, AllByRecursion as Each}
use Rattle.std.proofs.lemmas.Bool.{cases_Bool, cond-true, cond-false}

-- Nothing is found where no item passes.
pub find_none : {X : Type 0} (test : X → Bool) (xs : List X) → Each (λ x. test x ≡ false) xs → find test xs ≡ None
find_none test [] none = refl
find_none test (x ∷ xs) (fails, rest) = cond-false (test x) (Some x) (find test xs) fails ∙ find_none test xs rest

-- What is found passes, and what holds of each item holds of it.
pub find_some : {X : Type 0} (P : X → Type 0) (test : X → Bool) (xs : List X) (y : X) → Each P xs → find test xs ≡ Some y → P y × (test y ≡ true)
find_some P test [] y all e = cc
find_some P test (x ∷ xs) y (first, rest) e =
    elim (cases_Bool (test x)) [
      | inl pass ↦
          let same : Some x ≡ Some y = sym (cond-true (test x) (Some x) (find test xs) pass) ∙ e in
          let eq : x ≡ y = cc in
          subst (λ z. P z × (test z ≡ true)) eq (first, pass)
      | inr fail ↦ find_some P test xs y rest (sym (cond-false (test x) (Some x) (find test xs) fail) ∙ e)
    ]
