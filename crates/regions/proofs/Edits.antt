-- What is left of a list within a longer one where it is edited in place. Assumes nothing.
use Rattle.std.proofs.Common.{◌≡◌, ℕ, suc, ◌+◌, ◌-◌, ◌<◌, ◌≤◌, List, [], ◌∷◌, ◌++◌, length, get_or, set, take, drop, sym, ap, ◌∙◌, arith, rules, append_assoc, get_or-set_same, get_or-set_other}
use Rattle.std.specs.List.{insert, remove, copy_within}
use Rattle.std.proofs.lemmas.Bool.{cases_eq}
use Rattle.std.proofs.lemmas.List.{same_lists, places, take_more, take-take, drop-take, take_at, set_at, length-take-le, length-drop}
use Rattle.std.proofs.lemmas.List.Edits.{take-paste}

module _ {X : Type 0} (xs : List X) (n i : ℕ) where
  pub taken_set : (x : X) → i < n → n ≤ length xs → take n (set xs i x) ≡ set (take n xs) i x
  taken_set x l w = same_lists _ _ (search (rules, places)) (λ k d h. grind (arith, places, get_or-set_same, get_or-set_other, cases_eq k i))

  -- The first n elements from i on, and what is behind them.
  cut : i ≤ n → drop i (take n xs) ≡ take (n - i) (drop i xs)
  cut l = let e : n ≡ i + (n - i) = omega arith in ap (λ m. drop i (take m xs)) e ∙ drop-take i (n - i) xs

  pub taken_insert : (x : X) → i ≤ n → n < length xs → take (n + 1) (set (copy_within xs i n (i + 1)) i x) ≡ insert (take n xs) i x
  taken_insert x l w =
      let M = take (n - i) (drop i xs) in
      let D = drop (i + 1 + (n - i)) xs in
      let long : length (take i xs) ≡ i = length-take-le i xs (omega arith) in
      let few : length (take i xs ++ x ∷ M) ≡ n + 1 = search (rules, places) in
      let moved : copy_within xs i n (i + 1) ≡ take i xs ++ get_or xs i x ∷ (M ++ D) =
      ap (λ (ys : List X). (ys ++ M) ++ D) (take_more xs i x (omega arith)) ∙ ap (λ (ys : List X). ys ++ D) (append_assoc (take i xs) (get_or xs i x ∷ []) M) ∙ append_assoc (take i xs) (get_or xs i x ∷ M) D in
      ap (λ (ys : List X). take (n + 1) (set ys i x)) moved
      ∙ ap (take (n + 1)) (set_at (take i xs) (get_or xs i x) (M ++ D) x i long ∙ sym (append_assoc (take i xs) (x ∷ M) D))
      ∙ take_at (take i xs ++ x ∷ M) D (n + 1) few
      ∙ sym (ap (λ (ys : List X). ys ++ x ∷ drop i (take n xs)) (take-take i n xs l) ∙ ap (λ (ys : List X). take i xs ++ x ∷ ys) (cut l))

module _ {X : Type 0} (xs : List X) (n i : ℕ) where
  pub taken_remove : i < n → n ≤ length xs → take (n - 1) (copy_within xs (i + 1) n i) ≡ remove (take n xs) i
  taken_remove l w =
      let e : n - 1 ≡ i + (n - (i + 1)) = omega arith in
      let f : suc i ≡ i + 1 = omega arith in
      ap (λ m. take m (copy_within xs (i + 1) n i)) e ∙ take-paste xs i (drop (i + 1) xs) (n - (i + 1)) (omega arith) (let d = length-drop (i + 1) xs in omega arith)
      ∙ sym (ap (λ (ys : List X). ys ++ drop (suc i) (take n xs)) (take-take i n xs (omega arith)) ∙ ap (λ m. take i xs ++ drop m (take n xs)) f ∙ ap (λ (ys : List X). take i xs ++ ys) (cut xs n (i + 1) (omega arith)))
