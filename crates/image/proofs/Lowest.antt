-- The lowest page of a search among ranges. Assumes nothing.
use Rattle.std.proofs.Common.{◌≡◌, ℕ, ◌+◌, min, max, ◌⊎◌, List, [], ◌∷◌, Some, None, Option, sym, refl, ap, ◌∙◌, subst, inl, inr, arith}
use Rattle.std.specs.List.{fold, reduce, filter_map, cons_option}
use Rattle.std.specs.Option.{option_map}
use Rattle.std.proofs.lemmas.Iterator.Adapters.{option_map_id}
use Rattle.std.proofs.lemmas.Bool.{cases_lt, cases_order}
use Rattle.image.specs.Pages.{Covers, Covered, Outside, LowestOf}
use Rattle.image.specs.declared.ranges.PageRange.{PageRange}

-- A search has one answer.
pub one_answer : (P : ℕ → Type 0) (a b : Option ℕ) → LowestOf P a → LowestOf P b → a ≡ b
one_answer P None None x y = refl
one_answer P None (Some b) x y = absurd (x b y.holds)
one_answer P (Some a) None x y = absurd (y a x.holds)
one_answer P (Some a) (Some b) x y =
    elim (cases_order a b) [
      | inl same ↦ ap Some same
      | inr (inl less) ↦ absurd (y.least a less x.holds)
      | inr (inr more) ↦ absurd (x.least b more y.holds)
    ]

-- The same search, with its two conditions the other way round.
pub swapped : (P Q : ℕ → Type 0) (a : Option ℕ) → LowestOf (λ p. P p × Q p) a → LowestOf (λ p. Q p × P p) a
swapped P Q None absent = λ p h. absent p (h.1, h.0)
swapped P Q (Some a) found = record { holds = (found.holds.1, found.holds.0); least = λ q below h. found.least q below (h.1, h.0) }

-- The least of a list's numbers, its first number apart.
fold_min : (a b : ℕ) (ns : List ℕ) → fold min (min a b) ns ≡ min a (fold min b ns)
fold_min a b [] = refl
fold_min a b (c ∷ ns) = let e : min (min a b) c ≡ min a (min b c) = omega arith in ap (λ (m : ℕ). fold min m ns) e ∙ fold_min a (min b c) ns

-- The lowest page of two searches, for the first of which o is the answer, and for the second the least of ns.
module _ (P Q R : ℕ → Type 0) (split : (p : ℕ) → R p → P p ⊎ Q p) (left : (p : ℕ) → P p → R p) (right : (p : ℕ) → Q p → R p) where
  either : (o : Option ℕ) (ns : List ℕ) → LowestOf P o → LowestOf Q (reduce min ns) → LowestOf R (reduce min (cons_option o ns))
  either None [] none_p none_q = λ p r. elim (split p r) [ inl h ↦ none_p p h | inr h ↦ none_q p h ]
  either None (n ∷ ns) none_p least = record {
    holds = right (fold min n ns) least.holds;
    least = λ q below r. elim (split q r) [ inl h ↦ none_p q h | inr h ↦ least.least q below h ];
  }
  either (Some a) [] least none_q = record {
    holds = left a least.holds;
    least = λ q below r. elim (split q r) [ inl h ↦ least.least q below h | inr h ↦ none_q q h ];
  }
  either (Some a) (n ∷ ns) first second =
      let m = fold min n ns in
      let whole = fold_min a n ns in
      elim (cases_lt m a) [
        | inl less ↦
            let e : m ≡ fold min (min a n) ns = omega arith in
            subst (λ (k : ℕ). LowestOf R (Some k)) e (record {
              holds = right m second.holds;
              least = λ q below r. elim (split q r) [ inl h ↦ first.least q (omega arith) h | inr h ↦ second.least q below h ];
            })
        | inr more ↦
            let e : a ≡ fold min (min a n) ns = omega arith in
            subst (λ (k : ℕ). LowestOf R (Some k)) e (record {
              holds = left a first.holds;
              least = λ q below r. elim (split q r) [ inl h ↦ first.least q below h | inr h ↦ second.least q (omega arith) h ];
            })
      ]

-- What a search for the lowest page of a range answers: a page is wanted where W holds of it.
abbrev pub Answered : (ℕ → Type 0) → PageRange → Type 0
Answered W r = (o : Option ℕ) × LowestOf (λ p. Covers r p × W p) o

-- The lowest page of the ranges of a list, from the answers for each.
module _ (W : ℕ → Type 0) (answer : (r : PageRange) → Answered W r) where
  pub among_lowest : (rs : List PageRange) → LowestOf (λ p. Covered rs p × W p) (reduce min (filter_map (λ r. (answer r).0) rs))
  among_lowest [] = λ p h. h.0
  among_lowest (r ∷ rs) =
      either (λ p. Covers r p × W p) (λ p. Covered rs p × W p) (λ p. Covered (r ∷ rs) p × W p)
      (λ p h. elim h.0 [ inl c ↦ inl (c, h.1) | inr c ↦ inr (c, h.1) ])
      (λ p h. (inl h.0, h.1))
      (λ p h. (inr h.0, h.1))
      (answer r).0 (filter_map (λ r. (answer r).0) rs) (answer r).1 (among_lowest rs)

  pub found_lowest : (rs : List PageRange) (found : Option ℕ) → option_map (λ (p : ℕ). p) found ≡ reduce min (filter_map (λ r. (answer r).0) rs) → LowestOf (λ p. Covered rs p × W p) found
  found_lowest rs found e = subst (LowestOf (λ p. Covered rs p × W p)) (sym e ∙ option_map_id found) (among_lowest rs)

-- The lowest page of a range outside a window.
pub outside_answer : (first count : ℕ) (r : PageRange) → Answered (Outside first count) r
outside_answer first count r =
    elim (cases_lt 0 r.count) [
      | inr empty ↦ (None, λ p h. (let c = h.0 in omega arith))
      | inl some ↦
          elim (cases_lt r.first first) [
            | inl below ↦ (Some r.first, record { holds = (record { from = omega arith; to = omega arith }, inl below); least = λ q less h. (let c = h.0 in omega arith) })
            | inr above ↦
                let start = max (first + count) r.first in
                elim (cases_lt (first + count) (r.first + r.count)) [
                  | inr inside ↦ (None, λ p h. (let c = h.0 in elim h.1 [ inl low ↦ omega arith | inr high ↦ omega arith ]))
                  | inl past ↦ (
                    Some start,
                    record {
                      holds = (record { from = omega arith; to = omega arith }, inr (omega arith));
                      least = λ q less h. (let c = h.0 in elim h.1 [ inl low ↦ omega arith | inr high ↦ omega arith ]);
                    },
                  )
                ]
          ]
    ]

-- The lowest page that two ranges share.
pub shared_answer : (other r : PageRange) → Answered (Covers other) r
shared_answer other r =
    let start = max r.first other.first in
    elim (cases_lt start (min (r.first + r.count) (other.first + other.count))) [
      | inl within ↦ (
        Some start,
        record {
          holds = (record { from = omega arith; to = omega arith }, record { from = omega arith; to = omega arith });
          least = λ q less h. (let c = h.0 in let d = h.1 in omega arith);
        },
      )
      | inr past ↦ (None, λ p h. (let c = h.0 in let d = h.1 in omega arith))
    ]

-- The lowest page of a range that the ranges of a list cover too.
pub within_answer : (others : List PageRange) (r : PageRange) → Answered (Covered others) r
within_answer others r =
    (reduce min (filter_map (λ o. (shared_answer r o).0) others), swapped (Covered others) (Covers r) _ (among_lowest (Covers r) (shared_answer r) others))
