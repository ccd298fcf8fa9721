-- A page is cut out of a run. Assumes nothing.
use Rattle.std.proofs.Common.{◌≡◌, true, ℕ, zero, suc, ◌+◌, ◌-◌, ◌^◌, ◌<◌, ◌≤◌, List, [], ◌∷◌, ◌++◌, take, drop, set, Some, None, Option, sym, refl, ap, ◌∙◌, subst, ⊎_elim, arith}
use Rattle.std.specs.List.{slice_get, insert, remove}
use Rattle.std.proofs.lemmas.List.Sums.{sum_by-append, sum_by-cons}
use Rattle.std.proofs.lemmas.Option.{slice_get_within}
use Rattle.regions.specs.declared.run.Run.{Run}
use Rattle.regions.specs.declared.runs.Runs.{Runs}
use Rattle.regions.specs.Runs.{Holds, mapping_of, in_order, InOrder, pages, in_use}
use Rattle.regions.specs.Changes.{before, after, Cuttable, Changed}
use Rattle.regions.proofs.Mappings.{head, ascending_more, held_or_not, mapping_here, mapping_later, unheld_none, before_later}
use Rattle.regions.proofs.Orders.{last, order_parts, order_joined, order_earlier, get_taken, get_dropped, split_at, written, used_long}
use Rattle.regions.proofs.Chains.{Aside, Chain, final, chain_parts, chain_joined, chain_from, chain_pairs, chain_swapped}
use Rattle.regions.proofs.Joins.{behind, behind_none}

-- The run, where it has a page, and the rest.
abbrev pub with : ℕ → Run → List Run → List Run
with zero r ys = ys
with (suc n) r ys = r ∷ ys

module _ (r : Run) (ys : List Run) where
  with_page : (n q : ℕ) → n ≡ r.count → mapping_of (with n r ys) q ≡ mapping_of (r ∷ ys) q
  with_page zero q e = sym (mapping_later r ys q (λ l. omega (arith, l.0, l.1)))
  with_page (suc n) q e = refl

  with_order : (n a b : ℕ) → n ≡ r.count → a ≤ r.first → in_order (r.first + r.count) b ys ≡ true → in_order a b (with n r ys) ≡ true
  with_order zero a b e l o = order_earlier (r.first + r.count) a b ys o (omega arith)
  with_order (suc n) a b e l o = ascending_more a b r ys l (omega arith) o

  with_count : (n : ℕ) → n ≡ r.count → pages (with n r ys) ≡ r.count + pages ys
  with_count zero e = omega arith
  with_count (suc n) e = sum_by-cons (λ (s : Run). s.count) r ys

-- The run ends by the page, if there is one.
abbrev pub EndsBy : Option Run → ℕ → Type 0
EndsBy None n = Unit {0}
EndsBy (Some x) n = x.first + x.count ≤ n

ends_later : (o : Option Run) (a b : ℕ) → EndsBy o a → a ≤ b → EndsBy o b
ends_later None a b e l = tt
ends_later (Some x) a b e l = omega arith

final_ends : (o : Option Run) (a : ℕ) (rs : List Run) → EndsBy o a → EndsBy (final o rs) (last a rs)
final_ends o a [] e = e
final_ends o a (r ∷ rs) e = final_ends (Some r) (r.first + r.count) rs (omega arith)

-- What is left of a run and the rest.
abbrev pub left : Run → ℕ → List Run → List Run
left r p ys = with (before r p).count (before r p) (with (after r p).count (after r p) ys)

module _ (r : Run) (p : ℕ) (l : Holds r p) where
  left_frame : (q : ℕ) → Holds (after r p) q → r.frame + (p + 1 - r.first) + (q - (p + 1)) ≡ r.frame + (q - r.first)
  left_frame q g = omega (arith, g.0, l.0)

  left_page : (ys : List Run) (q : ℕ) → (q ≡ p → ⊥) → mapping_of (left r p ys) q ≡ mapping_of (r ∷ ys) q
  left_page ys q ne =
      let ws = with (after r p).count (after r p) ys in
      with_page (before r p) ws (before r p).count q refl ∙ ⊎_elim
      (λ (f : Holds (before r p) q). mapping_here (before r p) ws q f ∙ sym (mapping_here r ys q (f.0, omega (arith, f.1, l.0, l.1))))
      (λ (f : Holds (before r p) q → ⊥). mapping_later (before r p) ws q f ∙ with_page (after r p) ys (after r p).count q refl ∙ ⊎_elim
      (λ (g : Holds (after r p) q).
      mapping_here (after r p) ys q g ∙ ap (λ (n : ℕ). Some (record { frame = n; rights = r.rights })) (left_frame q g)
      ∙ sym (mapping_here r ys q (omega (arith, g.0, l.0), omega (arith, g.1, l.1))))
      (λ (g : Holds (after r p) q → ⊥).
      mapping_later (after r p) ys q g
      ∙ sym (mapping_later r ys q (λ h.
      let x : r.first ≤ q → q < r.first + (p - r.first) → ⊥ = λ i j. f (i, j) in
      let y : p + 1 ≤ q → q < p + 1 + (r.first + r.count - (p + 1)) → ⊥ = λ i j. g (i, j) in
      grind (arith, h.0, h.1, l.0, l.1))))
      (held_or_not (after r p) q))
      (held_or_not (before r p) q)

  left_here : (ys : List Run) → mapping_of ys p ≡ None → mapping_of (left r p ys) p ≡ None
  left_here ys none =
      let ws = with (after r p).count (after r p) ys in
      with_page (before r p) ws (before r p).count p refl
      ∙ mapping_later (before r p) ws p (λ f. omega (arith, f.1, l.0))
      ∙ with_page (after r p) ys (after r p).count p refl
      ∙ mapping_later (after r p) ys p (λ g. omega (arith, g.0))
      ∙ none

  left_order : (a b : ℕ) (ys : List Run) → in_order a b (r ∷ ys) ≡ true → in_order a b (left r p ys) ≡ true
  left_order a b ys o =
      let h = head a b r ys o in
      let ws = with (after r p).count (after r p) ys in
      with_order (before r p) ws (before r p).count a b refl h.low
      (with_order (after r p) ys (after r p).count (r.first + (p - r.first)) b refl (omega (arith, l.0))
      (subst (λ n. in_order n b ys ≡ true) (let z : r.first + r.count ≡ p + 1 + (r.first + r.count - (p + 1)) = omega (arith, l.1) in z) h.rest))

  left_count : (ys : List Run) → pages (left r p ys) + 1 ≡ r.count + pages ys
  left_count ys =
      let ws = with (after r p).count (after r p) ys in
      let a = with_count (before r p) ws (before r p).count refl in
      let b = with_count (after r p) ys (after r p).count refl in
      omega (arith, l.0, l.1)

-- What comes before the run and what is left of it do not go on from each other where the run's neighbours do not.
module _ (r : Run) (p : ℕ) (l : Holds r p) (ys : List Run) (b : ℕ) (order : in_order (r.first + r.count) b ys ≡ true) (chain : Chain (Some r) ys) where
  chain_after : Chain (Some (after r p)) ys
  chain_after = chain_swapped r (after r p) ys (λ y m. (omega (arith, m.0, l.1), omega (arith, m.1, l.0, l.1), m.2)) chain

  -- A run that ends by the page does not go on with what comes behind the run.
  chain_far : (u : Run) (zs : List Run) → u.first + u.count ≤ p → in_order (r.first + r.count) b zs ≡ true → Chain (Some r) zs → Chain (Some u) zs
  chain_far u [] e o c = tt
  chain_far u (z ∷ zs) e o c = let h = head (r.first + r.count) b z zs o in (λ m. omega (arith, m.0, h.low, l.1), c.1)

  chain_early : (o : Option Run) (zs : List Run) → EndsBy o r.first → in_order (r.first + r.count) b zs ≡ true → Chain (Some r) zs → Chain o zs
  chain_early None [] e f c = tt
  chain_early None (z ∷ zs) e f c = (tt, c.1)
  chain_early (Some u) zs e f c = chain_far u zs (omega (arith, l.0)) f c

  aside_after : (o : Option Run) → EndsBy o r.first → Aside o (after r p)
  aside_after None e = tt
  aside_after (Some x) e = λ m. omega (arith, m.0, l.0)

  aside_before : (o : Option Run) → Aside o r → Aside o (before r p)
  aside_before None a = tt
  aside_before (Some x) a = a

  with_chain : (o : Option Run) (u : Run) (zs : List Run) (n : ℕ) → Chain o zs → Aside o u → Chain (Some u) zs → Chain o (with n u zs)
  with_chain o u zs zero c a d = c
  with_chain o u zs (suc n) c a d = (a, d)

  left_chain : (o : Option Run) → EndsBy o r.first → Aside o r → Chain o (left r p ys)
  left_chain o e a =
      let ws = with (after r p).count (after r p) ys in
      with_chain o (before r p) ws (before r p).count
      (with_chain o (after r p) ys (after r p).count (chain_early o ys e order chain) (aside_after o e) chain_after)
      (aside_before o a)
      (with_chain (Some (before r p)) (after r p) ys (after r p).count (chain_far (before r p) ys (omega (arith, l.0)) order chain) (λ m. omega (arith, m.0, l.0)) chain_after)

-- The list in which the page is cut out of run k.
abbrev pub without : List Run → ℕ → Run → ℕ → List Run
without rs k r p = take k rs ++ left r p (drop (suc k) rs)

module _ (rs : List Run) (k : ℕ) (r : Run) (p : ℕ) (o : InOrder rs) (at : slice_get rs k ≡ Some r) (l : Holds r p) where
  split : rs ≡ take k rs ++ r ∷ drop (suc k) rs
  split = split_at k rs r at

  front_none : mapping_of (take k rs) p ≡ None
  front_none = unheld_none (take k rs) p (λ i s e f.
      let g = get_taken k rs i s e in
      omega (arith, f.1, l.0, before_later 0 (2 ^ 26) rs i k s r o.ascending g.0 g.1 at))

  back_none : mapping_of (drop (suc k) rs) p ≡ None
  back_none = unheld_none (drop (suc k) rs) p (λ i s e f.
      omega (arith, f.0, l.1, before_later 0 (2 ^ 26) rs k (suc k + i) r s o.ascending (omega arith) at (sym (get_dropped (suc k) rs i) ∙ e)))

  parts : (in_order 0 (last 0 (take k rs)) (take k rs) ≡ true) × (in_order (last 0 (take k rs)) (2 ^ 26) (r ∷ drop (suc k) rs) ≡ true)
  parts = order_parts 0 (2 ^ 26) (take k rs) (r ∷ drop (suc k) rs) (subst (λ ss. in_order 0 (2 ^ 26) ss ≡ true) split o.ascending)

  cut_order : in_order 0 (2 ^ 26) (without rs k r p) ≡ true
  cut_order =
      order_joined 0 (last 0 (take k rs)) (2 ^ 26) (take k rs) (left r p (drop (suc k) rs)) parts.0
      (left_order r p l (last 0 (take k rs)) (2 ^ 26) (drop (suc k) rs) parts.1)

  cut_chain : Chain None (without rs k r p)
  cut_chain =
      let c = chain_parts None (take k rs) (r ∷ drop (suc k) rs) (subst (Chain None) split (chain_from None rs (λ s e. tt) o.apart)) in
      let h = head (last 0 (take k rs)) (2 ^ 26) r (drop (suc k) rs) parts.1 in
      chain_joined None (take k rs) (left r p (drop (suc k) rs)) c.0
      (left_chain r p l (drop (suc k) rs) (2 ^ 26) h.rest c.1.1 (final None (take k rs)) (ends_later _ _ _ (final_ends None 0 (take k rs) tt) h.low) c.1.0)

  pub cut_changed : Changed p None rs (without rs k r p)
  cut_changed = record {
    here = behind_none (take k rs) (left r p (drop (suc k) rs)) p front_none ∙ left_here r p l (drop (suc k) rs) back_none;
    page = λ q ne.
        behind (take k rs) (r ∷ drop (suc k) rs) (left r p (drop (suc k) rs)) q (left_page r p l (drop (suc k) rs) q ne)
        ∙ ap (λ ss. mapping_of ss q) (sym split);
    order = record { ascending = cut_order; apart = chain_pairs None (without rs k r p) cut_chain };
  }

  pub cut_count : pages (without rs k r p) + 1 ≡ pages rs
  cut_count =
      let a = sum_by-append (λ (s : Run). s.count) (take k rs) (left r p (drop (suc k) rs)) in
      let b = sum_by-append (λ (s : Run). s.count) (take k rs) (r ∷ drop (suc k) rs) in
      let c = sum_by-cons (λ (s : Run). s.count) r (drop (suc k) rs) in
      let d = left_count r p l (drop (suc k) rs) in
      omega (arith, ap pages split)

with_none : (n : ℕ) (r : Run) (ys : List Run) → n ≡ 0 → with n r ys ≡ ys
with_none zero r ys e = refl
with_none (suc n) r ys e = absurd (omega arith)

with_some : (n : ℕ) (r : Run) (ys : List Run) → 0 < n → with n r ys ≡ r ∷ ys
with_some zero r ys e = absurd (omega arith)
with_some (suc n) r ys e = refl

-- Two runs for run k.
doubled : (k : ℕ) (rs : List Run) (r a b : Run) → slice_get rs k ≡ Some r → insert (set rs k a) (suc k) b ≡ take k rs ++ a ∷ (b ∷ drop (suc k) rs)
doubled k [] r a b e = cc
doubled zero (s ∷ rs) r a b e = refl
doubled (suc k) (s ∷ rs) r a b e = ap (λ ts. s ∷ ts) (doubled k rs r a b e)

-- What a cut comes to.
pub record Cut (p : ℕ) (rs ss : List Run) : Type 0 where
  pub changed : Changed p None rs ss
  pub count : pages ss + 1 ≡ pages rs

-- The run that is cut holds the page, and is one of those in use.
cut_holds : (z : Runs) (p k : ℕ) (r : Run) → Cuttable z p k → slice_get (in_use z) k ≡ Some r → Holds r p
cut_holds z p k r c e = let is : c.run ≡ r = cc (c.there) in subst (λ s. Holds s p) is c.holds

pub cut_within : (z : Runs) (p k : ℕ) → Cuttable z p k → k < z.used
cut_within z p k c = let w = slice_get_within (in_use z) k c.run c.there in omega (arith, used_long z)

-- Each way of cutting a page out of run k, by what it leaves before and behind it.
module _ (z : Runs) (ss : List Run) (k p : ℕ) (r x y : Run) (o : InOrder (in_use z)) (c : Cuttable z p k) (at : slice_get (in_use z) k ≡ Some r) (x_is : x ≡ before r p) (y_is : y ≡ after r p) where
  done : ss ≡ without (in_use z) k r p → Cut p (in_use z) ss
  done e =
      let l = cut_holds z p k r c at in
      subst (Cut p (in_use z)) (sym e) (record { changed = cut_changed (in_use z) k r p o at l; count = cut_count (in_use z) k r p o at l })

  front : x.count ≡ (before r p).count
  front = ap (λ (s : Run). s.count) x_is

  back : y.count ≡ (after r p).count
  back = ap (λ (s : Run). s.count) y_is

  pub cut_none : x.count ≡ 0 → y.count ≡ 0 → ss ≡ remove (in_use z) k → Cut p (in_use z) ss
  cut_none b a e =
      done (e ∙ ap (λ ys. take k (in_use z) ++ ys) (sym (with_none _ (before r p) _ (sym front ∙ b) ∙ with_none _ (after r p) (drop (suc k) (in_use z)) (sym back ∙ a))))

  pub cut_after : x.count ≡ 0 → (y.count ≡ 0 → ⊥) → ss ≡ set (in_use z) k y → Cut p (in_use z) ss
  cut_after b a e =
      let some : 0 < (after r p).count = omega (arith, back) in
      done (e ∙ ap (set (in_use z) k) y_is ∙ written k (in_use z) r (after r p) at
      ∙ ap (λ ys. take k (in_use z) ++ ys) (sym (with_none _ (before r p) _ (sym front ∙ b) ∙ with_some _ (after r p) (drop (suc k) (in_use z)) some)))

  pub cut_before : (x.count ≡ 0 → ⊥) → y.count ≡ 0 → ss ≡ set (in_use z) k x → Cut p (in_use z) ss
  cut_before b a e =
      let some : 0 < (before r p).count = omega (arith, front) in
      done (e ∙ ap (set (in_use z) k) x_is ∙ written k (in_use z) r (before r p) at
      ∙ ap (λ ys. take k (in_use z) ++ ys) (sym (with_some _ (before r p) _ some ∙ ap (λ ys. before r p ∷ ys) (with_none _ (after r p) (drop (suc k) (in_use z)) (sym back ∙ a)))))

  pub cut_both : (x.count ≡ 0 → ⊥) → (y.count ≡ 0 → ⊥) → (ts : List Run) → ts ≡ set (in_use z) k x → ss ≡ insert ts (k + 1) y → Cut p (in_use z) ss
  cut_both b a ts d e =
      let low : 0 < (before r p).count = omega (arith, front) in
      let high : 0 < (after r p).count = omega (arith, back) in
      let next : k + 1 ≡ suc k = omega arith in
      done (e ∙ ap (λ us. insert us (k + 1) y) (d ∙ ap (set (in_use z) k) x_is) ∙ ap (insert (set (in_use z) k (before r p)) (k + 1)) y_is
      ∙ ap (λ n. insert (set (in_use z) k (before r p)) n (after r p)) next ∙ doubled k (in_use z) r (before r p) (after r p) at
      ∙ ap (λ ys. take k (in_use z) ++ ys) (sym (with_some _ (before r p) _ low ∙ ap (λ ys. before r p ∷ ys) (with_some _ (after r p) (drop (suc k) (in_use z)) high))))
