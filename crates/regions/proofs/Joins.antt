-- A page comes to a list of runs, and neighbours are joined. Assumes nothing.
use Rattle.std.proofs.Common.{◌≡◌, true, ℕ, suc, ◌+◌, ◌-◌, ◌^◌, ◌<◌, ◌≤◌, List, [], ◌∷◌, ◌++◌, take, drop, set, length, Some, None, Option, sym, ap, ◌∙◌, subst, inl, inr, ⊎_elim, arith}
use Rattle.std.specs.List.{slice_get, insert}
use Rattle.std.specs.Option.{option_or}
use Rattle.std.proofs.lemmas.List.{take-append-drop, take_at, length-take-le, append_assoc, drop_at as drops}
use Rattle.std.proofs.lemmas.List.Edits.{length-remove}
use Rattle.std.proofs.lemmas.Option.{slice_get_within}
use Rattle.std.proofs.lemmas.List.Sums.{sum_by-append, sum_by-cons, sum_by-insert}
use Rattle.space.specs.declared.parts.Mapping.{Mapping}
use Rattle.regions.specs.declared.run.Run.{Run}
use Rattle.regions.specs.Runs.{Holds, Meets, mapping_of, in_order, InOrder, Apart, pages}
use Rattle.regions.specs.Changes.{single, joined, Unheld, Slot, TakesNext, Joins, Changed}
use Rattle.regions.proofs.Mappings.{head, ascending_more, held_or_not, mapping_here, mapping_later, mapping_joined, unheld_none, lies}
use Rattle.regions.proofs.Orders.{last, order_parts, order_joined, order_from, last_below, get_taken, get_dropped, drop_at, take_suc, written}
use Rattle.regions.proofs.Chains.{Aside, Chain, final, chain_parts, chain_joined, chain_from, chain_pairs, chain_swapped, pairs_dropped, aside_taken}

-- What two lists say behind a third, where they say the same.
pub behind : (xs ys zs : List Run) (q : ℕ) → mapping_of zs q ≡ mapping_of ys q → mapping_of (xs ++ zs) q ≡ mapping_of (xs ++ ys) q
behind xs ys zs q e = mapping_joined xs zs q ∙ ap (option_or (mapping_of xs q)) e ∙ sym (mapping_joined xs ys q)

-- What it says where the first list says nothing.
pub behind_none : (xs ys : List Run) (q : ℕ) → mapping_of xs q ≡ None → mapping_of (xs ++ ys) q ≡ mapping_of ys q
behind_none xs ys q e = mapping_joined xs ys q ∙ ap (λ (o : Option Mapping). option_or o (mapping_of ys q)) e

-- The runs ss say what rs say.
pub record Alike (rs ss : List Run) : Type 0 where
  pub page : (q : ℕ) → mapping_of ss q ≡ mapping_of rs q
  pub ascending : in_order 0 (2 ^ 26) rs ≡ true → in_order 0 (2 ^ 26) ss ≡ true
  pub count : pages ss ≡ pages rs

pub alike_same : (rs ss : List Run) → ss ≡ rs → Alike rs ss
alike_same rs ss e = record { page = λ q. ap (λ ts. mapping_of ts q) e; ascending = subst (λ ts. in_order 0 (2 ^ 26) ts ≡ true) (sym e); count = ap pages e }

-- A list that says this of the page p as well, with a page more.
pub record Puts (p : ℕ) (o : Option Mapping) (rs ss : List Run) : Type 0 where
  pub here : mapping_of ss p ≡ o
  pub page : (q : ℕ) → (q ≡ p → ⊥) → mapping_of ss q ≡ mapping_of rs q
  pub ascending : in_order 0 (2 ^ 26) ss ≡ true
  pub count : pages ss ≡ pages rs + 1

puts_alike : (p : ℕ) (o : Option Mapping) (rs ss ts : List Run) → Puts p o rs ss → Alike ss ts → Puts p o rs ts
puts_alike p o rs ss ts c a = record { here = a.page p ∙ c.here; page = λ q ne. a.page q ∙ c.page q ne; ascending = a.ascending c.ascending; count = a.count ∙ c.count }

-- A page that no run holds is put into its slot.
module _ (rs : List Run) (p : ℕ) (h : Mapping) (k : ℕ) (o : in_order 0 (2 ^ 26) rs ≡ true) (none : Unheld rs p) (high : p < 2 ^ 26) (at : Slot rs p k) where
  front_none : Unheld (take k rs) p
  front_none i r e l = none i r (get_taken k rs i r e).1 l

  frame_is : h.frame + (p - p) ≡ h.frame
  frame_is = omega arith

  here : mapping_of (insert rs k (single p h)) p ≡ Some h
  here =
      behind_none (take k rs) (single p h ∷ drop k rs) p (unheld_none (take k rs) p front_none)
      ∙ mapping_here (single p h) (drop k rs) p (omega arith, omega arith)
      ∙ ap (λ (n : ℕ). Some (record { frame = n; rights = h.rights })) frame_is

  other : (q : ℕ) → (q ≡ p → ⊥) → mapping_of (insert rs k (single p h)) q ≡ mapping_of rs q
  other q ne =
      behind (take k rs) (drop k rs) (single p h ∷ drop k rs) q (mapping_later (single p h) (drop k rs) q (λ l. ne (omega (arith, l.0, l.1))))
      ∙ ap (λ ss. mapping_of ss q) (take-append-drop k rs)

  front_low : last 0 (take k rs) ≤ p
  front_low = last_below 0 p (take k rs) (omega arith) (λ i r e.
      let g = get_taken k rs i r e in
      let low = at.low i r g.0 g.1 in
      ⊎_elim (λ (l : Holds r p). absurd (none i r g.1 l)) (λ (l : Holds r p → ⊥). grind arith) (held_or_not r p))

  inserted_order : in_order 0 (2 ^ 26) (insert rs k (single p h)) ≡ true
  inserted_order =
      let s = order_parts 0 (2 ^ 26) (take k rs) (drop k rs) (subst (λ ss. in_order 0 (2 ^ 26) ss ≡ true) (sym (take-append-drop k rs)) o) in
      order_joined 0 (last 0 (take k rs)) (2 ^ 26) (take k rs) (single p h ∷ drop k rs) s.0
      (ascending_more (last 0 (take k rs)) (2 ^ 26) (single p h) (drop k rs) front_low (omega arith)
      (order_from (last 0 (take k rs)) (p + 1) (2 ^ 26) (drop k rs) s.1 (omega arith)
      (λ r e. let f = at.high r (ap (slice_get rs) (let z : k ≡ k + 0 = omega arith in z) ∙ sym (get_dropped k rs 0) ∙ e) in omega arith)))

  inserted : Puts p (Some h) rs (insert rs k (single p h))
  inserted = record { here = here; page = other; ascending = inserted_order; count = sum_by-insert (λ r. r.count) rs k (single p h) }

-- A run goes on where the one before it ends.
module _ (a b : Run) (m : Meets a b) where
  joined_frame : (q : ℕ) → Holds b q → a.frame + (q - a.first) ≡ b.frame + (q - b.first)
  joined_frame q l = omega (arith, l.0, m.0, m.1)

  joined_page : (ys : List Run) (q : ℕ) → mapping_of (joined a b ∷ ys) q ≡ mapping_of (a ∷ (b ∷ ys)) q
  joined_page ys q = ⊎_elim
      (λ (l : Holds a q). mapping_here (joined a b) ys q (l.0, omega (arith, l.1)) ∙ sym (mapping_here a (b ∷ ys) q l))
      (λ (no : Holds a q → ⊥). ⊎_elim
      (λ (l : Holds b q).
      mapping_here (joined a b) ys q (omega (arith, l.0, m.0), omega (arith, l.1, m.0))
      ∙ ap (λ (n : ℕ). Some (record { frame = n; rights = a.rights })) (joined_frame q l)
      ∙ ap (λ (n : ℕ). Some (record { frame = b.frame + (q - b.first); rights = n })) (sym m.2)
      ∙ sym (mapping_later a (b ∷ ys) q no ∙ mapping_here b ys q l))
      (λ (none : Holds b q → ⊥).
      mapping_later (joined a b) ys q (λ l.
      let x : a.first ≤ q → q < a.first + a.count → ⊥ = λ i j. no (i, j) in
      let y : b.first ≤ q → q < b.first + b.count → ⊥ = λ i j. none (i, j) in
      grind (arith, l.0, l.1, m.0))
      ∙ sym (mapping_later a (b ∷ ys) q no ∙ mapping_later b ys q none))
      (held_or_not b q))
      (held_or_not a q)

  joined_order : (e c : ℕ) (ys : List Run) → in_order e c (a ∷ (b ∷ ys)) ≡ true → in_order e c (joined a b ∷ ys) ≡ true
  joined_order e c ys o =
      let f = head e c a (b ∷ ys) o in
      let g = head (a.first + a.count) c b ys f.rest in
      ascending_more e c (joined a b) ys f.low (omega (arith, f.some))
      (subst (λ n. in_order n c ys ≡ true) (let z : b.first + b.count ≡ a.first + (a.count + b.count) = omega (arith, m.0) in z) g.rest)

  pub joined_alike : (xs ys : List Run) → Alike (xs ++ a ∷ (b ∷ ys)) (xs ++ joined a b ∷ ys)
  joined_alike xs ys = record {
    page = λ q. behind xs (a ∷ (b ∷ ys)) (joined a b ∷ ys) q (joined_page ys q);
    ascending = λ o.
        let s = order_parts 0 (2 ^ 26) xs (a ∷ (b ∷ ys)) o in
        order_joined 0 (last 0 xs) (2 ^ 26) xs (joined a b ∷ ys) s.0 (joined_order (last 0 xs) (2 ^ 26) ys s.1);
    count =
        let f = sum_by-append (λ (r : Run). r.count) xs (a ∷ (b ∷ ys)) in
        let g = sum_by-append (λ (r : Run). r.count) xs (joined a b ∷ ys) in
        omega (arith, f, g, sum_by-cons (λ (r : Run). r.count) a (b ∷ ys), sum_by-cons (λ (r : Run). r.count) b ys, sum_by-cons (λ (r : Run). r.count) (joined a b) ys);
  }

-- The next run is taken: the list is the first k runs and the rest, and a run t is to come between them.
record Taken (rs : List Run) (k : ℕ) (s : Run) (ss : List Run) (t : Run) : Type 0 where
  rest : List Run
  is : ss ≡ take k rs ++ rest
  alike : Alike (take k rs ++ s ∷ drop k rs) (take k rs ++ t ∷ rest)
  chain : Chain (Some t) rest

taken : (rs : List Run) (k : ℕ) (s : Run) (ss : List Run) (t : Run) → Apart rs → TakesNext rs k s ss t → Taken rs k s ss t
taken rs k s ss t p (inl (y, at, m, is, t_is)) = record {
  rest = drop (suc k) rs;
  is = is;
  alike = subst (λ u. Alike (take k rs ++ s ∷ drop k rs) (take k rs ++ u ∷ drop (suc k) rs)) (sym t_is)
      (subst (λ us. Alike (take k rs ++ s ∷ us) (take k rs ++ joined s y ∷ drop (suc k) rs)) (sym (drop_at k rs y at)) (joined_alike s y m (take k rs) (drop (suc k) rs)));
  chain = subst (λ u. Chain (Some u) (drop (suc k) rs)) (sym t_is)
      (chain_swapped y (joined s y) (drop (suc k) rs) (λ z w. (omega (arith, w.0, m.0), omega (arith, w.1, m.1), w.2 ∙ sym m.2))
      (chain_from (Some y) (drop (suc k) rs) (λ z e. p k y z at (sym (get_dropped (suc k) rs 0 ∙ ap (slice_get rs) (let n : suc k + 0 ≡ suc k = omega arith in n)) ∙ e)) (pairs_dropped (suc k) rs p)));
}
taken rs k s ss t p (inr (none, is, t_is)) = record {
  rest = drop k rs;
  is = is ∙ sym (take-append-drop k rs);
  alike = alike_same _ _ (ap (λ u. take k rs ++ u ∷ drop k rs) t_is);
  chain = subst (λ u. Chain (Some u) (drop k rs)) (sym t_is)
      (chain_from (Some s) (drop k rs) (λ z e. none z (sym (get_dropped k rs 0 ∙ ap (slice_get rs) (let n : k + 0 ≡ k = omega arith in n)) ∙ e)) (pairs_dropped k rs p));
}

aside_joined : (o : Option Run) (x t : Run) → Aside o x → Aside o (joined x t)
aside_joined None x t a = tt
aside_joined (Some y) x t a = a

-- The run t is put behind the runs xs and before the runs ys, as run k of the list.
record Set (xs ys : List Run) (t : Run) (ss : List Run) : Type 0 where
  alike : Alike (xs ++ t ∷ ys) ss
  chain : Chain None ss

module _ (xs ys : List Run) (k : ℕ) (t : Run) (rs ss : List Run) (long : length xs ≡ k) (is : rs ≡ xs ++ ys) (front : Chain None xs) (back : Chain (Some t) ys) where
  first_runs : take k rs ≡ xs
  first_runs = ap (take k) is ∙ take_at xs ys k long

  last_runs : drop k rs ≡ ys
  last_runs = ap (drop k) is ∙ drops xs ys k long

  joined_set : (j : ℕ) (x : Run) → k ≡ suc j → slice_get rs j ≡ Some x → Meets x t → ss ≡ set rs j (joined x t) → Set xs ys t ss
  joined_set j x k_is at m e =
      let split : xs ≡ take j rs ++ x ∷ [] = sym first_runs ∙ ap (λ n. take n rs) k_is ∙ take_suc j rs x at in
      let whole : xs ++ t ∷ ys ≡ take j rs ++ x ∷ (t ∷ ys) = ap (λ us. us ++ t ∷ ys) split ∙ append_assoc (take j rs) (x ∷ []) (t ∷ ys) in
      let ss_is : ss ≡ take j rs ++ joined x t ∷ ys = e ∙ written j rs x (joined x t) at ∙ ap (λ us. take j rs ++ joined x t ∷ us) (ap (λ n. drop n rs) (sym k_is) ∙ last_runs) in
      let c = chain_parts None (take j rs) (x ∷ []) (subst (Chain None) split front) in
      record {
        alike = subst (λ us. Alike us ss) (sym whole) (subst (Alike (take j rs ++ x ∷ (t ∷ ys))) (sym ss_is) (joined_alike x t m (take j rs) ys));
        chain = subst (Chain None) (sym ss_is)
            (chain_joined None (take j rs) (joined x t ∷ ys) c.0
            (aside_joined (final None (take j rs)) x t c.1.0, chain_swapped t (joined x t) ys (λ z w. (omega (arith, w.0, m.0), omega (arith, w.1, m.1), w.2 ∙ sym m.2)) back));
      }

  inserted_set : k ≤ length rs → ((j : ℕ) (x : Run) → k ≡ suc j → slice_get rs j ≡ Some x → Meets x t → ⊥) → ss ≡ insert rs k t → Set xs ys t ss
  inserted_set within none e =
      let ss_is : ss ≡ xs ++ t ∷ ys = e ∙ ap (λ us. us ++ t ∷ drop k rs) first_runs ∙ ap (λ us. xs ++ t ∷ us) last_runs in
      record {
        alike = alike_same (xs ++ t ∷ ys) ss ss_is;
        chain = subst (Chain None) (sym ss_is)
            (chain_joined None xs (t ∷ ys) front (subst (λ us. Aside (final None us) t) first_runs (aside_taken k rs t within none), back));
      }

  put_set : k ≤ length rs → Joins rs k t ss → Set xs ys t ss
  put_set within (inl (j, x, k_is, at, m, e)) = joined_set j x k_is at m e
  put_set within (inr (none, e)) = inserted_set within none e

-- What it comes to that a page is put.
pub record Added (p : ℕ) (h : Mapping) (rs ss : List Run) : Type 0 where
  pub changed : Changed p (Some h) rs ss
  pub count : pages ss ≡ pages rs + 1

module _ (rs us ss : List Run) (p : ℕ) (h : Mapping) (k : ℕ) (s t : Run) (o : InOrder rs) (none : Unheld rs p) (high : p < 2 ^ 26) (at : Slot rs p k) (s_is : s ≡ single p h) (next : TakesNext rs k s us t) where
  next_taken : Taken rs k s us t
  next_taken = taken rs k s us t o.apart next

  front_chain : Chain None (take k rs)
  front_chain = (chain_parts None (take k rs) (drop k rs) (subst (Chain None) (sym (take-append-drop k rs)) (chain_from None rs (λ r e. tt) o.apart))).0

  put_puts : Puts p (Some h) rs (take k rs ++ s ∷ drop k rs)
  put_puts = subst (λ r. Puts p (Some h) rs (take k rs ++ r ∷ drop k rs)) (sym s_is) (inserted rs p h k o.ascending none high at)

  pub added : k ≤ length us → Joins us k t ss → Added p h rs ss
  added within joins =
      let n = next_taken in
      let put = put_set (take k rs) n.rest k t us ss (length-take-le k rs at.within) n.is front_chain n.chain within joins in
      let f = puts_alike p (Some h) rs _ ss (puts_alike p (Some h) rs _ _ put_puts n.alike) put.alike in
      record {
        changed = record { here = f.here; page = f.page; order = record { ascending = f.ascending; apart = chain_pairs None ss put.chain } };
        count = f.count;
      }

-- What the next run is taken to ends where that did, or where the run did.
pub next_ends : (rs us : List Run) (k : ℕ) (s t : Run) → InOrder rs → s.first + s.count ≤ 2 ^ 26 → TakesNext rs k s us t → t.first + t.count ≤ 2 ^ 26
next_ends rs us k s t o l (inl (y, at, m, is, t_is)) =
    omega (arith, (lies 0 (2 ^ 26) rs k y o.ascending at).high, m.0, ap (λ (r : Run). r.first) t_is, ap (λ (r : Run). r.count) t_is)
next_ends rs us k s t o l (inr (none, is, t_is)) = omega (arith, ap (λ (r : Run). r.first) t_is, ap (λ (r : Run). r.count) t_is)

-- The list that is left has at least k runs, and is no longer.
pub next_long : (rs us : List Run) (k : ℕ) (s t : Run) → k ≤ length rs → TakesNext rs k s us t → (k ≤ length us) × (length us ≤ length rs)
next_long rs us k s t l (inl (y, at, m, is, t_is)) =
    let w = slice_get_within rs k y at in
    let r = length-remove rs k w in
    (omega (arith, ap length is), omega (arith, ap length is))
next_long rs us k s t l (inr (none, is, t_is)) = (omega (arith, ap length is), omega (arith, ap length is))
