-- Pages and the bookkeeping of their frames change together. Assumes nothing.
use Rattle.std.proofs.Common.{◌≡◌, ℕ, suc, ◌+◌, ◌-◌, ◌^◌, ◌<◌, ◌≤◌, true, length, get_or, set, Some, None, Option, sym, ap, ◌∙◌, subst, ⊎_elim, arith, length-set, get_or-set_other, get_or-set_same}
use Rattle.std.proofs.lemmas.Bool.{cases_eq}
use Rattle.std.proofs.lemmas.Bool.Decides.{nat_tests}
use Rattle.space.specs.declared.parts.Mapping.{Mapping}
use Rattle.space.specs.Meaning.{Meaning, Held, Lawful, one}
use Rattle.space.specs.Frames.{Pool, mark, chained, frame_or, allowed, Booked, Released, IsUsed}
use Rattle.space.proofs.Chains.{chain_parts, chain_le, chain_pop, chain_push, chain_whole}
use Rattle.space.proofs.Tallies.{tally_none, tally_same, tally_more}

-- What is known where frames are free.
pub record Ready (x : Pool) : Type 0 where
  pub below : x.head < x.total
  pub within : x.head < length x.entries
  pub unused : get_or x.entries x.head 0 ≤ x.total
  pub chain : chained x.total x.entries x.head (suc (x.spare - 1)) ≡ true

module _ (first count : ℕ) (page : ℕ → Option Mapping) (x : Pool) (b : Booked first count page x) where
  pub ready : 0 < x.spare → Ready x
  ready some =
      let c = subst (λ n. chained x.total x.entries x.head n ≡ true) (let e : x.spare ≡ suc (x.spare - 1) = omega arith in e) b.chain in
      let s = chain_parts x.total x.entries x.head (x.spare - 1) c in
      record { below = s.0; within = omega (arith, s.0, b.room); unused = chain_le x.total x.entries _ (x.spare - 1) s.1; chain = c }

  -- The entry of a page's frame is above the number of frames.
  pub page_used : (p : ℕ) (h : Mapping) → page p ≡ Some h → (h.frame < x.total) × (h.frame < length x.entries) × (x.total < get_or x.entries h.frame 0)
  page_used p h e =
      let l = b.below p h e in
      (l, omega (arith, b.room), omega (arith, b.owned p h e, (b.inside p h e).1, b.window, b.few))

-- A frame that a page has is used.
pub held_used : (first count : ℕ) (m : Meaning) (x : Pool) → Booked first count m.page x → (f : ℕ) → Held m f → IsUsed x f
held_used first count m x b f (p, h, e, is) = subst (IsUsed x) is (page_used first count m.page x b p h e)

-- The first free frame is of no page.
pub head_free : (first count : ℕ) (m : Meaning) (x : Pool) → Booked first count m.page x → 0 < x.spare → Held m x.head → ⊥
head_free first count m x b some held = omega (arith, (held_used first count m x b x.head held).2, (ready first count m.page x b some).unused)

-- The page p, which was unmapped, gets the first free frame.
pub booked_take : (first count : ℕ) (page page' : ℕ → Option Mapping) (x : Pool) (p : ℕ) (h : Mapping) → Booked first count page x → first ≤ p → p < first + count → page p ≡ None → 0 < x.spare
    → h.frame ≡ x.head → page' p ≡ Some h → ((q : ℕ) → (q ≡ p → ⊥) → page' q ≡ page q)
    → Booked first count page' (record { entries = set x.entries x.head (mark p); total = x.total; head = get_or x.entries x.head 0; spare = x.spare - 1 })
booked_take first count page page' x p h b low high gone some is here same =
    let r = ready first count page x b some in
    let apart : (q : ℕ) (k : Mapping) → page q ≡ Some k → k.frame ≡ x.head → ⊥ =
    λ q k e d. omega (arith, (page_used first count page x b q k e).2, r.unused, ap (λ f. get_or x.entries f 0) d) in
    record {
      window = b.window;
      few = b.few;
      room = simp length-set b.room;
      inside = λ q k e. let other = same q in let was = b.inside q k in grind arith;
      below = λ q k e. let other = same q in let was = b.below q k in let at = r.below in grind arith;
      owned = λ q k e.
          let other = same q in let was = b.owned q k in let free = apart q k in
          let put = get_or-set_same x.entries x.head (mark p) 0 r.within in
          let kept = get_or-set_other x.entries x.head k.frame (mark p) 0 in
          grind arith;
      used = λ f u.
          let put = get_or-set_same x.entries x.head (mark p) 0 r.within in
          let kept = get_or-set_other x.entries x.head f (mark p) 0 in
          let was = b.used f in
          let other = same (mark (get_or x.entries f 0)) in
          grind (arith, b.window);
      chain = chain_pop x.total x.entries (mark p) x.head (x.spare - 1) r.chain;
      counted =
          let t = tally_more page page' p first count low high (ap one gone) (ap one here) same in
          omega (arith, b.counted);
    }

-- The page p, which was mapped, gives its frame back.
pub booked_give : (first count : ℕ) (page page' : ℕ → Option Mapping) (x : Pool) (p : ℕ) (h : Mapping) → Booked first count page x → page p ≡ Some h → page' p ≡ None → ((q : ℕ) → (q ≡ p → ⊥) → page' q ≡ page q)
    → Booked first count page' (record { entries = set x.entries h.frame x.head; total = x.total; head = h.frame; spare = x.spare + 1 })
booked_give first count page page' x p h b was gone same =
    let u = page_used first count page x b p h was in
    let back : (q : ℕ) (k : Mapping) → page' q ≡ Some k → (q ≡ p → ⊥) × (page q ≡ Some k) = λ q k e. let other = same q in grind arith in
    record {
      window = b.window;
      few = b.few;
      room = simp length-set b.room;
      inside = λ q k e. b.inside q k (back q k e).1;
      below = λ q k e. b.below q k (back q k e).1;
      owned = λ q k e.
          let at = back q k e in
          let one = b.owned p h was in
          let two = b.owned q k at.1 in
          let low = b.inside p h was in
          let high = b.inside q k at.1 in
          let kept = get_or-set_other x.entries h.frame k.frame x.head 0 in
          grind (arith, b.window, at.0);
      used = λ f w. ⊎_elim
          (λ (e : f ≡ h.frame).
          let put = get_or-set_same x.entries h.frame x.head 0 u.1 in
          absurd (omega (arith, w.1, ap (λ g. get_or (set x.entries h.frame x.head) g 0) e, chain_le x.total x.entries x.head x.spare b.chain)))
          (λ (ne : f ≡ h.frame → ⊥).
          let kept = get_or-set_other x.entries h.frame f x.head 0 ne in
          let z = b.used f (w.0, omega (arith, w.1)) in
          ap (λ y. frame_or x.total (page' (mark y))) kept
          ∙ ap (frame_or x.total) (same (mark (get_or x.entries f 0)) (λ d. ne (sym z ∙ ap (λ q. frame_or x.total (page q)) d ∙ ap (frame_or x.total) was))) ∙ z)
          (cases_eq f h.frame);
      chain =
          subst (λ n. chained x.total (set x.entries h.frame x.head) h.frame n ≡ true) (let e : suc x.spare ≡ x.spare + 1 = omega arith in e)
          (chain_push x.total x.entries h.frame x.head x.spare u.0 u.1 u.2 b.chain);
      counted =
          let t = tally_more page' page p first count (b.inside p h was).0 (b.inside p h was).1 (ap one gone) (ap one was) (λ q ne. sym (same q ne)) in
          omega (arith, b.counted);
    }

-- No page is mapped, and every frame is free.
pub booked_none : (first count : ℕ) (page : ℕ → Option Mapping) (x y : Pool) → first + count ≤ 2 ^ 26 → x.total ≤ 65536 → x.total ≤ length x.entries → ((q : ℕ) → page q ≡ None) → Released x y
    → Booked first count page y
booked_none first count page x y window few room none r = record {
  window = window;
  few = omega (arith, r.total);
  room = omega (arith, r.total, r.long);
  inside = λ q h e. let z = sym e ∙ none q in cc;
  below = λ q h e. let z = sym e ∙ none q in cc;
  owned = λ q h e. let z = sym e ∙ none q in cc;
  used = λ f u.
      let l : f < x.total = omega (arith, u.0, r.total) in
      absurd (omega (arith, u.1, r.total, r.next f l (omega arith)));
  chain = subst (λ n. chained n y.entries y.head y.spare ≡ true) (sym r.total)
      (subst (λ n. chained x.total y.entries n y.spare ≡ true) (sym r.head)
      (subst (λ n. chained x.total y.entries 0 n ≡ true) (sym r.spare)
      (chain_whole x.total y.entries (λ k l. r.next k l (omega arith)) x.total 0 (omega arith))));
  counted = omega (arith, tally_none page none first count, r.spare, r.total);
}

-- The same pages and the same pool.
pub booked_same : (first count : ℕ) (page page' : ℕ → Option Mapping) (x : Pool) → Booked first count page x → ((q : ℕ) → page' q ≡ page q) → Booked first count page' x
booked_same first count page page' x b same = record {
  window = b.window;
  few = b.few;
  room = b.room;
  inside = λ q h e. b.inside q h (sym (same q) ∙ e);
  below = λ q h e. b.below q h (sym (same q) ∙ e);
  owned = λ q h e. b.owned q h (sym (same q) ∙ e);
  used = λ f u. ap (frame_or x.total) (same _) ∙ b.used f u;
  chain = b.chain;
  counted = omega (arith, tally_same page page' first count (λ q l. same q), b.counted);
}

-- Lawful rights pass the test.
pub lawful_allowed : (r : ℕ) → Lawful r → allowed r ≡ true
lawful_allowed r lawful = grind (arith, nat_tests)
