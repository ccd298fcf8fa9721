-- What the calls on a space find, and what their steps come to. Assumes nothing.
use Rattle.std.proofs.Common.{◌≡◌, true, false, is_some, ℕ, zero, suc, ◌+◌, ◌-◌, ◌%◌, ◌^◌, ◌<◌, ◌≤◌, List, length, set, Some, None, Ok, Option, sym, refl, ap, ◌∙◌, subst, ⊎_elim, mod-eq_of_lt, rules, arith}
use Rattle.space.specs.declared.parts.Mapping.{Mapping}
use Rattle.space.specs.Meaning.{Outside, IsMapped, Held, Lawful, mapped}
use Rattle.space.specs.Memory.{Zeroed}
use Rattle.space.specs.Frames.{Pool, pool, IsUsed, Takes, Gives, allowed_lawful}
use Rattle.space.specs.Calls.{Mapped, Unmapped, Poked, Maps, Unmaps, Pokes}
use Rattle.space.proofs.Bookings.{ready, held_used}
use Rattle.sv39.specs.declared.paging.Sv39.{Sv39}
use Rattle.sv39.specs.Entries.{page_in, rights_in, leaf}
use Rattle.sv39.specs.Tables.{first, count, origin, place, word, slot, frame_in, mapping_in, page_at, meant}
use Rattle.sv39.specs.Writes.{Written}
use Rattle.sv39.specs.Invariants.{Fine, Kept}
use Rattle.sv39.specs.Spaces.{memory_of, means, InWindow, IsByte}
use Rattle.sv39.proofs.Pages.{page_inside}
use Rattle.sv39.proofs.Keeps.{Reads, reads, origin_fits, room_for, kept_map, does_map, kept_unmap, does_unmap, kept_poke, does_poke, taken, given}

-- An option whose test for a value comes out false.
pub none_where : {A : Type 0} (o : Option A) → is_some o ≡ false → o ≡ None
none_where None e = refl
none_where (Some x) e = cc

-- The entry of a mapped page names a data frame.
pub named : (t : Sv39) (k e : ℕ) → 1024 ≤ k → k < 1024 + count t.figures → e ≡ word (memory_of t) k → 0 < e
    → (page_in e ≡ origin t.figures + frame_in t.figures e) × (frame_in t.figures e < t.frames.total)
named t k e low high is some =
    let live : 0 < t.figures.leaves = omega arith in
    let at : k ≡ 1024 + (k - 1024) = omega arith in
    let e_is : e ≡ slot (memory_of t) (k - 1024) = is ∙ ap (word (memory_of t)) at in
    let f : Fine t.figures t.frames.total e = subst (Fine t.figures t.frames.total) (sym e_is) (t.kept.filled (k - 1024) (omega arith, omega arith)) in
    let r : Reads (origin t.figures + frame_in t.figures e) (rights_in e) e =
    subst (Reads (origin t.figures + frame_in t.figures e) (rights_in e)) (sym f.0)
    (reads (origin t.figures + frame_in t.figures e) (rights_in e) (omega (arith, f.1, origin_fits _ _ _ t.kept live)) (allowed_lawful (rights_in e) f.2)) in
    (r.frame, f.1)

-- What the entry of a page in the window says of it.
pub page_is : (t : Sv39) (p k : ℕ) → InWindow t p k → page_at t.figures (memory_of t) p ≡ mapping_in t.figures (word (memory_of t) k)
page_is t p k w =
    page_inside t.figures (memory_of t) p w.low w.high ∙ ap (λ n. mapping_in t.figures (word (memory_of t) n)) (sym w.number)

-- A page in the window is not outside it.
pub inside : (t : Sv39) (p k : ℕ) → InWindow t p k → Outside (means t) p → ⊥
inside t p k w out =
    ⊎_elim (λ (l : p < first t.figures). omega (arith, w.low)) (λ (l : first t.figures + count t.figures ≤ p). omega (arith, w.high)) out

-- What an entry says tells whether its page is mapped.
pub mapped_some : (t : Sv39) (p k : ℕ) (o : Option Mapping) → InWindow t p k → o ≡ mapping_in t.figures (word (memory_of t) k) → is_some o ≡ true → IsMapped (means t) p
mapped_some t p k None w is some = cc
mapped_some t p k (Some h) w is some = (h, page_is t p k w ∙ sym is)

pub mapped_none : (t : Sv39) (p k : ℕ) (o : Option Mapping) → InWindow t p k → o ≡ mapping_in t.figures (word (memory_of t) k) → is_some o ≡ false → IsMapped (means t) p → ⊥
mapped_none t p k None w is none (h, at) = let e : None ≡ Some h = is ∙ sym (page_is t p k w) ∙ at in cc
mapped_none t p k (Some h) w is none at = cc

-- An entry without a mapping is 0, and another is the mapping's.
pub entry_zero : (t : Sv39) (e : ℕ) → mapping_in t.figures e ≡ None → e ≡ 0
entry_zero t zero n = refl
entry_zero t (suc e) n = cc

pub entry_some : (t : Sv39) (e : ℕ) (h : Mapping) → mapping_in t.figures e ≡ Some h → (0 < e) × (h.frame ≡ frame_in t.figures e)
entry_some t zero h s = cc
entry_some t (suc e) h s =
    let at : h ≡ record { frame = frame_in t.figures (suc e); rights = rights_in (suc e) } = cc in
    (omega arith, ap (λ (x : Mapping). x.frame) at)

-- A frame that a page has is in use.
pub used : (t : Sv39) (f : ℕ) → Held (means t) f → IsUsed (pool t.frames) f
used t f h = held_used (first t.figures) (count t.figures) (means t) (pool t.frames) t.kept.booked f h

-- Where frames are free, the first lies in the memory.
pub head_lies : (t : Sv39) → 0 < t.figures.leaves → 0 < t.frames.spare → (t.frames.head < t.frames.total) × (place t.figures t.frames.head 0 + 4096 ≤ length (memory_of t))
head_lies t live some =
    let r = ready (first t.figures) (count t.figures) (page_at t.figures (memory_of t)) (pool t.frames) t.kept.booked some in
    (r.below, room_for t.figures _ (pool t.frames) t.kept t.frames.head live r.below)

-- Where frames are free, not all are in use.
pub not_full : (t : Sv39) → 0 < t.frames.spare → mapped (means t) ≡ t.frames.total → ⊥
not_full t some e = let c = t.kept.booked.counted in omega arith

-- What is taken where frames are free.
takes_some : (t : Sv39) (p : ℕ) (o : Option ℕ) (y : Pool) → 0 < t.frames.spare → Takes p o (pool t.frames) y → y ≡ taken (pool t.frames) p
takes_some t p None y some (none, same) =
    let r = ready (first t.figures) (count t.figures) (page_at t.figures (memory_of t)) (pool t.frames) t.kept.booked some in
    absurd (⊎_elim (λ (e : t.frames.spare ≡ 0). omega arith) (λ (l : length t.frames.entries.now ≤ t.frames.head). omega (arith, r.within)) none)
takes_some t p (Some f) y some d = d.3

-- The steps of a mapping: the first free frame is wiped, the page's entry is written, the frame is taken.
pub map_step : (t : Sv39) (p r k at n e : ℕ) (m₁ m₂ : List ℕ) (was : Option Mapping) (o : Option ℕ) (y : Pool) → InWindow t p k → was ≡ mapping_in t.figures (word (memory_of t) k) → false ≡ is_some was → 0 < t.frames.spare → Lawful r
    → at ≡ place t.figures t.frames.head 0 → n ≡ origin t.figures + t.frames.head → e ≡ leaf (n % 2 ^ 44) r → Zeroed at 4096 (memory_of t) m₁ → Written k e m₁ m₂ → Takes p o (pool t.frames) y
    → Kept t.figures m₂ y × Maps p r (Ok tt) (means t) (meant t.figures y.total m₂)
map_step t p r k at n e m₁ m₂ was o y w was_is free some lawful at_is n_is e_is zeroed written takes =
    let none = sym was_is ∙ none_where was (sym free) in
    let low = w.low in
    let high = w.high in
    let live : 0 < t.figures.leaves = omega arith in
    let gone : slot (memory_of t) (p - first t.figures) ≡ 0 = ap (word (memory_of t)) (sym w.number) ∙ entry_zero t _ none in
    let z : Zeroed (place t.figures t.frames.head 0) 4096 (memory_of t) m₁ = subst (λ n. Zeroed n 4096 (memory_of t) m₁) at_is zeroed in
    let fits = origin_fits t.figures _ (pool t.frames) t.kept live in
    let fine = e_is ∙ ap (λ i. leaf (i % 2 ^ 44) r) n_is ∙ ap (λ i. leaf i r) (mod-eq_of_lt (omega (arith, (head_lies t live some).0))) in
    let u : Written (1024 + (p - first t.figures)) (leaf (origin t.figures + t.frames.head) r) m₁ m₂ =
    subst (λ n. Written n (leaf (origin t.figures + t.frames.head) r) m₁ m₂) w.number (subst (λ n. Written k n m₁ m₂) fine written) in
    let y_is = takes_some t p o y some takes in (
      subst (Kept t.figures m₂) (sym y_is) (kept_map t.figures _ (pool t.frames) t.kept p r low high gone some lawful m₁ m₂ z u),
      (
        (let within : Outside (means t) p → ⊥ = inside t p k w in let unmapped : IsMapped (means t) p → ⊥ = mapped_none t p k None w (sym none) refl in let room = not_full t some in search rules),
        subst (λ (x : Pool). Mapped p r (means t) (meant t.figures x.total m₂)) (sym y_is) (does_map t.figures _ (pool t.frames) t.kept p r low high gone some lawful m₁ m₂ z u),
      ),
    )

-- The steps of an unmapping: the page's entry becomes 0, and its frame is given back.
pub unmap_step : (t : Sv39) (p k : ℕ) (h : Mapping) (m₁ : List ℕ) (y : Pool) → InWindow t p k → mapping_in t.figures (word (memory_of t) k) ≡ Some h → Written k 0 (memory_of t) m₁ → Gives h.frame (pool t.frames) y
    → Kept t.figures m₁ y × Unmaps p (Ok tt) (means t) (meant t.figures y.total m₁)
unmap_step t p k h m₁ y w is written gives =
    let low = w.low in
    let high = w.high in
    let number = w.number in
    let s = entry_some t (word (memory_of t) k) h is in
    let n = named t k (word (memory_of t) k) (omega arith) (omega arith) refl s.0 in
    let at = ap (word (memory_of t)) w.number in
    let there : 0 < slot (memory_of t) (p - first t.figures) = subst (λ n. 0 < n) at s.0 in
    let frame : h.frame ≡ frame_in t.figures (slot (memory_of t) (p - first t.figures)) = s.1 ∙ ap (frame_in t.figures) at in
    let u : Written (1024 + (p - first t.figures)) 0 (memory_of t) m₁ = subst (λ n. Written n 0 (memory_of t) m₁) w.number written in
    let y_is = gives.given (omega (arith, s.1, n.1, t.kept.booked.room)) (omega (arith, t.kept.booked.counted, t.kept.booked.few)) ∙ ap (given (pool t.frames)) frame in (
      subst (Kept t.figures m₁) (sym y_is) (kept_unmap t.figures _ (pool t.frames) t.kept p low high there m₁ u),
      (
        (let within : Outside (means t) p → ⊥ = inside t p k w in let mapped_p : IsMapped (means t) p = (h, page_is t p k w ∙ is) in search rules),
        subst (λ (x : Pool). Unmapped p (means t) (meant t.figures x.total m₁)) (sym y_is) (does_unmap t.figures _ (pool t.frames) t.kept p low high there m₁ u),
      ),
    )

-- The step of a poke: a byte comes to its place.
pub poke_step : (t : Sv39) (f i at b : ℕ) (m : List ℕ) → IsByte t f i at → m ≡ set (memory_of t) at b → Kept t.figures m (pool t.frames) × Pokes f i b (Ok tt) (means t) (meant t.figures t.frames.total m)
poke_step t f i at b m byte is =
    let within : place t.figures f i < length (memory_of t) = subst (λ n. n < length (memory_of t)) byte.place byte.within in
    let e = sym (is ∙ ap (λ n. set (memory_of t) n b) byte.place) in (
      subst (λ l. Kept t.figures l (pool t.frames)) e (kept_poke t.figures _ (pool t.frames) t.kept f i b byte.small within),
      (
        (let held = byte.held in let small = byte.small in search rules),
        subst (λ l. Poked f i b (means t) (meant t.figures t.frames.total l)) e (does_poke t.figures _ (pool t.frames) t.kept f i b byte.small within),
      ),
    )
