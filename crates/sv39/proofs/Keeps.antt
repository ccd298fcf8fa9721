-- What the calls do to a space in tables, and what they keep. Assumes nothing.
use Rattle.std.proofs.Common.{◌≡◌, ℕ, ◌+◌, ◌-◌, ◌*◌, ◌%◌, ◌^◌, ◌<◌, ◌≤◌, List, length, get_or, set, Some, None, sym, refl, ap, ◌∙◌, subst, inl, inr, ⊎_elim, arith, get_or-set_other, get_or-set_same}
use Rattle.std.proofs.lemmas.Bool.{cases_eq}
use Rattle.std.proofs.lemmas.Bool.Decides.{nat_tests}
use Rattle.space.specs.Meaning.{Held, Lawful}
use Rattle.space.specs.Calls.{Cleared, Mapped, Unmapped, Poked}
use Rattle.space.specs.Frames.{Pool, mark, allowed, Booked, Released}
use Rattle.space.specs.Memory.{Apart, Zeroed}
use Rattle.space.proofs.Bookings.{ready, head_free, booked_take, booked_give, booked_none, booked_same, lawful_allowed}
use Rattle.space.proofs.Writes.{apart_one}
use Rattle.sv39.specs.declared.figures.Figures.{Figures}
use Rattle.sv39.specs.Entries.{page_in, rights_in, leaf}
use Rattle.sv39.specs.Tables.{first, count, origin, word, slot, place, frame_in, mapping_in, page_at, meant}
use Rattle.sv39.specs.Writes.{Written}
use Rattle.sv39.specs.Invariants.{Whole, Rooted, Middled, Fine, Kept}
use Rattle.sv39.proofs.Numbers.{word_apart, word_zeroed}
use Rattle.sv39.proofs.Pages.{page_inside, mapping_zero, mapping_more}
use Rattle.sv39.proofs.Worked.{encoded}

-- What the leaf of a page with rights reads as.
pub record Reads (page r e : ℕ) : Type 0 where
  pub some : 0 < e
  pub frame : page_in e ≡ page
  pub rights : rights_in e ≡ r

pub reads : (page r : ℕ) → page < 2 ^ 44 → Lawful r → Reads page r (leaf page r)
reads page r h l =
    let s = encoded.leaf page r h l in
    record { some = grind (arith, s.0); frame = sym s.3; rights = sym s.4 }

-- Pages whose entries are the same.
pub same_page : (g : Figures) (m m' : List ℕ) (p : ℕ) → ((j : ℕ) → j ≡ p - first g → j < count g → slot m' j ≡ slot m j) → page_at g m' p ≡ page_at g m p
same_page g m m' p same = let here = same (p - first g) refl in grind (arith, nat_tests)

-- No page is mapped where the leaf tables are zeros.
pub none_left : (g : Figures) (m : List ℕ) → ((j : ℕ) → j < count g → slot m j ≡ 0) → (q : ℕ) → page_at g m q ≡ None
none_left g m none q = let here = none (q - first g) in grind (arith, nat_tests, mapping_zero)

-- A write to the data frames leaves the tables.
pub data_apart : (g : Figures) (m m' : List ℕ) (at n : ℕ) → Apart at n m m' → (g.leaves + 2) * 4096 ≤ at → (i : ℕ) → i < 1024 + count g → word m' i ≡ word m i
data_apart g m m' at n z h i l = word_apart z i (inl (omega arith))

-- Memory with the same tables.
pub kept_tables : (g : Figures) (m m' : List ℕ) (x : Pool) → Kept g m x → length m' ≡ length m → ((i : ℕ) → i < 1024 + count g → word m' i ≡ word m i) → Kept g m' x
kept_tables g m m' x k long same = record {
  window = k.window;
  high = k.high;
  aligned = k.aligned;
  whole = λ live. let w = k.whole live in (omega arith, omega arith);
  rooted = λ i y. same i (omega (arith, y.1)) ∙ k.rooted i y;
  middled = λ i y. same (512 + i) (omega (arith, y.1)) ∙ k.middled i y;
  filled = λ j y. let e = same (1024 + j) (omega (arith, y.0)) in subst (Fine g x.total) (sym e) (k.filled j (y.0, omega (arith, y.1)));
  booked = booked_same (first g) (count g) (page_at g m) (page_at g m') x k.booked (λ q. same_page g m m' q (λ j _ l. same (1024 + j) (omega arith)));
}

pub kept_data : (g : Figures) (m m' : List ℕ) (x : Pool) (at n : ℕ) → Kept g m x → Apart at n m m' → (g.leaves + 2) * 4096 ≤ at → Kept g m' x
kept_data g m m' x at n k z h = kept_tables g m m' x k z.long (data_apart g m m' at n z h)

-- Data frames lie below 2^56 and in the memory.
pub origin_fits : (g : Figures) (m : List ℕ) (x : Pool) → Kept g m x → 0 < g.leaves → origin g + x.total ≤ 2 ^ 44
origin_fits g m x k live = let w = k.whole live in omega (arith, k.aligned)

pub room_for : (g : Figures) (m : List ℕ) (x : Pool) → Kept g m x → (f : ℕ) → 0 < g.leaves → f < x.total → place g f 0 + 4096 ≤ length m
room_for g m x k f live l = let w = k.whole live in omega arith

-- The entry of the page p of the window is written.
module _ (g : Figures) (m m' : List ℕ) (p v : ℕ) (low : first g ≤ p) (high : p < first g + count g) (w : Written (1024 + (p - first g)) v m m') where
  slot_same : (i : ℕ) → (i ≡ p - first g → ⊥) → slot m' i ≡ slot m i
  slot_same i ne = word_apart w.apart (1024 + i) (grind arith)

  table_same : (i : ℕ) → i < 1024 → word m' i ≡ word m i
  table_same i h = word_apart w.apart i (inl (omega arith))

  pub page_here : page_at g m' p ≡ mapping_in g v
  page_here = page_inside g m' p low high ∙ ap (mapping_in g) w.here

  pub page_other : (q : ℕ) → (q ≡ p → ⊥) → page_at g m' q ≡ page_at g m q
  page_other q ne = let here = slot_same (q - first g) in grind (arith, nat_tests)

  pub byte_same : (at : ℕ) → (g.leaves + 2) * 4096 ≤ at → get_or m' at 0 ≡ get_or m at 0
  byte_same at h = w.apart.rest at (inr (omega arith))

  -- The tables are kept where the new entry is fine, or 0, and the pages are booked.
  kept_slot : (x y : Pool) → Kept g m x → y.total ≡ x.total → (0 < v → Fine g x.total v) → Booked (first g) (count g) (page_at g m') y → Kept g m' y
  kept_slot x y k total fine booked = record {
    window = k.window;
    high = k.high;
    aligned = k.aligned;
    whole = λ live. let h = k.whole live in let a = w.apart.long in (omega arith, omega arith);
    rooted = λ i z. table_same i (omega (arith, z.1)) ∙ k.rooted i z;
    middled = λ i z. table_same (512 + i) (omega (arith, z.1)) ∙ k.middled i z;
    filled = λ i z. subst (λ n. Fine g n (slot m' i)) (sym total) (⊎_elim
        (λ (e : i ≡ p - first g).
        let is : slot m' i ≡ v = ap (slot m') e ∙ w.here in
        subst (Fine g x.total) (sym is) (fine (omega (arith, z.1))))
        (λ (ne : i ≡ p - first g → ⊥).
        let is = slot_same i ne in
        subst (Fine g x.total) (sym is) (k.filled i (z.0, omega (arith, z.1))))
        (cases_eq i (p - first g)));
    booked = booked;
  }

-- The pool after its first free frame went to a page, and after a frame came back.
abbrev pub taken : Pool → ℕ → Pool
taken x p = record { entries = set x.entries x.head (mark p); total = x.total; head = get_or x.entries x.head 0; spare = x.spare - 1 }

abbrev pub given : Pool → ℕ → Pool
given x f = record { entries = set x.entries f x.head; total = x.total; head = f; spare = x.spare + 1 }

-- The first free frame is wiped and goes to the page p, which is unmapped.
module _ (g : Figures) (m : List ℕ) (x : Pool) (k : Kept g m x) (p r : ℕ) (low : first g ≤ p) (high : p < first g + count g) (gone : slot m (p - first g) ≡ 0) (some : 0 < x.spare)
    (lawful : Lawful r) (m₁ m' : List ℕ) (z : Zeroed (place g x.head 0) 4096 m m₁) (w : Written (1024 + (p - first g)) (leaf (origin g + x.head) r) m₁ m') where
  wiped : (i : ℕ) → i < 1024 + count g → word m₁ i ≡ word m i
  wiped = data_apart g m m₁ (place g x.head 0) 4096 z.apart (omega arith)

  kept₁ : Kept g m₁ x
  kept₁ = kept_data g m m₁ x (place g x.head 0) 4096 k z.apart (omega arith)

  gone₁ : page_at g m₁ p ≡ None
  gone₁ = page_inside g m₁ p low high ∙ mapping_zero g (slot m₁ (p - first g)) (wiped (1024 + (p - first g)) (omega arith) ∙ gone)

  below : x.head < x.total
  below = (ready (first g) (count g) (page_at g m) x k.booked some).below

  made : Reads (origin g + x.head) r (leaf (origin g + x.head) r)
  made = reads (origin g + x.head) r (omega (arith, origin_fits g m x k (omega arith), below)) lawful

  frame_is : frame_in g (leaf (origin g + x.head) r) ≡ x.head
  frame_is = let e = made.frame in omega arith

  mapped_here : page_at g m' p ≡ Some (record { frame = x.head; rights = r })
  mapped_here =
      page_here g m₁ m' p _ low high w ∙ mapping_more g (leaf (origin g + x.head) r) made.some
      ∙ ap (λ (n : ℕ). Some (record { frame = n; rights = rights_in (leaf (origin g + x.head) r) })) frame_is
      ∙ ap (λ (n : ℕ). Some (record { frame = x.head; rights = n })) made.rights

  pub kept_map : Kept g m' (taken x p)
  kept_map = kept_slot g m₁ m' p (leaf (origin g + x.head) r) low high w x (taken x p) kept₁ refl
      (λ _. (
        sym (ap (λ n. leaf (origin g + n) (rights_in (leaf (origin g + x.head) r))) frame_is ∙ ap (leaf (origin g + x.head)) made.rights),
        omega (arith, frame_is, below),
        ap allowed made.rights ∙ lawful_allowed r lawful,
      ))
      (booked_take (first g) (count g) (page_at g m₁) (page_at g m') x p (record { frame = x.head; rights = r }) kept₁.booked low high gone₁ some refl mapped_here (page_other g m₁ m' p _ low high w))

  free : Held (meant g x.total m) x.head → ⊥
  free = head_free (first g) (count g) (meant g x.total m) x k.booked some

  pub does_map : Mapped p r (meant g x.total m) (meant g x.total m')
  does_map = record {
    fixed = record { first = refl; count = refl; frames = refl; base = refl };
    frame = x.head;
    here = mapped_here;
    free = free;
    zeros = λ i s.
        byte_same g m₁ m' p _ low high w (place g x.head i) (omega arith)
        ∙ ap (λ at. get_or m₁ at 0) (let d : place g x.head i ≡ place g x.head 0 + i = omega arith in d) ∙ z.zero i s;
    page = λ q ne. page_other g m₁ m' p _ low high w q ne ∙ same_page g m m₁ q (λ i _ h. wiped (1024 + i) (omega arith));
    byte = λ e i h s.
        let ne : e ≡ x.head → ⊥ = λ q. free (subst (Held (meant g x.total m)) q h) in
        byte_same g m₁ m' p _ low high w (place g e i) (omega arith)
        ∙ z.apart.rest (place g e i) (grind arith);
  }

-- The page p, which is mapped, gives its frame back.
module _ (g : Figures) (m : List ℕ) (x : Pool) (k : Kept g m x) (p : ℕ) (low : first g ≤ p) (high : p < first g + count g) (there : 0 < slot m (p - first g))
    (m' : List ℕ) (w : Written (1024 + (p - first g)) 0 m m') where
  was : page_at g m p ≡ Some (record { frame = frame_in g (slot m (p - first g)); rights = rights_in (slot m (p - first g)) })
  was = page_inside g m p low high ∙ mapping_more g (slot m (p - first g)) there

  pub kept_unmap : Kept g m' (given x (frame_in g (slot m (p - first g))))
  kept_unmap = kept_slot g m m' p 0 low high w x (given x (frame_in g (slot m (p - first g)))) k refl (λ s. absurd (omega arith))
      (booked_give (first g) (count g) (page_at g m) (page_at g m') x p (record { frame = frame_in g (slot m (p - first g)); rights = rights_in (slot m (p - first g)) }) k.booked was
      (page_here g m m' p 0 low high w) (page_other g m m' p 0 low high w))

  pub does_unmap : Unmapped p (meant g x.total m) (meant g x.total m')
  does_unmap = record {
    fixed = record { first = refl; count = refl; frames = refl; base = refl };
    here = page_here g m m' p 0 low high w;
    page = page_other g m m' p 0 low high w;
    byte = λ e i h s. byte_same g m m' p 0 low high w (place g e i) (omega arith);
  }

-- No page is mapped, and all frames are free.
pub kept_empty : (g : Figures) (m : List ℕ) (x y : Pool) → g.gigabyte ≤ 255 → g.leaves ≤ 512 → g.base % 4096 ≡ 0 → x.total ≤ 65536 → x.total ≤ length x.entries
    → Whole g x.total (length m) → Rooted g m → Middled g m → ((j : ℕ) → j < count g → slot m j ≡ 0) → Released x y → Kept g m y
kept_empty g m x y window high aligned few room whole rooted middled none released = record {
  window = window;
  high = high;
  aligned = aligned;
  whole = λ live. let h = whole live in let t = released.total in (ap (λ n. (g.leaves + 2 + n) * 4096) t ∙ h.0, h.1);
  rooted = rooted;
  middled = middled;
  filled = λ j z. absurd (omega (arith, none j z.0, z.1));
  booked = booked_none (first g) (count g) (page_at g m) x y (omega arith) few room (none_left g m none) released;
}

-- The leaf tables are wiped.
module _ (g : Figures) (m : List ℕ) (x : Pool) (k : Kept g m x) (m' : List ℕ) (y : Pool) (z : Zeroed 8192 (g.leaves * 4096) m m') (released : Released x y) where
  all_zero : (j : ℕ) → j < count g → slot m' j ≡ 0
  all_zero j l = word_zeroed z (1024 + j) (omega arith) (omega arith)

  pub kept_clear : Kept g m' y
  kept_clear = kept_empty g m' x y k.window k.high k.aligned k.booked.few k.booked.room
      (λ live. let h = k.whole live in let a = z.apart.long in (omega arith, omega arith))
      (λ i t. word_apart z.apart i (inl (omega (arith, t.1))) ∙ k.rooted i t)
      (λ i t. word_apart z.apart (512 + i) (inl (omega (arith, t.1))) ∙ k.middled i t)
      all_zero released

  pub does_clear : Cleared (meant g x.total m) (meant g y.total m')
  does_clear = record { fixed = record { first = refl; count = refl; frames = released.total; base = refl }; page = none_left g m' all_zero }

-- A byte of a data frame is put.
module _ (g : Figures) (m : List ℕ) (x : Pool) (k : Kept g m x) (f i b : ℕ) (small : i < 4096) (within : place g f i < length m) where
  pub kept_poke : Kept g (set m (place g f i) b) x
  kept_poke = kept_data g m (set m (place g f i) b) x (place g f i) 1 k (apart_one (place g f i) b m) (omega arith)

  pub does_poke : Poked f i b (meant g x.total m) (meant g x.total (set m (place g f i) b))
  does_poke = record {
    fixed = record { first = refl; count = refl; frames = refl; base = refl };
    page = λ q. same_page g m (set m (place g f i) b) q (λ j _ l. data_apart g m _ (place g f i) 1 (apart_one (place g f i) b m) (omega arith) (1024 + j) (omega arith));
    here = get_or-set_same m (place g f i) b 0 within;
    byte = λ e j l ne. get_or-set_other m (place g f i) (place g e j) b 0
        (λ s. let a : e ≡ f = omega arith in ne a (omega arith));
  }
