-- What the calls do to a space in runs, and what they keep. Assumes nothing.
use Rattle.std.proofs.Common.{◌≡◌, ℕ, ◌+◌, ◌-◌, ◌*◌, ◌^◌, ◌<◌, ◌≤◌, List, [], length, get_or, set, Some, None, sym, refl, ap, ◌∙◌, subst, ⊎_elim, arith, length-set, get_or-set_other, get_or-set_same}
use Rattle.std.proofs.lemmas.Bool.{cases_eq}
use Rattle.space.specs.declared.parts.Mapping.{Mapping}
use Rattle.space.specs.Meaning.{Held, Lawful}
use Rattle.space.specs.Calls.{Cleared, Mapped, Unmapped, Poked}
use Rattle.space.specs.Frames.{Pool, mark, allowed, Released}
use Rattle.space.specs.Memory.{Bytes, Zeroed}
use Rattle.space.proofs.Bookings.{head_free, booked_take, booked_give, booked_none, lawful_allowed}
use Rattle.space.proofs.Writes.{bytes_zeroed}
use Rattle.regions.specs.declared.figures.Figures.{Figures}
use Rattle.regions.specs.declared.run.Run.{Run}
use Rattle.regions.specs.Runs.{mapping_of, pages}
use Rattle.regions.specs.Changes.{Changed}
use Rattle.regions.specs.Setup.{first, count}
use Rattle.regions.specs.Invariants.{place, meant, Kept}
use Rattle.regions.proofs.Mappings.{ascending_none, mapping_none}

-- The pool after its first free frame went to a page, and after a frame came back.
abbrev pub taken : Pool → ℕ → Pool
taken x p = record { entries = set x.entries x.head (mark p); total = x.total; head = get_or x.entries x.head 0; spare = x.spare - 1 }

abbrev pub given : Pool → ℕ → Pool
given x f = record { entries = set x.entries f x.head; total = x.total; head = f; spare = x.spare + 1 }

-- No page is mapped, and all frames are free.
no_runs : (g : Figures) (m : List ℕ) (slots : ℕ) (x y : Pool) → g.gigabyte ≤ 255 → g.leaves ≤ 512 → Bytes m → x.total ≤ 65536 → x.total ≤ length x.entries → x.total ≤ slots → x.total * 4096 ≤ length m
    → Released x y → Kept g m [] slots y
no_runs g m slots x y window high bytes few room slots_room contained released = record {
  window = window;
  high = high;
  bytes = bytes;
  contained = omega (arith, released.total);
  room = omega (arith, released.total);
  order = record { ascending = ascending_none 0 (2 ^ 26) (omega arith); apart = λ i r s e f m. cc };
  allowed = λ p h e. let z = sym (mapping_none p) ∙ e in cc;
  counted = omega (arith, released.total, released.spare);
  booked = booked_none (first g) (count g) (mapping_of []) x y (omega arith) few room mapping_none released;
}

pub kept_empty : (g : Figures) (m : List ℕ) (rs : List Run) (slots : ℕ) (x y : Pool) → rs ≡ [] → g.gigabyte ≤ 255 → g.leaves ≤ 512 → Bytes m → x.total ≤ 65536 → x.total ≤ length x.entries → x.total ≤ slots → x.total * 4096 ≤ length m
    → Released x y → Kept g m rs slots y
kept_empty g m rs slots x y none window high bytes few room slots_room contained released =
    subst (λ ss. Kept g m ss slots y) (sym none) (no_runs g m slots x y window high bytes few room slots_room contained released)

-- Runs that are none map no page.
pub none_mapped : (rs : List Run) (p : ℕ) → rs ≡ [] → mapping_of rs p ≡ None
none_mapped rs p none = ap (λ ss. mapping_of ss p) none ∙ mapping_none p

pub does_clear : (g : Figures) (m : List ℕ) (rs ss : List Run) (x y : Pool) → ss ≡ [] → Released x y → Cleared (meant g x.total m rs) (meant g y.total m ss)
does_clear g m rs ss x y none released = record { fixed = record { first = refl; count = refl; frames = released.total; base = refl }; page = λ p. none_mapped ss p none }

-- The first free frame is wiped and goes to the page p, which is unmapped.
module _ (g : Figures) (m : List ℕ) (rs : List Run) (slots : ℕ) (x : Pool) (k : Kept g m rs slots x) (p r : ℕ) (low : first g ≤ p) (high : p < first g + count g) (gone : mapping_of rs p ≡ None)
    (some : 0 < x.spare) (lawful : Lawful r) (m' : List ℕ) (ss : List Run) (z : Zeroed (place x.head 0) 4096 m m') (c : Changed p (Some (record { frame = x.head; rights = r })) rs ss) (more : pages ss ≡ pages rs + 1) where
  pub kept_map : Kept g m' ss slots (taken x p)
  kept_map = record {
    window = k.window;
    high = k.high;
    bytes = bytes_zeroed (place x.head 0) 4096 m m' k.bytes z;
    contained = let w = k.contained in let l = z.apart.long in omega arith;
    room = k.room;
    order = c.order;
    allowed = λ q h e. ⊎_elim
        (λ (is : q ≡ p).
        let at : Some h ≡ Some (record { frame = x.head; rights = r }) = sym e ∙ ap (mapping_of ss) is ∙ c.here in
        let h_is : h ≡ record { frame = x.head; rights = r } = cc in
        ap (λ (y : Mapping). allowed y.rights) h_is ∙ lawful_allowed r lawful)
        (λ (ne : q ≡ p → ⊥). k.allowed q h (sym (c.page q ne) ∙ e))
        (cases_eq q p);
    counted = omega (arith, k.counted);
    booked = booked_take (first g) (count g) (mapping_of rs) (mapping_of ss) x p (record { frame = x.head; rights = r }) k.booked low high gone some refl c.here c.page;
  }

  free : Held (meant g x.total m rs) x.head → ⊥
  free = head_free (first g) (count g) (meant g x.total m rs) x k.booked some

  pub does_map : Mapped p r (meant g x.total m rs) (meant g x.total m' ss)
  does_map = record {
    fixed = record { first = refl; count = refl; frames = refl; base = refl };
    frame = x.head;
    here = c.here;
    free = free;
    zeros = λ i s. ap (λ at. get_or m' at 0) (let d : place x.head i ≡ place x.head 0 + i = omega arith in d) ∙ z.zero i s;
    page = c.page;
    byte = λ e i h s.
        let ne : e ≡ x.head → ⊥ = λ q. free (subst (Held (meant g x.total m rs)) q h) in
        z.apart.rest (place e i) (grind arith);
  }

-- The page p, which is mapped so, gives its frame back.
module _ (g : Figures) (m : List ℕ) (rs : List Run) (slots : ℕ) (x : Pool) (k : Kept g m rs slots x) (p : ℕ) (h : Mapping) (was : mapping_of rs p ≡ Some h) (ss : List Run) (c : Changed p None rs ss)
    (less : pages ss + 1 ≡ pages rs) where
  pub kept_unmap : Kept g m ss slots (given x h.frame)
  kept_unmap = record {
    window = k.window;
    high = k.high;
    bytes = k.bytes;
    contained = k.contained;
    room = k.room;
    order = c.order;
    allowed = λ q i e. ⊎_elim
        (λ (is : q ≡ p). let z : None ≡ Some i = sym c.here ∙ ap (mapping_of ss) (sym is) ∙ e in cc)
        (λ (ne : q ≡ p → ⊥). k.allowed q i (sym (c.page q ne) ∙ e))
        (cases_eq q p);
    counted = omega (arith, k.counted);
    booked = booked_give (first g) (count g) (mapping_of rs) (mapping_of ss) x p h k.booked was c.here c.page;
  }

  pub does_unmap : Unmapped p (meant g x.total m rs) (meant g x.total m ss)
  does_unmap = record {
    fixed = record { first = refl; count = refl; frames = refl; base = refl };
    here = c.here;
    page = c.page;
    byte = λ e i h s. refl;
  }

-- A byte of a frame is put.
module _ (g : Figures) (m : List ℕ) (rs : List Run) (slots : ℕ) (x : Pool) (k : Kept g m rs slots x) (f i b : ℕ) (small : i < 4096) (within : place f i < length m) where
  pub kept_poke : b < 256 → Kept g (set m (place f i) b) rs slots x
  kept_poke byte = record {
    window = k.window;
    high = k.high;
    bytes = λ j. ⊎_elim
        (λ (is : j ≡ place f i). let s = get_or-set_same m (place f i) b 0 within in omega (arith, ap (λ n. get_or (set m (place f i) b) n 0) is))
        (λ (ne : j ≡ place f i → ⊥). let s = get_or-set_other m (place f i) j b 0 ne in omega (arith, k.bytes j))
        (cases_eq j (place f i));
    contained = let w = k.contained in omega (arith, length-set m (place f i) b);
    room = k.room;
    order = k.order;
    allowed = k.allowed;
    counted = k.counted;
    booked = k.booked;
  }

  pub does_poke : Poked f i b (meant g x.total m rs) (meant g x.total (set m (place f i) b) rs)
  does_poke = record {
    fixed = record { first = refl; count = refl; frames = refl; base = refl };
    page = λ q. refl;
    here = get_or-set_same m (place f i) b 0 within;
    byte = λ e j l ne. get_or-set_other m (place f i) (place e j) b 0
        (λ s. let a : e ≡ f = omega arith in ne a (omega arith));
  }
