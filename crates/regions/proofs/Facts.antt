-- What the calls on a space find, and what their steps come to. Assumes nothing.
use Rattle.std.proofs.Common.{◌≡◌, true, false, is_some, ℕ, zero, suc, ◌+◌, ◌-◌, ◌*◌, ◌^◌, ◌<◌, ◌≤◌, List, [], ◌∷◌, length, set, Some, None, Ok, Option, MatchOption, sym, ap, ◌∙◌, subst, inl, inr, ⊎_elim, rules, arith, lit<}
use Rattle.std.specs.List.{slice_get}
use Rattle.std.proofs.lemmas.List.Sums.{sum_by-cons}
use Rattle.faults.specs.Rules.{Clear, First, single}
use Rattle.faults.specs.declared.fault.Fault.{Fault}
use Rattle.faults.specs.declared.fault.Layer.TheVariants.{Space}
use Rattle.faults.specs.declared.fault.Reason.TheVariants.{OutsideWindow, RightsNumber}
use Rattle.space.specs.declared.parts.Mapping.{Mapping}
use Rattle.space.specs.Meaning.{Meaning, Outside, IsMapped, Held, Lawful, mapped}
use Rattle.space.specs.Memory.{Zeroed, Wiped}
use Rattle.space.specs.Frames.{Pool, pool, IsUsed, Takes, Gives}
use Rattle.space.specs.Calls.{Mapped, Unmapped, Poked, Maps, Unmaps, Pokes, map_rules}
use Rattle.space.proofs.Bookings.{ready, held_used}
use Rattle.regions.specs.declared.run.Run.{Run}
use Rattle.regions.specs.declared.runs.Runs.{Runs}
use Rattle.regions.specs.declared.list.RegionList.{RegionList}
use Rattle.regions.specs.Runs.{Holds, HeldBy, mapping_in, mapping_of, in_order, pages, in_use, slots}
use Rattle.regions.specs.Changes.{Unheld, Cuttable, Changed}
use Rattle.regions.specs.Setup.{first, count}
use Rattle.regions.specs.Invariants.{place, meant, Kept}
use Rattle.regions.specs.Spaces.{memory_of, runs_of, means, IsByte, Lists}
use Rattle.regions.proofs.Mappings.{head, lies, held_some, unheld_none, before_later, given_by}
use Rattle.regions.proofs.Orders.{used_long}
use Rattle.regions.proofs.Keeps.{kept_map, does_map, kept_unmap, does_unmap, kept_poke, does_poke, taken, given}

-- There are as many pages as runs at least, and more by those that a run has besides its first.
pub long : (a b : ℕ) (rs : List Run) → in_order a b rs ≡ true → length rs ≤ pages rs
long a b [] o = omega arith
long a b (r ∷ rs) o =
    let h = head a b r rs o in
    let l = long (r.first + r.count) b rs h.rest in
    omega (arith, h.some, sum_by-cons (λ (s : Run). s.count) r rs)

pub longer : (a b : ℕ) (rs : List Run) (i : ℕ) (r : Run) → in_order a b rs ≡ true → slice_get rs i ≡ Some r → length rs + r.count ≤ pages rs + 1
longer a b [] i r o e = cc
longer a b (s ∷ rs) zero r o e =
    let h = head a b s rs o in
    let l = long (s.first + s.count) b rs h.rest in
    let is : s ≡ r = cc in
    omega (arith, ap (λ (t : Run). t.count) is, sum_by-cons (λ (t : Run). t.count) s rs)
longer a b (s ∷ rs) (suc i) r o e =
    let h = head a b s rs o in
    let l = longer (s.first + s.count) b rs i r h.rest e in
    omega (arith, h.some, sum_by-cons (λ (t : Run). t.count) s rs)

-- The frames of a run are frames of the space.
pub run_frames : (t : RegionList) (i : ℕ) (r : Run) → slice_get (runs_of t) i ≡ Some r → r.frame + r.count ≤ t.frames.total
run_frames t i r e =
    let l = lies 0 (2 ^ 26) (runs_of t) i r t.kept.order.ascending e in
    let p = r.first + (r.count - 1) in
    let m = held_some 0 (2 ^ 26) (runs_of t) i r p t.kept.order.ascending e (omega arith, omega (arith, l.some)) in
    omega (arith, t.kept.booked.below p (mapping_in r p) m, l.some)

-- A page that a run holds is mapped; one that no run holds is not.
pub held_mapped : (t : RegionList) (p i : ℕ) → HeldBy (runs_of t) p i → IsMapped (means t) p
held_mapped t p i (r, e, l) = (mapping_in r p, held_some 0 (2 ^ 26) (runs_of t) i r p t.kept.order.ascending e l)

pub unheld_unmapped : (t : RegionList) (p : ℕ) → Unheld (runs_of t) p → IsMapped (means t) p → ⊥
unheld_unmapped t p none (h, e) = let z : None ≡ Some h = sym (unheld_none (runs_of t) p none) ∙ e in cc

-- What the search for a page tells.
pub found_mapped : (t : RegionList) (p : ℕ) (o : Option ℕ) → MatchOption o (Unheld (runs_of t) p) (λ i. HeldBy (runs_of t) p i) → is_some o ≡ true → IsMapped (means t) p
found_mapped t p None none e = cc
found_mapped t p (Some i) held e = held_mapped t p i held

pub found_none : (t : RegionList) (p : ℕ) (o : Option ℕ) → MatchOption o (Unheld (runs_of t) p) (λ i. HeldBy (runs_of t) p i) → is_some o ≡ false → Unheld (runs_of t) p
found_none t p None none e = none
found_none t p (Some i) held e = cc

-- What run i gives to a page that it holds.
pub gives : (t : RegionList) (p i : ℕ) (r : Run) → HeldBy (runs_of t) p i → slice_get (runs_of t) i ≡ Some r → Holds r p × (mapping_of (runs_of t) p ≡ Some (mapping_in r p))
gives t p i r (s, e, l) f =
    let is : s ≡ r = cc in
    let h : Holds r p = subst (λ u. Holds u p) is l in
    (h, held_some 0 (2 ^ 26) (runs_of t) i r p t.kept.order.ascending f h)

-- The runs list the mapped pages.
pub lists : (t : RegionList) → Lists (means t) (runs_of t)
lists t = record {
  some = λ i r e. (lies 0 (2 ^ 26) (runs_of t) i r t.kept.order.ascending e).some;
  ascending = λ i j r s. before_later 0 (2 ^ 26) (runs_of t) i j r s t.kept.order.ascending;
  apart = t.kept.order.apart;
  mapped = λ i k r e l.
      let d : r.first + k - r.first ≡ k = omega arith in
      held_some 0 (2 ^ 26) (runs_of t) i r (r.first + k) t.kept.order.ascending e (omega arith, omega arith)
      ∙ ap (λ n. Some (record { frame = r.frame + n; rights = r.rights })) d;
  held = λ p h e. let g = given_by (runs_of t) p h e in (g.slot, (g.run, g.at, g.holds));
}

-- A page in the window is not outside it.
pub inside : (t : RegionList) (p : ℕ) → Clear (single OutsideWindow Space 0 (p * 4096) (Outside (means t) p)) → Outside (means t) p → ⊥
inside t p clear = clear 0 (lit< tt)

pub in_window : (t : RegionList) (p : ℕ) → (Outside (means t) p → ⊥) → (first t.figures ≤ p) × (p < first t.figures + count t.figures)
in_window t p within =
    let low : p < first t.figures → ⊥ = λ l. within (inl l) in
    let high : first t.figures + count t.figures ≤ p → ⊥ = λ l. within (inr l) in
    (omega arith, omega arith)

-- A frame that a page has is in use.
pub used : (t : RegionList) (f : ℕ) → Held (means t) f → IsUsed (pool t.frames) f
used t f h = held_used (first t.figures) (count t.figures) (means t) (pool t.frames) t.kept.booked f h

-- Where frames are free, the first lies in the memory, there is a slot for one run more, and not all frames are in use.
pub record Room (t : RegionList) : Type 0 where
  pub below : t.frames.head < t.frames.total
  pub within : place t.frames.head 0 + 4096 ≤ length (memory_of t)
  pub slot : t.runs.used < slots t.runs
  pub some : mapped (means t) ≡ t.frames.total → ⊥

pub room : (t : RegionList) → 0 < t.frames.spare → Room t
room t some =
    let r = ready (first t.figures) (count t.figures) (mapping_of (runs_of t)) (pool t.frames) t.kept.booked some in
    let l = long 0 (2 ^ 26) (runs_of t) t.kept.order.ascending in
    record {
      below = r.below;
      within = omega (arith, r.below, t.kept.contained);
      slot = omega (arith, used_long t.runs, t.kept.counted, t.kept.room);
      some = λ e. let c = t.kept.booked.counted in omega arith;
    }

-- The run that holds a page can be cut there.
pub cuttable : (t : RegionList) (p i : ℕ) → HeldBy (runs_of t) p i → Cuttable t.runs p i
cuttable t p i (r, e, l) = record {
  run = r;
  there = e;
  holds = l;
  frames = omega (arith, run_frames t i r e, t.kept.booked.few);
  room = λ h. omega (arith, longer 0 (2 ^ 26) (runs_of t) i r t.kept.order.ascending e, used_long t.runs, t.kept.counted, t.kept.room);
}

-- A page that may be mapped where a frame is free: it lies in the window, and no run holds it.
pub record Mappable (t : RegionList) (p : ℕ) : Type 0 where
  pub within : Outside (means t) p → ⊥
  pub unheld : Unheld (runs_of t) p
  pub unmapped : IsMapped (means t) p → ⊥

pub mappable : (t : RegionList) (p : ℕ) (o : Option ℕ) → Clear (single OutsideWindow Space 0 (p * 4096) (Outside (means t) p)) → MatchOption o (Unheld (runs_of t) p) (λ i. HeldBy (runs_of t) p i) → is_some o ≡ false → Mappable t p
mappable t p o clear found none =
    let unheld = found_none t p o found none in
    record { within = inside t p clear; unheld = unheld; unmapped = unheld_unmapped t p unheld }

-- The first free frame, and that there is none.
pub first_frame : (t : RegionList) (o : Option ℕ) (f : ℕ) → MatchOption o (t.frames.spare ≡ 0) (λ g. (0 < t.frames.spare) × (g ≡ t.frames.head)) → o ≡ Some f → (0 < t.frames.spare) × (f ≡ t.frames.head)
first_frame t None f found is = cc
first_frame t (Some g) f found is = let same : g ≡ f = cc in subst (λ n. (0 < t.frames.spare) × (n ≡ t.frames.head)) same found

pub none_free : (t : RegionList) (o : Option ℕ) → MatchOption o (t.frames.spare ≡ 0) (λ g. (0 < t.frames.spare) × (g ≡ t.frames.head)) → is_some o ≡ false → mapped (means t) ≡ t.frames.total
none_free t None found is = omega (arith, t.kept.booked.counted)
none_free t (Some g) found is = cc

-- What refuses rights that are not lawful.
pub rights_refused : (m : Meaning) (p r : ℕ) (f : Fault) → (Outside m p → ⊥) → (IsMapped m p → ⊥) → (mapped m ≡ m.frames → ⊥) → (Lawful r → ⊥) → f ≡ record { reason = RightsNumber; layer = Space; «record» = 0; place = r } → First (map_rules m p r) f
rights_refused m p r f within unmapped free wrong is = search rules

-- What is taken where frames are free.
takes_some : (t : RegionList) (p : ℕ) (o : Option ℕ) (y : Pool) → 0 < t.frames.spare → Takes p o (pool t.frames) y → y ≡ taken (pool t.frames) p
takes_some t p None y some (none, same) =
    let r = ready (first t.figures) (count t.figures) (mapping_of (runs_of t)) (pool t.frames) t.kept.booked some in
    absurd (⊎_elim (λ (e : t.frames.spare ≡ 0). omega arith) (λ (l : length t.frames.entries.now ≤ t.frames.head). omega (arith, r.within)) none)
takes_some t p (Some f) y some d = d.3

-- What a space comes to by a call that is done.
pub record Stepped (t : RegionList) (m : List ℕ) (ss : List Run) (slots : ℕ) (y : Pool) (Does : Type 0) : Type 0 where
  pub kept : Kept t.figures m ss slots y
  pub does : Does

-- What the runs and the frames come to where a page is mapped, once the memory is m.
abbrev pub MapDone : RegionList → ℕ → ℕ → List ℕ → Runs → Pool → Type 0
MapDone t p r m x y = Stepped t m (in_use x) (slots x) y (Maps p r (Ok tt) (means t) (meant t.figures y.total m (in_use x)))

-- The steps of a mapping: the first free frame is wiped, the page comes to the runs, the frame is taken.
pub map_step : (t : RegionList) (p r f : ℕ) (m : List ℕ) (x : Runs) (o : Option ℕ) (y : Pool) → Mappable t p → (0 < t.frames.spare) × (f ≡ t.frames.head) → Lawful r
    → Wiped (f * 4096) 4096 (memory_of t) m → Changed p (Some (record { frame = f; rights = r })) (runs_of t) (in_use x) → pages (in_use x) ≡ pages (runs_of t) + 1 → slots x ≡ slots t.runs
    → Takes p o (pool t.frames) y → MapDone t p r m x y
map_step t p r f m x o y new (some, is) lawful wiped put more same takes =
    let ss = in_use x in
    let changed = subst (λ n. Changed p (Some (record { frame = n; rights = r })) (runs_of t) ss) is put in
    let w = in_window t p new.within in
    let gone = unheld_none (runs_of t) p new.unheld in
    let lies_in = (room t some).within in
    let at : f * 4096 ≡ place t.frames.head 0 = omega arith in
    let z : Zeroed (place t.frames.head 0) 4096 (memory_of t) m = subst (λ n. Zeroed n 4096 (memory_of t) m) at (wiped.zeroed (omega arith)) in
    let y_is = takes_some t p o y some takes in
    record {
      kept = subst (λ n. Kept t.figures m ss n y) (sym same)
          (subst (Kept t.figures m ss (slots t.runs)) (sym y_is) (kept_map t.figures (memory_of t) (runs_of t) _ (pool t.frames) t.kept p r w.0 w.1 gone some lawful m ss z changed more));
      does = (
        (let within = new.within in let unmapped = new.unmapped in let full = (room t some).some in search rules),
        subst (λ (u : Pool). Mapped p r (means t) (meant t.figures u.total m ss)) (sym y_is)
            (does_map t.figures (memory_of t) (runs_of t) _ (pool t.frames) t.kept p r w.0 w.1 gone some lawful m ss z changed more),
      );
    }

-- What the runs and the frames come to where a page is unmapped.
abbrev pub UnmapDone : RegionList → ℕ → Runs → Pool → Type 0
UnmapDone t p x y = Stepped t (memory_of t) (in_use x) (slots x) y (Unmaps p (Ok tt) (means t) (meant t.figures y.total (memory_of t) (in_use x)))

-- The steps of an unmapping: the page is cut out of its run, and its frame is given back.
pub unmap_step : (t : RegionList) (p : ℕ) (h : Mapping) (x : Runs) (y : Pool) → (Outside (means t) p → ⊥) → mapping_of (runs_of t) p ≡ Some h → Changed p None (runs_of t) (in_use x) → pages (in_use x) + 1 ≡ pages (runs_of t)
    → slots x ≡ slots t.runs → Gives h.frame (pool t.frames) y → UnmapDone t p x y
unmap_step t p h x y within was changed less same gives =
    let ss = in_use x in
    let frame = t.kept.booked.below p h was in
    let y_is : y ≡ given (pool t.frames) h.frame = gives.given (omega (arith, frame, t.kept.booked.room)) (omega (arith, t.kept.booked.counted, t.kept.booked.few)) in
    record {
      kept = subst (λ n. Kept t.figures (memory_of t) ss n y) (sym same)
          (subst (Kept t.figures (memory_of t) ss (slots t.runs)) (sym y_is) (kept_unmap t.figures (memory_of t) (runs_of t) _ (pool t.frames) t.kept p h was ss changed less));
      does = (
        (let mapped_p : IsMapped (means t) p = (h, was) in search rules),
        subst (λ (u : Pool). Unmapped p (means t) (meant t.figures u.total (memory_of t) ss)) (sym y_is)
            (does_unmap t.figures (memory_of t) (runs_of t) _ (pool t.frames) t.kept p h was ss changed less),
      );
    }

-- The step of a poke: a byte comes to its place.
pub poke_step : (t : RegionList) (f i at b : ℕ) (m : List ℕ) → IsByte t f i at → b < 256 → m ≡ set (memory_of t) at b
    → Stepped t m (runs_of t) (slots t.runs) (pool t.frames) (Pokes f i b (Ok tt) (means t) (meant t.figures t.frames.total m (runs_of t)))
poke_step t f i at b m byte small is =
    let within : place f i < length (memory_of t) = subst (λ n. n < length (memory_of t)) byte.place byte.within in
    let e = sym (is ∙ ap (λ n. set (memory_of t) n b) byte.place) in
    record {
      kept = subst (λ l. Kept t.figures l (runs_of t) (slots t.runs) (pool t.frames)) e (kept_poke t.figures (memory_of t) (runs_of t) _ (pool t.frames) t.kept f i b byte.small within small);
      does = (
        (let held = byte.held in let low = byte.small in search rules),
        subst (λ l. Poked f i b (means t) (meant t.figures t.frames.total l (runs_of t))) e (does_poke t.figures (memory_of t) (runs_of t) _ (pool t.frames) t.kept f i b byte.small within),
      );
    }
