-- What each call on an address space does to its meaning. Assumes nothing.
use Rattle.std.specs.Prelude.{◌≡◌, ℕ, ◌*◌, ◌<◌, List, [], ◌∷◌, Some, None, Option, Result, MatchResult, ◌≢◌}
use Rattle.faults.specs.Rules.{Rule, single, First, AllClear}
use Rattle.faults.specs.declared.fault.Fault.{Fault}
use Rattle.faults.specs.declared.fault.Reason.TheVariants.{OutsideWindow, PageMapped, NoRoom, RightsNumber, PageUnmapped, FrameUnused}
use Rattle.faults.specs.declared.fault.Layer.TheVariants.{Space}
use Rattle.space.specs.Meaning.{Meaning, Lawful, Outside, IsMapped, Held, mapped}
use Rattle.space.specs.declared.parts.Mapping.{Mapping}
use Rattle.space.specs.declared.parts.Bounds.{Bounds}

-- When map refuses: the page is outside the window, mapped already, all frames are in use, or the rights are not lawful.
abbrev pub map_rules : Meaning → ℕ → ℕ → List Rule
map_rules m p rights =
    single OutsideWindow Space 0 (p * 4096) (Outside m p)
    ∷ single PageMapped Space 0 (p * 4096) (IsMapped m p)
    ∷ single NoRoom Space 0 0 (mapped m ≡ m.frames)
    ∷ single RightsNumber Space 0 rights (Lawful rights → ⊥)
    ∷ []

-- When unmap refuses: the page is outside the window, or not mapped.
abbrev pub unmap_rules : Meaning → ℕ → List Rule
unmap_rules m p = single OutsideWindow Space 0 (p * 4096) (Outside m p) ∷ single PageUnmapped Space 0 (p * 4096) (IsMapped m p → ⊥) ∷ []

-- When peek and poke refuse: no page has the frame, or the index is past the page.
abbrev pub byte_rules : Meaning → ℕ → ℕ → List Rule
byte_rules m f i = single FrameUnused Space 0 f (Held m f × (i < 4096) → ⊥) ∷ []

-- What no call changes.
pub record Fixed (m n : Meaning) : Type 0 where
  pub first : n.first ≡ m.first
  pub count : n.count ≡ m.count
  pub frames : n.frames ≡ m.frames
  pub base : n.base ≡ m.base

-- No page is mapped any more.
pub record Cleared (m n : Meaning) : Type 0 where
  pub fixed : Fixed m n
  pub page : (q : ℕ) → n.page q ≡ None

-- Page p got these rights, a frame that no page had, and zeros. Other pages and their bytes are as they were.
pub record Mapped (p rights : ℕ) (m n : Meaning) : Type 0 where
  pub fixed : Fixed m n
  pub frame : ℕ
  pub here : n.page p ≡ Some (record { frame = frame; rights = rights })
  pub free : Held m frame → ⊥
  pub zeros : (i : ℕ) → i < 4096 → n.byte frame i ≡ 0
  pub page : (q : ℕ) → (q ≢ p) → n.page q ≡ m.page q
  pub byte : (f i : ℕ) → Held m f → i < 4096 → n.byte f i ≡ m.byte f i

-- Page p is not mapped any more. Other pages and their bytes are as they were.
pub record Unmapped (p : ℕ) (m n : Meaning) : Type 0 where
  pub fixed : Fixed m n
  pub here : n.page p ≡ None
  pub page : (q : ℕ) → (q ≢ p) → n.page q ≡ m.page q
  pub byte : (f i : ℕ) → Held n f → i < 4096 → n.byte f i ≡ m.byte f i

-- The byte b came to index i of frame f. All else is as it was.
pub record Poked (f i b : ℕ) (m n : Meaning) : Type 0 where
  pub fixed : Fixed m n
  pub page : (q : ℕ) → n.page q ≡ m.page q
  pub here : n.byte f i ≡ b
  pub byte : (e j : ℕ) → j < 4096 → (e ≡ f → j ≢ i) → n.byte e j ≡ m.byte e j

-- bounds answers first page, page count and number of frames.
abbrev pub Bounded : Bounds → Meaning → Type 0
Bounded b m = (b.first ≡ m.first) × (b.count ≡ m.count) × (b.frames ≡ m.frames)

-- look answers a page's frame and rights, or that it is not mapped, and changes nothing.
pub record Looks (p : ℕ) (r : Option Mapping) (m n : Meaning) : Type 0 where
  pub answer : r ≡ m.page p
  pub same : n ≡ m

-- What a call behind a family of rules does: its effect where none fits; else it answers the first fault and changes nothing.
abbrev pub Behind : {X : Type 0} → List Rule → Result X Fault → Meaning → Meaning → (X → Type 0) → Type 0
Behind rules r m n Done = MatchResult r (λ x. AllClear rules × Done x) (λ f. First rules f × (n ≡ m))

-- map gives the page a frame, zeros and the rights, or refuses.
abbrev pub Maps : ℕ → ℕ → Result (Unit {0}) Fault → Meaning → Meaning → Type 0
Maps p rights r m n = Behind (map_rules m p rights) r m n (λ _. Mapped p rights m n)

-- unmap takes the page's frame from it, or refuses.
abbrev pub Unmaps : ℕ → Result (Unit {0}) Fault → Meaning → Meaning → Type 0
Unmaps p r m n = Behind (unmap_rules m p) r m n (λ _. Unmapped p m n)

-- peek answers the byte at an index of a frame, or refuses.
abbrev pub Peeks : ℕ → ℕ → Result ℕ Fault → Meaning → Type 0
Peeks f i r m = MatchResult r (λ b. AllClear (byte_rules m f i) × (b ≡ m.byte f i)) (λ e. First (byte_rules m f i) e)

-- poke puts a byte at an index of a frame, or refuses.
abbrev pub Pokes : ℕ → ℕ → ℕ → Result (Unit {0}) Fault → Meaning → Meaning → Type 0
Pokes f i b r m n = Behind (byte_rules m f i) r m n (λ _. Poked f i b m n)

-- A value x became y by a call: where x was valid so is y, and the meanings before and after are as the call says.
abbrev pub Step : {X : Type 0} → (X → Type 0) → (X → Meaning) → X → X → (Meaning → Meaning → Type 0) → Type 0
Step valid meaning x y Does = valid x → valid y × Does (meaning x) (meaning y)
