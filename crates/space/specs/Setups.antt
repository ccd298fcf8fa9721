-- The figures of which an address space is set up in memory, and the space that is made. Assumes nothing.
use Rattle.std.specs.Prelude.{◌≡◌, ℕ, ◌/◌, ◌%◌, ◌≤◌, List, [], ◌∷◌, None, Result, MatchResult}
use Rattle.faults.specs.Rules.{Rule, single, First}
use Rattle.faults.specs.declared.fault.Fault.{Fault}
use Rattle.faults.specs.declared.fault.Reason.TheVariants.{SpaceFigures}
use Rattle.faults.specs.declared.fault.Layer.TheVariants.{Space}
use Rattle.space.specs.Meaning.{Meaning}

-- So many bytes of memory are 0 to 65,536 whole frames.
abbrev pub WholeFrames : ℕ → Type 0
WholeFrames bytes = (bytes % 4096 ≡ 0) × (bytes / 4096 ≤ 65536)

-- The window begins at a gigabyte from 0 to 255 and has 1 to 512 tables of 512 pages.
abbrev pub Window : ℕ → ℕ → Type 0
Window gigabyte leaves = (gigabyte ≤ 255) × (1 ≤ leaves) × (leaves ≤ 512)

-- A bookkeeping buffer has an entry for each frame of the memory.
abbrev pub Roomy : ℕ → ℕ → Type 0
Roomy bytes entries = bytes / 4096 ≤ entries

-- When a set-up refuses: the figures are not lawful.
abbrev pub setup_rules : Type 0 → List Rule
setup_rules Lawful = single SpaceFigures Space 0 0 (Lawful → ⊥) ∷ []

-- What the check of a set-up answers: the figures are lawful, or the fault.
abbrev pub Checks : {X : Type 0} → Type 0 → Result X Fault → Type 0
Checks Lawful r = MatchResult r (λ _. Lawful) (λ f. First (setup_rules Lawful) f)

-- A space with this first page, page count and number of frames, and with no page mapped.
pub record Empty (a n t : ℕ) (m : Meaning) : Type 0 where
  pub first : m.first ≡ a
  pub count : m.count ≡ n
  pub frames : m.frames ≡ t
  pub page : (q : ℕ) → m.page q ≡ None
