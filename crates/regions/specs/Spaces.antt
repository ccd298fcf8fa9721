-- A region list as a whole. Assumes nothing.
use Rattle.std.specs.Prelude.{◌≡◌, ℕ, ◌+◌, ◌/◌, ◌<◌, ◌≤◌, List, length, Some}
use Rattle.std.specs.List.{slice_get}
use Rattle.space.specs.declared.parts.Mapping.{Mapping}
use Rattle.space.specs.Meaning.{Meaning, Sound, Held}
use Rattle.space.specs.Frames.{pool}
use Rattle.space.specs.Setups.{Empty}
use Rattle.regions.specs.declared.figures.Figures.{Figures}
use Rattle.regions.specs.declared.run.Run.{Run}
use Rattle.regions.specs.declared.list.RegionList.{RegionList}
use Rattle.regions.specs.Runs.{Apart, HeldBy, in_use, slots}
use Rattle.regions.specs.Setup.{first, count}
use Rattle.regions.specs.Invariants.{meant, meant_sound, place as place-of}

-- The raw memory.
abbrev pub memory_of : RegionList → List ℕ
memory_of t = t.memory.now

-- The runs in use.
abbrev pub runs_of : RegionList → List Run
runs_of t = in_use t.runs

-- What the space means.
abbrev pub means : RegionList → Meaning
means t = meant t.figures t.frames.total (memory_of t) (runs_of t)

-- Every space is valid.
abbrev pub always : RegionList → Type 0
always t = Unit {0}

-- Every space is sound.
pub means_sound : (t : RegionList) → Sound (means t)
means_sound t = meant_sound t.figures (memory_of t) (runs_of t) (slots t.runs) (pool t.frames) t.kept

-- Some page has the frame, and its byte at the index lies at this place of the memory.
pub record IsByte (t : RegionList) (f i at : ℕ) : Type 0 where
  pub held : Held (means t) f
  pub small : i < 4096
  pub place : at ≡ place-of f i
  pub within : at < length (memory_of t)

-- The runs ascend, are disjoint, and hold exactly the mapped pages, with their frames and rights. Neighbours that could be one run are one.
pub record Lists (m : Meaning) (rs : List Run) : Type 0 where
  -- No run is empty, and each ends before the later ones begin.
  pub some : (i : ℕ) (r : Run) → slice_get rs i ≡ Some r → 0 < r.count
  pub ascending : (i j : ℕ) (r s : Run) → i < j → slice_get rs i ≡ Some r → slice_get rs j ≡ Some s → r.first + r.count ≤ s.first
  -- Page k of a run is mapped to frame k of the run, with the run's rights.
  pub mapped : (i k : ℕ) (r : Run) → slice_get rs i ≡ Some r → k < r.count → m.page (r.first + k) ≡ Some (record { frame = r.frame + k; rights = r.rights })
  -- No run goes on where the one before it ends.
  pub apart : Apart rs
  -- Some run holds a mapped page.
  pub held : (p : ℕ) (h : Mapping) → m.page p ≡ Some h → (i : ℕ) × HeldBy rs p i

-- What is made of lawful figures: the window, a frame for each page of memory, no page mapped.
pub record Made (bytes : ℕ) (g : Figures) (t : RegionList) : Type 0 where
  pub figures : t.figures ≡ g
  pub empty : Empty (first g) (count g) (bytes / 4096) (means t)

-- What is made of other figures: a space without pages and frames. Memory and buffers are as they were.
pub record Unmade (xs : List ℕ) (rs : List Run) (es : List ℕ) (t : RegionList) : Type 0 where
  pub figures : t.figures ≡ record { gigabyte = 0; leaves = 0 }
  pub empty : Empty 0 0 0 (means t)
  pub memory : memory_of t ≡ xs
  pub runs : t.runs.buffer.now ≡ rs
  pub entries : t.frames.entries.now ≡ es
