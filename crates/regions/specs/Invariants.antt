-- What always holds of a region list. Assumes nothing.
use Rattle.std.specs.Prelude.{◌≡◌, ℕ, ◌+◌, ◌*◌, ◌≤◌, List, length, slice_index}
use Rattle.space.specs.Meaning.{Meaning, Sound}
use Rattle.space.specs.Memory.{Bytes}
use Rattle.space.specs.Frames.{Pool, Allowed, Booked, booked_sound}
use Rattle.regions.specs.declared.figures.Figures.{Figures}
use Rattle.regions.specs.declared.run.Run.{Run}
use Rattle.regions.specs.Runs.{mapping_of, InOrder, pages}
use Rattle.regions.specs.Setup.{first, count}

-- Where byte i of frame f lies in the memory.
abbrev pub place : ℕ → ℕ → ℕ
place f i = f * 4096 + i

-- The space that memory and runs mean, with `total` frames.
abbrev pub meant : Figures → ℕ → List ℕ → List Run → Meaning
meant g total memory rs = record {
  first = first g;
  count = count g;
  frames = total;
  base = 0;
  page = mapping_of rs;
  byte = λ f i. slice_index memory (place f i);
}

-- All that always holds of the figures, the memory, the runs in a buffer of so many slots and the bookkeeping of the frames.
-- Each run has a page and each page a frame of its own, so there are never more runs than frames, and a slot for each frame is enough.
-- `counted` counts the mapped pages run by run, which bounds the number of runs; `Booked` counts them page by page through the window. That both counts agree is shown nowhere.
pub record Kept (g : Figures) (memory : List ℕ) (rs : List Run) (slots : ℕ) (x : Pool) : Type 0 where
  pub window : g.gigabyte ≤ 255
  pub high : g.leaves ≤ 512
  pub bytes : Bytes memory
  -- The frames lie in the memory.
  pub contained : x.total * 4096 ≤ length memory
  pub room : x.total ≤ slots
  pub order : InOrder rs
  pub allowed : Allowed (mapping_of rs)
  pub counted : pages rs + x.spare ≡ x.total
  pub booked : Booked (first g) (count g) (mapping_of rs) x

-- The space is sound.
pub meant_sound : (g : Figures) (memory : List ℕ) (rs : List Run) (slots : ℕ) (x : Pool) → Kept g memory rs slots x → Sound (meant g x.total memory rs)
meant_sound g memory rs slots x k =
    booked_sound (meant g x.total memory rs) x.entries k.booked.window k.booked.few k.booked.inside k.booked.below k.allowed k.booked.owned (λ f i. k.bytes (place f i))
