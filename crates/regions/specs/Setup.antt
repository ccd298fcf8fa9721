-- The figures of a set-up, and those of the window. Assumes nothing.
use Rattle.std.specs.Prelude.{ℕ, ◌*◌}
use Rattle.space.specs.Setups.{WholeFrames, Window, Roomy}
use Rattle.regions.specs.declared.figures.Figures.{Figures}

-- The first page of the window.
abbrev pub first : Figures → ℕ
first g = 262144 * g.gigabyte

-- The number of pages of the window.
abbrev pub count : Figures → ℕ
count g = 512 * g.leaves

-- The figures that a set-up takes, of so many bytes of memory and so many entries of the buffers for runs and for frames.
pub record LawfulFigures (bytes : ℕ) (g : Figures) (slots entries : ℕ) : Type 0 where
  pub whole : WholeFrames bytes
  pub window : Window g.gigabyte g.leaves
  pub runs : Roomy bytes slots
  pub free : Roomy bytes entries
