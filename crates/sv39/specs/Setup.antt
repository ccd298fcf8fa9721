-- The figures of a set-up, and copies of the memory. Assumes nothing.
use Rattle.std.specs.Prelude.{◌≡◌, ℕ, ◌+◌, ◌/◌, ◌%◌, ◌^◌, ◌<◌, ◌≤◌, List, [], ◌∷◌, length, Result, MatchResult, slice_index}
use Rattle.faults.specs.Rules.{Rule, single, First, AllClear}
use Rattle.faults.specs.declared.fault.Fault.{Fault}
use Rattle.faults.specs.declared.fault.Reason.TheVariants.{OutputLength}
use Rattle.faults.specs.declared.fault.Layer.TheVariants.{Space}
use Rattle.space.specs.Setups.{WholeFrames, Window, Roomy}
use Rattle.sv39.specs.declared.figures.Figures.{Figures}

-- The figures that a set-up takes, of so many bytes of memory and so many entries of the buffer for frames.
-- There is memory for the tables, it begins at a whole page and ends by 2^56.
pub record LawfulFigures (bytes : ℕ) (g : Figures) (entries : ℕ) : Type 0 where
  pub whole : WholeFrames bytes
  pub window : Window g.gigabyte g.leaves
  pub room : Roomy bytes entries
  pub tables : g.leaves + 2 ≤ bytes / 4096
  pub aligned : g.base % 4096 ≡ 0
  pub reach : g.base + bytes ≤ 2 ^ 56

-- The bytes xs stand at the start of the buffer; the rest of it is as it was.
pub record Copied (xs out after : List ℕ) : Type 0 where
  pub long : length after ≡ length out
  pub start : (i : ℕ) → i < length xs → slice_index after i ≡ slice_index xs i
  pub rest : (i : ℕ) → length xs ≤ i → slice_index after i ≡ slice_index out i

-- The rule of a snapshot: the buffer is shorter than the memory.
abbrev pub snapshot_rules : List ℕ → List ℕ → List Rule
snapshot_rules memory out = single OutputLength Space 0 (length memory) (length out < length memory) ∷ []

-- What a snapshot does: the memory comes to the start of the buffer and its length is answered; or the buffer is too short and stays as it was.
abbrev pub Snapshot : Result ℕ Fault → List ℕ → List ℕ → List ℕ → Type 0
Snapshot r memory out after = MatchResult r (λ n. AllClear (snapshot_rules memory out) × (n ≡ length memory) × Copied memory out after) (λ f. First (snapshot_rules memory out) f × (after ≡ out))
