-- What a set-up makes. Assumes nothing.
use Rattle.std.proofs.Common.{◌≡◌, ℕ, ◌/◌, List, [], length, refl, ap, ◌∙◌, arith, ext_get_or}
use Rattle.space.specs.Memory.{Bytes}
use Rattle.space.specs.Frames.{Pool, Released}
use Rattle.space.specs.Setups.{Empty}
use Rattle.regions.specs.declared.figures.Figures.{Figures}
use Rattle.regions.specs.declared.run.Run.{Run}
use Rattle.regions.specs.Setup.{first, count, LawfulFigures}
use Rattle.regions.specs.Invariants.{meant, Kept}
use Rattle.regions.proofs.Keeps.{kept_empty, none_mapped}

-- A space of lawful figures.
module _ (g : Figures) (m : List ℕ) (rs : List Run) (slots n : ℕ) (x y : Pool) (none : rs ≡ []) (lawful : LawfulFigures (length m) g n (length x.entries)) (total : x.total ≡ length m / 4096) (released : Released x y) where
  pub kept_built : Bytes m → slots ≡ n → Kept g m rs slots y
  kept_built bytes long =
      let w = lawful.window in
      kept_empty g m rs slots x y none w.0 (omega (arith, w.2)) bytes (omega (arith, lawful.whole.1)) (omega (arith, lawful.free)) (omega (arith, lawful.runs)) (omega (arith, lawful.whole.0)) released

  pub built_empty : Empty (first g) (count g) (length m / 4096) (meant g y.total m rs)
  built_empty = record { first = refl; count = refl; frames = released.total ∙ total; page = λ p. none_mapped rs p none }

-- Figures of zeros.
pub no_figures : {g : Figures} → g.gigabyte ≡ 0 → g.leaves ≡ 0 → g ≡ record { gigabyte = 0; leaves = 0 }
no_figures {g = g} gigabyte leaves = ap (λ n. record { gigabyte = n; leaves = g.leaves }) gigabyte ∙ ap (λ n. record { gigabyte = 0; leaves = n }) leaves

-- A space of other figures.
module _ (g : Figures) (m : List ℕ) (rs : List Run) (slots : ℕ) (x y : Pool) (none : rs ≡ []) (gigabyte : g.gigabyte ≡ 0) (leaves : g.leaves ≡ 0) (total : x.total ≡ 0) (released : Released x y) where
  pub kept_nothing : Bytes m → Kept g m rs slots y
  kept_nothing bytes = kept_empty g m rs slots x y none (omega arith) (omega arith) bytes (omega arith) (omega arith) (omega arith) (omega arith) released

  pub nothing_empty : Empty 0 0 0 (meant g y.total m rs)
  nothing_empty = record { first = omega arith; count = omega arith; frames = released.total ∙ total; page = λ p. none_mapped rs p none }

  pub nothing_entries : y.entries ≡ x.entries
  nothing_entries = ext_get_or 0 y.entries x.entries released.long (λ k l. released.rest k (omega arith))
