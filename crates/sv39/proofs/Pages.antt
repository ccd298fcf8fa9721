-- The pages that tables give. Assumes nothing.
use Rattle.std.proofs.Common.{◌≡◌, ℕ, zero, suc, ◌+◌, ◌-◌, ◌<◌, ◌≤◌, ◌⊎◌, List, Some, None, refl, ap, arith}
use Rattle.std.proofs.lemmas.Bool.Decides.{nat_tests}
use Rattle.sv39.specs.declared.figures.Figures.{Figures}
use Rattle.sv39.specs.Entries.{rights_in}
use Rattle.sv39.specs.Tables.{first, count, slot, frame_in, mapping_in, page_at}

pub page_outside : (g : Figures) (memory : List ℕ) (p : ℕ) → (p < first g) ⊎ (first g + count g ≤ p) → page_at g memory p ≡ None
page_outside g memory p o = grind (arith, nat_tests)

pub page_inside : (g : Figures) (memory : List ℕ) (p : ℕ) → first g ≤ p → p < first g + count g → page_at g memory p ≡ mapping_in g (slot memory (p - first g))
page_inside g memory p low high = grind (arith, nat_tests)

pub mapping_zero : (g : Figures) (e : ℕ) → e ≡ 0 → mapping_in g e ≡ None
mapping_zero g e z = ap (mapping_in g) z

pub mapping_more : (g : Figures) (e : ℕ) → 0 < e → mapping_in g e ≡ Some (record { frame = frame_in g e; rights = rights_in e })
mapping_more g zero h = absurd (omega arith)
mapping_more g (suc e) h = refl
