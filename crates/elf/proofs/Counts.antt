-- The count of load headers: what the chain over the headers gives is what the definition says. Assumes nothing.
use Rattle.std.proofs.Common.{◌≡◌, ℕ, zero, suc, ◌+◌, cond, eqb, List, map, refl, ap, ◌∙◌, sym, add-one, arith}
use Rattle.std.specs.List.{count_by, range_with_len}
use Rattle.std.proofs.lemmas.List.FromFn.{sum_by-map-range_with_len_more}
use Rattle.elf.specs.Segments.{header, loads}
use Rattle.elf.specs.declared.layout.Layout.{Layout}
use Rattle.elf.specs.declared.records.ProgramHeader.{ProgramHeader}

pub loads_counted : (l : Layout) (bytes : List ℕ) (n : ℕ) → count_by (λ (h : ProgramHeader). eqb h.kind 1) (map (header l bytes) (range_with_len 0 n)) ≡ loads l bytes n
unfolding loads
loads_counted l bytes zero = refl
loads_counted l bytes (suc n) =
    ap (λ k. count_by (λ (h : ProgramHeader). eqb h.kind 1) (map (header l bytes) (range_with_len 0 k))) (sym (add-one n))
    ∙ sum_by-map-range_with_len_more (λ (h : ProgramHeader). cond (eqb h.kind 1) 1 0) (header l bytes) 0 n n (omega arith)
    ∙ ap (λ k. k + cond (eqb (header l bytes n).kind 1) 1 0) (loads_counted l bytes n)
