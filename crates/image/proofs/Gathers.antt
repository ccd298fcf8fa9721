-- The segments of one header more. Assumes nothing.
use Rattle.std.proofs.Common.{◌≡◌, ℕ, zero, suc, ◌+◌, ◌<◌, ◌≤◌, eqb, List, [], ◌∷◌, ◌++◌, map, sym, ap, ◌∙◌, subst, inl, inr, add-zero, mul-le-mul_left, mul-add, add-one, arith}
use Rattle.std.proofs.lemmas.List.{map-append, append-nil}
use Rattle.std.proofs.lemmas.Bool.{eq-eqb, ne_eqb, cond-true, cond-false, cases_lt}
use Rattle.elf.specs.Segments.{Load, header, phnum, loads}
use Rattle.elf.specs.Stages.{Readable}
use Rattle.elf.specs.Files.{HasHeader}
use Rattle.elf.specs.declared.layout.Layout.{Layout}
use Rattle.elf.specs.declared.records.ProgramHeader.{ProgramHeader}
use Rattle.image.specs.Prescribed.{segment_of, loads_below}
use Rattle.image.specs.Stages.{Gathered, listed}
use Rattle.image.specs.declared.segments.Segment.{Segment}
use Rattle.image.specs.declared.segments.Segments.{Segments}

module _ (l : Layout) (bytes : List ℕ) where
  -- A header of the table is whole.
  pub header_whole : Readable l bytes → (i : ℕ) → i < phnum l bytes → HasHeader l bytes i
  header_whole r i within =
      let inside = r.inside in
      let next : i + 1 ≤ phnum l bytes = omega arith in
      record { long = r.headed.long; counted = within; inside = omega (arith, mul-le-mul_left l.header.size next, mul-add l.header.size i 1) }

  -- One header more.
  pub loads_load : (i : ℕ) → Load (header l bytes i) → loads l bytes (i + 1) ≡ loads l bytes i + 1
  unfolding loads
  loads_load i load =
      let h = header l bytes i in
      ap (loads l bytes) (add-one i) ∙ ap (λ (n : ℕ). loads l bytes i + n) (cond-true (eqb h.kind 1) 1 0 (eq-eqb h.kind 1 load))

  pub loads_other : (i : ℕ) → (Load (header l bytes i) → ⊥) → loads l bytes (i + 1) ≡ loads l bytes i
  unfolding loads
  loads_other i other =
      let h = header l bytes i in
      ap (loads l bytes) (add-one i) ∙ ap (λ (n : ℕ). loads l bytes i + n) (cond-false (eqb h.kind 1) 1 0 (ne_eqb h.kind 1 other)) ∙ add-zero (loads l bytes i)

  pub loads_more : (i : ℕ) → Load (header l bytes i) → loads_below l bytes (suc i) ≡ loads_below l bytes i ++ header l bytes i ∷ []
  unfolding loads_below
  loads_more i load =
      let h = header l bytes i in
      ap (λ (xs : List ProgramHeader). loads_below l bytes i ++ xs) (cond-true (eqb h.kind 1) (h ∷ []) [] (eq-eqb h.kind 1 load))

  pub loads_same : (i : ℕ) → (Load (header l bytes i) → ⊥) → loads_below l bytes (suc i) ≡ loads_below l bytes i
  unfolding loads_below
  loads_same i other =
      let h = header l bytes i in
      ap (λ (xs : List ProgramHeader). loads_below l bytes i ++ xs) (cond-false (eqb h.kind 1) (h ∷ []) [] (ne_eqb h.kind 1 other)) ∙ append-nil (loads_below l bytes i)

  pub below_load : (i : ℕ) → Load (header l bytes i) → loads_below l bytes (i + 1) ≡ loads_below l bytes i ++ header l bytes i ∷ []
  below_load i load = ap (loads_below l bytes) (add-one i) ∙ loads_more i load

  pub below_other : (i : ℕ) → (Load (header l bytes i) → ⊥) → loads_below l bytes (i + 1) ≡ loads_below l bytes i
  below_other i other = ap (loads_below l bytes) (add-one i) ∙ loads_same i other

  -- There are no more load headers among fewer headers.
  pub loads_mono : (m n : ℕ) → m ≤ n → loads l bytes m ≤ loads l bytes n
  unfolding loads
  loads_mono m zero le = let z : m ≡ 0 = omega arith in subst (λ (k : ℕ). loads l bytes k ≤ loads l bytes 0) (sym z) (omega arith)
  loads_mono m (suc n) le =
      elim (cases_lt n m) [
        | inl last ↦ let e : m ≡ suc n = omega arith in subst (λ (k : ℕ). loads l bytes k ≤ loads l bytes (suc n)) (sym e) (omega arith)
        | inr less ↦ let step = loads_mono m n less in omega arith
      ]

  module _ (bias i : ℕ) (s : Segments) (before : Gathered l bytes bias i s) where
    pub gathered_load : (t : Segments) → Load (header l bytes i) → listed t ≡ listed s ++ segment_of bias (header l bytes i) ∷ [] → t.count ≡ s.count + 1 → Gathered l bytes bias (i + 1) t
    gathered_load t load same count = record {
      same =
          same
          ∙ ap (λ (xs : List Segment). xs ++ segment_of bias (header l bytes i) ∷ []) before.same
          ∙ sym (map-append (segment_of bias) (loads_below l bytes i) (header l bytes i ∷ []))
          ∙ ap (map (segment_of bias)) (sym (below_load i load));
      counted = count ∙ ap (λ (n : ℕ). n + 1) before.counted ∙ sym (loads_load i load);
    }

    pub gathered_other : (Load (header l bytes i) → ⊥) → Gathered l bytes bias (i + 1) s
    gathered_other other = record {
      same = before.same ∙ ap (map (segment_of bias)) (sym (below_other i other));
      counted = before.counted ∙ sym (loads_other i other);
    }
