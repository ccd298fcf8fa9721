-- The byte is the one that its origin has. Assumes nothing.
use Rattle.std.specs.List.{find}
use Rattle.std.proofs.Common.{◌≡◌, ℕ, zero, suc, ◌<◌, true, List, get_or, Some, None, sym, refl, ap, ◌∙◌, subst, inl, inr, arith}
use Rattle.std.proofs.lemmas.Bool.{cases_Bool, cases_lt, cond-true, cond-false}
use Rattle.elf.specs.Searches.{Highest}
use Rattle.elf.specs.Dynamic.{relocation_in, relocation_table}
use Rattle.elf.specs.declared.layout.Layout.{Layout}
use Rattle.image.specs.Prescribed.{segments_of, has_file_byte, file_byte_by, reaches, last_reaching, byte_by, byte_after, image_of}
use Rattle.image.specs.Origins.{Reaches, Unreached, ComesFrom, byte_from}
use Rattle.image.specs.declared.origin.Origin.{Origin}
use Rattle.image.specs.declared.origin.Origin.TheVariants.{File, Word, Inside, Around}

module _ (l : Layout) (bytes : List ℕ) (bias a : ℕ) where
  none_reach : (n : ℕ) → ((i : ℕ) → i < n → Reaches l bytes bias a i → ⊥) → last_reaching l bytes bias a n ≡ None
  unfolding last_reaching
  none_reach zero absent = refl
  none_reach (suc n) absent =
      let t = reaches l bias a (relocation_in l bytes (relocation_table l bytes) n) in
      elim (cases_Bool t) [
        | inl hit ↦ absurd (absent n (omega arith) hit)
        | inr miss ↦ cond-false t (Some n) (last_reaching l bytes bias a n) miss ∙ none_reach n (λ i less. absent i (omega arith))
      ]

  last_reach : (n i : ℕ) → Highest n (Reaches l bytes bias a) i → last_reaching l bytes bias a n ≡ Some i
  unfolding last_reaching
  last_reach zero i top = absurd (let w = top.within in omega arith)
  last_reach (suc n) i top =
      let t = reaches l bias a (relocation_in l bytes (relocation_table l bytes) n) in
      elim (cases_lt i n) [
        | inl less ↦
            elim (cases_Bool t) [
              | inl hit ↦ absurd (top.highest n less (omega arith) hit)
              | inr miss ↦
                  cond-false t (Some n) (last_reaching l bytes bias a n) miss
                  ∙ last_reach n i (record { within = less; fits = top.fits; highest = λ j more within. top.highest j more (omega arith) })
            ]
        | inr last ↦
            let w = top.within in
            let same : i ≡ n = omega arith in
            let hit : t ≡ true = subst (λ (k : ℕ). Reaches l bytes bias a k) same top.fits in
            cond-true t (Some n) (last_reaching l bytes bias a n) hit ∙ ap Some (sym same)
      ]

  unreached : Unreached l bytes bias a → last_reaching l bytes bias a (relocation_table l bytes).count ≡ None
  unreached none = none_reach (relocation_table l bytes).count (λ i within hit. none (i, within, hit))

  pub byte_origin : (o : Origin) → ComesFrom l bytes bias a o → (image_of l bytes bias).byte a ≡ byte_from l bytes bias a o
  unfolding image_of byte_after
  byte_origin (Word i) top =
      ap (byte_by l bytes bias a (file_byte_by bytes a (find (has_file_byte a) (segments_of l bytes bias)))) (last_reach (relocation_table l bytes).count i top)
  byte_origin (File o) (none, (s, found, same)) =
      ap (byte_by l bytes bias a (file_byte_by bytes a (find (has_file_byte a) (segments_of l bytes bias)))) (unreached none)
      ∙ ap (file_byte_by bytes a) found ∙ ap (λ (k : ℕ). get_or bytes k 0) (sym same)
  byte_origin Inside (none, missing, _) =
      ap (byte_by l bytes bias a (file_byte_by bytes a (find (has_file_byte a) (segments_of l bytes bias)))) (unreached none) ∙ ap (file_byte_by bytes a) missing
  byte_origin Around (none, missing, _) =
      ap (byte_by l bytes bias a (file_byte_by bytes a (find (has_file_byte a) (segments_of l bytes bias)))) (unreached none) ∙ ap (file_byte_by bytes a) missing
