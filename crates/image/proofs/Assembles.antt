-- The file's bytes and then the words in the table's order give the image. Assumes nothing.
use Rattle.std.specs.List.{find}
use Rattle.std.proofs.Common.{◌≡◌, ℕ, suc, ◌+◌, ◌*◌, ◌^◌, ◌<◌, ◌≤◌, cond, List, length, Some, sym, refl, ap, ◌∙◌, subst, inl, inr, mul-le-mul_left, mul-add, arith}
use Rattle.std.proofs.lemmas.Bool.{cases_Bool, cases_lt, cond-true, cond-false}
use Rattle.faults.specs.Rules.{AllClear}
use Rattle.elf.specs.Layouts.{elf64}
use Rattle.elf.specs.Stages.{Inside}
use Rattle.elf.specs.Dynamic.{relocation_in, relocation_table}
use Rattle.elf.specs.declared.records.Table.{Table}
use Rattle.elf.specs.declared.layout.Layout.{Layout}
use Rattle.elf.proofs.Passed.{relocations_clear}
use Rattle.elf.proofs.Located.{relocations_inside}
use Rattle.image.specs.Plans.{load_rules}
use Rattle.image.specs.Prescribed.{segments_of, has_file_byte, file_byte_by, reaches, word_byte, last_reaching, byte_by, byte_after, image_of, Assembled}
use Rattle.image.specs.Stages.{Laid}
use Rattle.image.proofs.Known.{laid, load_clear_open, opened_known, sound64}

module _ (l : Layout) (bytes : List ℕ) (bias : ℕ) where
  pub after_start : (a : ℕ) → byte_after l bytes bias 0 a ≡ file_byte_by bytes a (find (has_file_byte a) (segments_of l bytes bias))
  unfolding byte_after last_reaching
  after_start a = refl

  pub after_word : (n a : ℕ) → byte_after l bytes bias (suc n) a ≡ cond (reaches l bias a (relocation_in l bytes (relocation_table l bytes) n)) (word_byte l bytes bias a n) (byte_after l bytes bias n a)
  unfolding byte_after last_reaching
  after_word n a =
      let t = reaches l bias a (relocation_in l bytes (relocation_table l bytes) n) in
      let below = file_byte_by bytes a (find (has_file_byte a) (segments_of l bytes bias)) in
      let rest = last_reaching l bytes bias a n in
      elim (cases_Bool t) [
        | inl hit ↦
            ap (byte_by l bytes bias a below) (cond-true t (Some n) rest hit)
            ∙ sym (cond-true t (word_byte l bytes bias a n) (byte_by l bytes bias a below rest) hit)
        | inr miss ↦
            ap (byte_by l bytes bias a below) (cond-false t (Some n) rest miss)
            ∙ sym (cond-false t (word_byte l bytes bias a n) (byte_by l bytes bias a below rest) miss)
      ]

  pub after_all : (a : ℕ) → (image_of l bytes bias).byte a ≡ byte_after l bytes bias (relocation_table l bytes).count a
  unfolding image_of
  after_all a = refl

pub assembled : (l : Layout) → Assembled l
assembled l = record { start = after_start l; word = after_word l; whole = after_all l }

-- Every relocation of the table lies in the file, and the word of one that puts a word ends by 2^38.
module _ (b : List ℕ) (bias : ℕ) (clear : AllClear (load_rules elf64 b bias)) where
  pub table_ends : (t : Table) (i : ℕ) → t ≡ relocation_table elf64 b → i < t.count → t.first + t.size * i + 24 ≤ length b
  table_ends t i e within =
      let whole = relocations_inside elf64 b (opened_known elf64 b sound64 (load_clear_open elf64 b bias clear)) in
      let inside : Inside t b = subst (λ (s : Table). Inside s b) (sym e) whole.0 in
      let size : t.size ≡ 24 = ap (λ (s : Table). s.size) e ∙ whole.1 in
      let next : i + 1 ≤ t.count = omega arith in
      omega (arith, mul-le-mul_left t.size next, mul-add t.size i 1)

  pub word_ends : (i : ℕ) → i < (relocation_table elf64 b).count → (relocation_in elf64 b (relocation_table elf64 b) i).kind ≡ 3 → bias + (relocation_in elf64 b (relocation_table elf64 b) i).offset + 8 ≤ 2 ^ 38
  word_ends i within kind =
      let r = relocation_in elf64 b (relocation_table elf64 b) i in
      let known : Laid elf64 b bias = laid b bias clear in
      elim (cases_lt (2 ^ 38) (bias + r.offset + 8)) [
        | inl past ↦
            absurd ((relocations_clear elf64 b (load_clear_open elf64 b bias clear)).1.0 i within (
              kind,
              inr (λ some.
                  let k = some.0 in
                  let w = some.2 in
                  let e = known.ends k some.1 w.load in
                  let to = w.to in
                  omega arith),
            ))
        | inr s ↦ s
      ]
