-- The dynamic header and its entries: what the searches of the code find. Assumes nothing.
use Rattle.std.proofs.Common.{◌≡◌, ℕ, ◌+◌, ◌*◌, ◌^◌, ◌<◌, ◌≤◌, length, Bool, true, false, eqb, ltb, List, Some, None, Decides, Option, sym, refl, ap, ◌∙◌, subst, inl, inr, mul-le-mul_left, mul-zero, arith}
use native.Mathlib.Nat.{mul-div-le}
use Rattle.std.specs.Option as options
use Rattle.std.proofs.lemmas.Bool.{eq-eqb, eqb-true, lt-ltb, ltb-true, and_from, and_parts, cases_Bool, cond-true, cond-false, both_ways}
use Rattle.std.proofs.lemmas.Bool.Decides.{Decides-eqb}
use Rattle.elf.specs.Layouts.{Sound}
use Rattle.elf.specs.Searches.{Lowest, FirstOf}
use Rattle.elf.specs.Segments.{file_type, phnum, header}
use Rattle.elf.specs.Dynamic.{IsDynamic, has_dynamic, dynamic_header, dynamic_table, entry_in, entry_count, entries, none, Endless}
use Rattle.elf.specs.declared.records.Table.{Table}
use Rattle.elf.specs.Stages.{Inside, Readable, Extended, Listed}
use Rattle.elf.specs.declared.layout.Layout.{Layout}
use Rattle.elf.proofs.Lowests.{lowest_found, lowest_none, lowest_most}

module _ (l : Layout) (bytes : List ℕ) where
  -- The dynamic header is the first of the headers of its type.
  pub dynamic_found : (r : Option ℕ) → file_type bytes ≡ 3 → options.MatchOption r ((i : ℕ) → i < phnum l bytes → IsDynamic l bytes i → ⊥) (Lowest (phnum l bytes) (IsDynamic l bytes)) → options.MatchOption r (has_dynamic l bytes ≡ true → ⊥) (λ i. (has_dynamic l bytes ≡ true) × (i ≡ dynamic_header l bytes))
  unfolding dynamic_header
  dynamic_found None kind absent = λ has.
      let d = dynamic_header l bytes in
      let below : d < phnum l bytes = ltb-true d (phnum l bytes) (and_parts (eqb (file_type bytes) 3) (ltb d (phnum l bytes)) has).1 in
      let end : d ≡ phnum l bytes = lowest_none (λ i. eqb (header l bytes i).kind 2) (IsDynamic l bytes) (phnum l bytes) (λ j. Decides-eqb (header l bytes j).kind 2) absent in
      omega arith
  dynamic_found (Some i) kind found =
      let d = dynamic_header l bytes in
      let same : d ≡ i = lowest_found (λ i. eqb (header l bytes i).kind 2) (IsDynamic l bytes) (phnum l bytes) i (λ j. Decides-eqb (header l bytes j).kind 2) found in
      let below : d < phnum l bytes = omega (arith, found.within) in
      (and_from (eqb (file_type bytes) 3) (ltb d (phnum l bytes)) (eq-eqb (file_type bytes) 3 kind) (lt-ltb d (phnum l bytes) below), sym same)

  -- A table in the file ends so far below 2^64 that the offset of any record does not overflow.
  pub word_small : Sound l → l.word ≤ 8
  word_small sound = elim sound.word [ inl four ↦ omega arith | inr eight ↦ omega arith ]

  pub reaches : Readable l bytes → (t : Table) → Inside t bytes → t.size ≤ 64 → t.first + t.size * 2 ^ 32 ≤ 2 ^ 64
  reaches r t inside small = let short = r.headed.short in let limit = r.headed.sound.file_limit in omega arith

  -- The dynamic table lies in the file.
  pub table_size : (dynamic_table l bytes).size ≡ l.dynamic
  unfolding dynamic_table
  table_size = refl

  pub table_inside : Extended l bytes → has_dynamic l bytes ≡ true → Inside (dynamic_table l bytes) bytes
  unfolding dynamic_table
  table_inside x has =
      let h = header l bytes (dynamic_header l bytes) in
      let room = x.inside has in
      omega (arith, mul-div-le h.filesz l.dynamic)

  -- The entries that are read, by whether there is a dynamic header.
  pub entries_none : (has_dynamic l bytes ≡ true → ⊥) → none l.dynamic ≡ entries l bytes
  unfolding entries
  entries_none no_Header =
      elim (cases_Bool (has_dynamic l bytes)) [
        | inl has ↦ absurd (no_Header has)
        | inr lacks ↦ sym (cond-false (has_dynamic l bytes) (record { first = (dynamic_table l bytes).first; size = l.dynamic; count = entry_count l bytes }) (none l.dynamic) lacks)
      ]

  pub entries_some : has_dynamic l bytes ≡ true → entries l bytes ≡ record { first = (dynamic_table l bytes).first; size = l.dynamic; count = entry_count l bytes }
  unfolding entries
  entries_some has = cond-true (has_dynamic l bytes) (record { first = (dynamic_table l bytes).first; size = l.dynamic; count = entry_count l bytes }) (none l.dynamic) has

  -- How many entries are read, by what the search for tag 0 finds.
  pub count_found : (n : ℕ) → Lowest (dynamic_table l bytes).count (λ i. (entry_in l bytes (dynamic_table l bytes) i).tag ≡ 0) n → entry_count l bytes ≡ n
  unfolding entry_count
  count_found n found = lowest_found _ _ _ n (λ j. Decides-eqb (entry_in l bytes (dynamic_table l bytes) j).tag 0) found

  pub count_none : ((i : ℕ) → i < (dynamic_table l bytes).count → (entry_in l bytes (dynamic_table l bytes) i).tag ≡ 0 → ⊥) → entry_count l bytes ≡ (dynamic_table l bytes).count
  unfolding entry_count
  count_none absent = lowest_none _ _ _ (λ j. Decides-eqb (entry_in l bytes (dynamic_table l bytes) j).tag 0) absent

  pub count_most : entry_count l bytes ≤ (dynamic_table l bytes).count
  unfolding entry_count
  count_most = lowest_most _ (dynamic_table l bytes).count

  -- The entries that are read lie in the file.
  entries_whole_in : Extended l bytes → Inside (entries l bytes) bytes × ((entries l bytes).size ≡ l.dynamic)
  entries_whole_in x =
      elim (cases_Bool (has_dynamic l bytes)) [
        | inl has ↦
            let e = entries_some has in
            let t = dynamic_table l bytes in
            let room = table_inside x has in
            let less = mul-le-mul_left l.dynamic count_most in
            let same : t.size * t.count ≡ l.dynamic * t.count = ap (λ s. s * t.count) table_size in
            let inside : Inside (record { first = t.first; size = l.dynamic; count = entry_count l bytes }) bytes = omega arith in
            (subst (λ s. Inside s bytes) (sym e) inside, ap (λ s. s.size) e)
        | inr lacks ↦
            let e = entries_none (λ has. both_ways (has_dynamic l bytes) lacks has) in
            let inside : 0 + l.dynamic * 0 ≤ length bytes = omega (arith, mul-zero l.dynamic) in
            (subst (λ s. Inside s bytes) e inside, sym (ap (λ s. s.size) e))
      ]

  -- The same of a table that is known to be the dynamic table, as the code has it.
  pub entries_found : (t : Table) (n : ℕ) → t ≡ dynamic_table l bytes → has_dynamic l bytes ≡ true → Lowest t.count (λ i. (entry_in l bytes t i).tag ≡ 0) n → record { first = t.first; size = l.dynamic; count = n } ≡ entries l bytes
  entries_found t n e has found =
      let same : entry_count l bytes ≡ n = count_found n (subst (λ (s : Table). Lowest s.count (λ i. (entry_in l bytes s i).tag ≡ 0) n) e found) in
      let start : t.first ≡ (dynamic_table l bytes).first = ap (λ s. s.first) e in
      ap (λ (f : ℕ). record { first = f; size = l.dynamic; count = n }) start
      ∙ ap (λ (k : ℕ). record { first = (dynamic_table l bytes).first; size = l.dynamic; count = k }) (sym same)
      ∙ sym (entries_some has)

  pub entries_whole : (t : Table) → t ≡ dynamic_table l bytes → has_dynamic l bytes ≡ true → ((i : ℕ) → i < t.count → (entry_in l bytes t i).tag ≡ 0 → ⊥) → record { first = t.first; size = l.dynamic; count = t.count } ≡ entries l bytes
  entries_whole t e has absent =
      let same : entry_count l bytes ≡ (dynamic_table l bytes).count =
      count_none (subst (λ (s : Table). (i : ℕ) → i < s.count → (entry_in l bytes s i).tag ≡ 0 → ⊥) e absent) in
      let start : t.first ≡ (dynamic_table l bytes).first = ap (λ s. s.first) e in
      let end : t.count ≡ entry_count l bytes = ap (λ s. s.count) e ∙ sym same in
      ap (λ (f : ℕ). record { first = f; size = l.dynamic; count = t.count }) start
      ∙ ap (λ (k : ℕ). record { first = (dynamic_table l bytes).first; size = l.dynamic; count = k }) end
      ∙ sym (entries_some has)

  pub entries_of : (t : Table) (r : Option ℕ) (n : ℕ) → t ≡ dynamic_table l bytes → has_dynamic l bytes ≡ true → FirstOf t.count (λ i. (entry_in l bytes t i).tag ≡ 0) r → n ≡ options.unwrap_or r t.count → record { first = t.first; size = l.dynamic; count = n } ≡ entries l bytes
  entries_of t None n e has absent is = ap (λ (k : ℕ). record { first = t.first; size = l.dynamic; count = k }) is ∙ entries_whole t e has absent
  entries_of t (Some i) n e has found is = ap (λ (k : ℕ). record { first = t.first; size = l.dynamic; count = k }) is ∙ entries_found t i e has found

  pub table_listed : (t : Table) → t ≡ dynamic_table l bytes → Extended l bytes → has_dynamic l bytes ≡ true → (i : ℕ) → i < t.count → Listed l bytes l.dynamic t i
  table_listed t e x has i within = record {
    readable = x.bounded.readable;
    size = ap (λ s. s.size) e ∙ table_size;
    inside = subst (λ s. Inside s bytes) (sym e) (table_inside x has);
    within = within;
  }

  endless_decides : (t u : Table) → t ≡ dynamic_table l bytes → u ≡ entries l bytes → has_dynamic l bytes ≡ true → Decides (eqb t.count u.count) (Endless l bytes)
  endless_decides t u e f has =
      let count : u.count ≡ entry_count l bytes = ap (λ s. s.count) (f ∙ entries_some has) in
      let room : t.count ≡ (dynamic_table l bytes).count = ap (λ s. s.count) e in (
        λ test. (has, sym count ∙ sym (eqb-true t.count u.count test) ∙ room),
        λ endless.
            eq-eqb t.count u.count (room ∙ sym endless.1 ∙ sym count),
      )

  -- Whether entries never end, where the dynamic table is known, if there is one, and the test of that.
  pub endless_by : {X : Type 0} {Gives : X → Type 0} (Same : X → Type 0) (table_of : X → Table) (u : Table) (found : Option X) (b : Bool) → u ≡ entries l bytes
      → options.MatchOption found (has_dynamic l bytes ≡ true → ⊥) (λ x. (has_dynamic l bytes ≡ true) × Same x × (table_of x ≡ dynamic_table l bytes))
      → options.MatchOption found (b ≡ false) Gives
      → ((x : X) → Gives x → b ≡ eqb (table_of x).count u.count)
      → Decides b (Endless l bytes)
  endless_by _ table_of u None b f lacks is gives = (λ t. absurd (both_ways b is t), λ endless. absurd (lacks endless.0))
  endless_by _ table_of u (Some x) b f has told gives = subst (λ t. Decides t (Endless l bytes)) (sym (gives x told)) (endless_decides (table_of x) u has.2 f has.0)

  -- What a search through the entries needs.
  pub entries_ready : (t : Table) → t ≡ entries l bytes → Extended l bytes → ((i : ℕ) → i < t.count → Listed l bytes l.dynamic t i) × (t.first + t.size * 2 ^ 32 ≤ 2 ^ 64)
  entries_ready t e x =
      let whole = entries_whole_in x in
      let inside : Inside t bytes = subst (λ (s : Table). Inside s bytes) (sym e) whole.0 in
      let size : t.size ≡ l.dynamic = ap (λ (s : Table). s.size) e ∙ whole.1 in
      (λ i within. record { readable = x.bounded.readable; size = size; inside = inside; within = within }, reaches x.bounded.readable t inside (omega (arith, size, x.bounded.readable.headed.sound.dynamic, word_small x.bounded.readable.headed.sound)))
