-- What the accessors of an opened file find. Assumes nothing.
use Rattle.std.proofs.Common.{◌≡◌, ℕ, ◌+◌, ◌*◌, ◌/◌, ◌^◌, ◌<◌, ◌≤◌, eqb, Some, None, Option, MatchOption, List, length, sym, ap, ◌∙◌, subst, inl, inr, mul-le-mul_left, mul-add, arith, lit<}
use Rattle.std.proofs.lemmas.Bool.Decides.{Decides-eqb}
use Rattle.faults.specs.Rules.{AllClear}
use Rattle.elf.specs.Layouts.{Sound}
use Rattle.elf.specs.Searches.{Lowest}
use Rattle.elf.specs.Records.{entry_at}
use Rattle.elf.specs.Segments.{phnum, header, offset_in}
use Rattle.elf.specs.Stages.{Readable, Extended, Inside, Listed}
use Rattle.elf.specs.Dynamic.{IsDynamic, dynamic_header, dynamic_table, entry_in, relocation_table, format_rules}
use Rattle.elf.specs.Files.{HasEntry, Listing}
use Rattle.elf.specs.declared.layout.Layout.{Layout}
use Rattle.elf.specs.declared.records.DynamicEntry.{DynamicEntry}
use Rattle.elf.specs.declared.records.ProgramHeader.{ProgramHeader}
use Rattle.elf.specs.declared.records.Table.{Table}
use Rattle.elf.proofs.Lowests.{lowest_found, lowest_none}
use Rattle.elf.proofs.Passed.{knows_all, groups}
use Rattle.elf.proofs.Located.{relocations_inside, relocations_few}

module _ (l : Layout) (bytes : List ℕ) where
  -- The dynamic header, by what the search finds.
  pub header_absent : ((i : ℕ) → i < phnum l bytes → IsDynamic l bytes i → ⊥) → (i : ℕ) → HasEntry l bytes i → ⊥
  unfolding dynamic_header
  header_absent absent i has =
      let end : dynamic_header l bytes ≡ phnum l bytes =
      lowest_none (λ j. eqb (header l bytes j).kind 2) (IsDynamic l bytes) (phnum l bytes) (λ j. Decides-eqb (header l bytes j).kind 2) absent in
      let below = has.dynamic in
      omega arith

  module _ (d : ℕ) (h : ProgramHeader) (found : Lowest (phnum l bytes) (IsDynamic l bytes) d) (same : h ≡ header l bytes d) where
    at : dynamic_header l bytes ≡ d
    unfolding dynamic_header
    at =
        lowest_found (λ j. eqb (header l bytes j).kind 2) (IsDynamic l bytes) (phnum l bytes) d (λ j. Decides-eqb (header l bytes j).kind 2) found

    table : dynamic_table l bytes ≡ record { first = h.offset; size = l.dynamic; count = h.filesz / l.dynamic }
    unfolding dynamic_table
    table =
        let g : header l bytes (dynamic_header l bytes) ≡ h = ap (header l bytes) at ∙ sym same in
        ap (λ (x : ProgramHeader). record { first = x.offset; size = l.dynamic; count = x.filesz / l.dynamic }) g

    -- What it takes to have an entry, in the header's own figures.
    pub entry_figures : (i : ℕ) → HasEntry l bytes i → (i < h.filesz / l.dynamic) × (h.offset + l.dynamic * i + l.dynamic ≤ length bytes)
    entry_figures i has =
        let counted : i < h.filesz / l.dynamic = subst (λ (t : Table). i < t.count) table has.counted in
        let inside : h.offset + l.dynamic * i + l.dynamic ≤ length bytes = subst (λ (t : Table). offset_in t i + l.dynamic ≤ length bytes) table has.inside in
        (counted, inside)

    entry_found : (i : ℕ) → Readable l bytes → i < h.filesz / l.dynamic → h.offset + l.dynamic * i + l.dynamic ≤ length bytes → HasEntry l bytes i
    entry_found i r counted inside = record {
      readable = r;
      dynamic = let d_is = at in omega (arith, found.within);
      counted = subst (λ (t : Table). i < t.count) (sym table) counted;
      inside = subst (λ (t : Table). offset_in t i + l.dynamic ≤ length bytes) (sym table) inside;
    }

    entry_same : (i : ℕ) → entry_in l bytes (record { first = h.offset; size = l.dynamic; count = h.filesz / l.dynamic }) i ≡ entry_in l bytes (dynamic_table l bytes) i
    entry_same i = ap (λ (t : Table). entry_in l bytes t i) (sym table)

    -- What the reading of the entry i answers, whose bytes begin at a.
    pub entry_by : (i a : ℕ) (r : Option DynamicEntry) → Readable l bytes → i < h.filesz / l.dynamic → a ≡ h.offset + l.dynamic * i
        → MatchOption r (length bytes < a + l.dynamic) (λ e. (a + l.dynamic ≤ length bytes) × (e ≡ entry_at l bytes a))
        → MatchOption r (HasEntry l bytes i → ⊥) (λ e. HasEntry l bytes i × (e ≡ entry_in l bytes (dynamic_table l bytes) i))
    entry_by i a None ready counted is short = λ has. omega (arith, (entry_figures i has).1)
    entry_by i a (Some e) ready counted is found = (entry_found i ready counted (omega (arith, found.0)), found.1 ∙ ap (entry_at l bytes) is ∙ entry_same i)

  -- The rule on the relocation table, from the rules of the format.
  pub count_few : Sound l → AllClear (format_rules l bytes) → (relocation_table l bytes).count ≤ l.limits.relocations
  count_few sound clear = relocations_few l bytes sound (λ bad. (groups l bytes clear).dynamic.1.1.1.0 0 (lit< tt) bad)

  -- A relocation of the table lies in the file.
  pub listing_ready : (t : Table) (i : ℕ) → Sound l → Listing l bytes t → i < t.count → Listed l bytes l.relocation t i
  listing_ready t i sound (inl (clear, e)) within =
      let x : Extended l bytes = knows_all l bytes sound clear in
      let whole = relocations_inside l bytes x in
      record {
        readable = x.bounded.readable;
        size = ap (λ (s : Table). s.size) e ∙ whole.1;
        inside = subst (λ (s : Table). Inside s bytes) (sym e) whole.0;
        within = within;
      }
  listing_ready t i sound (inr (_, e)) within = let z : t.count ≡ 0 = ap (λ (s : Table). s.count) e in absurd (omega arith)

  -- Where that relocation lies.
  pub listed_inside : (t : Table) (i w : ℕ) → Listed l bytes w t i → (t.first + t.size * i + w ≤ length bytes) × (length bytes ≤ 2 ^ 24)
  listed_inside t i w x =
      let next : i + 1 ≤ t.count = omega (arith, x.within) in
      let inside = x.inside in
      let size = x.size in
      let short = x.readable.headed.short in
      let limit = x.readable.headed.sound.file_limit in
      (omega (arith, mul-le-mul_left t.size next, mul-add t.size i 1), omega arith)
