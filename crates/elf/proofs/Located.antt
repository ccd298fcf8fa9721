-- The relocation table: what the searches of the code find. Assumes nothing.
use Rattle.std.proofs.Common.{◌≡◌, ℕ, ◌+◌, ◌-◌, ◌*◌, ◌/◌, ◌^◌, ◌<◌, ◌≤◌, Bool, true, ◌&&◌, eqb, ltb, leb, List, length, Decides, sym, ap, ◌∙◌, subst, inl, inr, mul-zero, arith}
use native.Mathlib.Nat.{mul-div-le, div-le_of_le-mul}
use Rattle.std.proofs.lemmas.Bool.{eq-eqb, lt-ltb, le-leb, ltb-true, leb-true, eqb-true, and_from, and_parts, cases_Bool, cases_lt, cases_order, cond-true, cond-false, both_ways}
use Rattle.std.proofs.lemmas.Bool.Decides.{Decides-eqb}
use Rattle.faults.specs.Rules.{Clear}
use Rattle.faults.specs.declared.fault.Reason.TheVariants.{DynamicExtent}
use Rattle.elf.specs.Layouts.{Sound}
use Rattle.elf.specs.Searches.{SomeBelow, Lowest}
use Rattle.elf.specs.Segments.{file_type, phnum, header, headers, on_each}
use Rattle.elf.specs.Stages.{Inside, Bounded, Extended}
use Rattle.elf.specs.Dynamic.{IsDynamic, OtherDynamic, BadExtent, BadDynamic, has_dynamic, dynamic_header, entry_in, entries, none, tagged, Stands, Described, value_of, rela, relasz, HoldsFileBytes, BadTable, table_segment, has_table, relocation_table}
use Rattle.elf.specs.declared.layout.Layout.{Layout}
use Rattle.elf.specs.declared.records.ProgramHeader.{ProgramHeader}
use Rattle.elf.specs.declared.records.Table.{Table}
use Rattle.elf.proofs.Lowests.{lowest_is, lowest_found, lowest_none}
use Rattle.elf.proofs.Dynamics.{entries_none}

module _ (l : Layout) (bytes : List ℕ) where
  -- The entry that the search for a tag finds.
  pub stands_none : (t : Table) (tag : ℕ) → t ≡ entries l bytes → ((i : ℕ) → i < t.count → (entry_in l bytes t i).tag ≡ tag → ⊥) → Stands l bytes tag → ⊥
  unfolding tagged
  stands_none t tag e absent stands =
      let end : tagged l bytes tag ≡ (entries l bytes).count =
      lowest_none _ _ _ (λ j. Decides-eqb (entry_in l bytes (entries l bytes) j).tag tag) (subst (λ (s : Table). (i : ℕ) → i < s.count → (entry_in l bytes s i).tag ≡ tag → ⊥) e absent) in
      omega arith

  pub stands_some : (t : Table) (tag i : ℕ) → t ≡ entries l bytes → Lowest t.count (λ j. (entry_in l bytes t j).tag ≡ tag) i → Stands l bytes tag × ((entry_in l bytes t i).value ≡ value_of l bytes tag)
  unfolding tagged
  stands_some t tag i e found =
      let here : Lowest (entries l bytes).count (λ j. (entry_in l bytes (entries l bytes) j).tag ≡ tag) i = subst (λ (s : Table). Lowest s.count (λ j. (entry_in l bytes s j).tag ≡ tag) i) e found in
      let same : tagged l bytes tag ≡ i = lowest_found _ _ _ i (λ j. Decides-eqb (entry_in l bytes (entries l bytes) j).tag tag) here in
      (omega (arith, here.within), ap (λ (s : Table). (entry_in l bytes s i).value) e ∙ ap (λ (j : ℕ). (entry_in l bytes (entries l bytes) j).value) (sym same))

  -- Without dynamic header no tag stands there, and no table is bad.
  pub no_tags : (has_dynamic l bytes ≡ true → ⊥) → (tag : ℕ) → Stands l bytes tag → ⊥
  no_tags lacks tag stands =
      let zero : 0 ≡ (entries l bytes).count = ap (λ (s : Table). s.count) (entries_none l bytes lacks) in
      omega arith

  pub no_bad_table : (has_dynamic l bytes ≡ true → ⊥) → BadTable l bytes → ⊥
  no_bad_table lacks (inl (inl a, _)) = no_tags lacks 7 a
  no_bad_table lacks (inl (inr (inl a), _)) = no_tags lacks 8 a
  no_bad_table lacks (inl (inr (inr a), _)) = no_tags lacks 9 a
  no_bad_table lacks (inr (d, _)) = no_tags lacks 7 d.address

  -- Where the rule on the extent is clear, the dynamic header is the only one, and lies in the file.
  module _ (clear : Clear (on_each DynamicExtent (headers l bytes) (BadDynamic l bytes))) (has : has_dynamic l bytes ≡ true) where
    kind : file_type bytes ≡ 3
    kind = eqb-true (file_type bytes) 3 (and_parts (eqb (file_type bytes) 3) (ltb (dynamic_header l bytes) (phnum l bytes)) has).0

    below : dynamic_header l bytes < phnum l bytes
    below = ltb-true (dynamic_header l bytes) (phnum l bytes) (and_parts (eqb (file_type bytes) 3) (ltb (dynamic_header l bytes) (phnum l bytes)) has).1

    found : Lowest (phnum l bytes) (IsDynamic l bytes) (dynamic_header l bytes)
    unfolding dynamic_header
    found =
        let test : ℕ → Bool = λ i. eqb (header l bytes i).kind 2 in
        elim (lowest_is test (phnum l bytes)) [
          | inl mine ↦ record {
            within = mine.within;
            fits = eqb-true (header l bytes (dynamic_header l bytes)).kind 2 mine.fits;
            lowest = λ j less is. mine.lowest j less (eq-eqb (header l bytes j).kind 2 is);
          }
          | inr end ↦ let b = below in absurd (omega (arith, end.0))
        ]

    alone : SomeBelow (phnum l bytes) (OtherDynamic l bytes (dynamic_header l bytes)) → ⊥
    alone (j, within, (other, is)) =
        elim (cases_order j (dynamic_header l bytes)) [
          | inl same ↦ other same
          | inr (inl less) ↦ found.lowest j less is
          | inr (inr more) ↦ clear j within (kind, is, inl (dynamic_header l bytes, more, found.fits))
        ]

    pub good_extent : BadExtent l bytes (header l bytes (dynamic_header l bytes)) → ⊥
    good_extent bad = clear (dynamic_header l bytes) below (kind, found.fits, inr (alone, bad))

  pub extended : Bounded l bytes → Clear (on_each DynamicExtent (headers l bytes) (BadDynamic l bytes)) → Extended l bytes
  extended b clear = record {
    bounded = b;
    small = λ has.
        elim (cases_lt l.limits.dynamic (header l bytes (dynamic_header l bytes)).filesz) [ inl large ↦ absurd (good_extent clear has (inl large)) | inr s ↦ s ];
    inside = λ has.
        elim (cases_lt (length bytes) ((header l bytes (dynamic_header l bytes)).offset + (header l bytes (dynamic_header l bytes)).filesz)) [
          | inl past ↦ absurd (good_extent clear has (inr (inr past)))
          | inr s ↦ s
        ];
  }

  -- The segment of the relocation table.
  holds_test : ℕ → Bool
  holds_test i =
      let h = header l bytes i in
      eqb h.kind 1 && (leb h.vaddr (rela l bytes) && leb (rela l bytes + relasz l bytes) (h.vaddr + h.filesz))

  holds_decides : (i : ℕ) → Decides (holds_test i) (HoldsFileBytes l bytes (rela l bytes) (relasz l bytes) i)
  unfolding holds_test
  holds_decides i =
      let h = header l bytes i in
      let a = eqb h.kind 1 in
      let b = leb h.vaddr (rela l bytes) in
      let c = leb (rela l bytes + relasz l bytes) (h.vaddr + h.filesz) in (
        λ t.
            let p = and_parts a (b && c) t in
            let q = and_parts b c p.1 in
            record {
              load = eqb-true h.kind 1 p.0;
              from = leb-true h.vaddr (rela l bytes) q.0;
              to = leb-true (rela l bytes + relasz l bytes) (h.vaddr + h.filesz) q.1;
            },
        λ holds.
            and_from a (b && c) (eq-eqb h.kind 1 holds.load)
            (and_from b c (le-leb h.vaddr (rela l bytes) holds.from) (le-leb (rela l bytes + relasz l bytes) (h.vaddr + h.filesz) holds.to)),
      )

  -- The relocation table where there is none, and where there is one.
  lacking : (has_table l bytes ≡ true → ⊥) → none l.relocation ≡ relocation_table l bytes
  unfolding relocation_table
  lacking no_table =
      let h = header l bytes (table_segment l bytes) in
      elim (cases_Bool (has_table l bytes)) [
        | inl has ↦ absurd (no_table has)
        | inr lacks ↦
            sym (cond-false (has_table l bytes) (record { first = h.offset + (rela l bytes - h.vaddr); size = l.relocation; count = relasz l bytes / l.relocation }) (none l.relocation) lacks)
      ]

  has_parts : has_table l bytes ≡ true → Described l bytes × (table_segment l bytes < phnum l bytes)
  has_parts has =
      let n = (entries l bytes).count in
      let a = ltb (tagged l bytes 7) n in
      let b = ltb (tagged l bytes 8) n in
      let c = ltb (tagged l bytes 9) n in
      let d = ltb (table_segment l bytes) (phnum l bytes) in
      let p = and_parts a (b && (c && d)) has in
      let q = and_parts b (c && d) p.1 in
      let r = and_parts c d q.1 in
      (record { address = ltb-true (tagged l bytes 7) n p.0; size = ltb-true (tagged l bytes 8) n q.0; entry = ltb-true (tagged l bytes 9) n r.0 }, ltb-true (table_segment l bytes) (phnum l bytes) r.1)

  has_from : Described l bytes → table_segment l bytes < phnum l bytes → has_table l bytes ≡ true
  has_from described below =
      let n = (entries l bytes).count in
      let a = ltb (tagged l bytes 7) n in
      let b = ltb (tagged l bytes 8) n in
      let c = ltb (tagged l bytes 9) n in
      let d = ltb (table_segment l bytes) (phnum l bytes) in
      and_from a (b && (c && d)) (lt-ltb (tagged l bytes 7) n described.address)
      (and_from b (c && d) (lt-ltb (tagged l bytes 8) n described.size)
      (and_from c d (lt-ltb (tagged l bytes 9) n described.entry) (lt-ltb (table_segment l bytes) (phnum l bytes) below)))

  pub table_undescribed : (Described l bytes → ⊥) → none l.relocation ≡ relocation_table l bytes
  table_undescribed lacks = lacking (λ has. lacks (has_parts has).0)

  pub table_unheld : ((i : ℕ) → i < phnum l bytes → HoldsFileBytes l bytes (rela l bytes) (relasz l bytes) i → ⊥) → none l.relocation ≡ relocation_table l bytes
  unfolding holds_test table_segment
  table_unheld absent =
      let end : table_segment l bytes ≡ phnum l bytes = lowest_none holds_test _ (phnum l bytes) holds_decides absent in
      lacking (λ has. let below = (has_parts has).1 in absurd (omega arith))

  pub table_held : (i : ℕ) → Described l bytes → Lowest (phnum l bytes) (HoldsFileBytes l bytes (rela l bytes) (relasz l bytes)) i → record { first = (header l bytes i).offset + (rela l bytes - (header l bytes i).vaddr); size = l.relocation; count = relasz l bytes / l.relocation } ≡ relocation_table l bytes
  unfolding holds_test table_segment relocation_table
  table_held i described found =
      let same : table_segment l bytes ≡ i = lowest_found holds_test _ (phnum l bytes) i holds_decides found in
      let below : table_segment l bytes < phnum l bytes = omega (arith, found.within) in
      let at : ℕ → Table = λ j. record { first = (header l bytes j).offset + (rela l bytes - (header l bytes j).vaddr); size = l.relocation; count = relasz l bytes / l.relocation } in
      ap at (sym same) ∙ sym (cond-true (has_table l bytes) (at (table_segment l bytes)) (none l.relocation) (has_from described below))

  -- The same of figures that are known to be the file's, as the code has them.
  pub table_missed : (a n : ℕ) → a ≡ rela l bytes → n ≡ relasz l bytes → ((i : ℕ) → i < phnum l bytes → HoldsFileBytes l bytes a n i → ⊥) → none l.relocation ≡ relocation_table l bytes
  table_missed a n q r absent =
      table_unheld (λ i within holds.
      absent i within (subst (λ (x : ℕ). HoldsFileBytes l bytes x n i) (sym q) (subst (λ (y : ℕ). HoldsFileBytes l bytes (rela l bytes) y i) (sym r) holds)))

  pub table_found : (a n i : ℕ) (h : ProgramHeader) → Described l bytes → a ≡ rela l bytes → n ≡ relasz l bytes → h ≡ header l bytes i → Lowest (phnum l bytes) (HoldsFileBytes l bytes a n) i → record { first = h.offset + (a - h.vaddr); size = l.relocation; count = n / l.relocation } ≡ relocation_table l bytes
  table_found a n i h described q r e found =
      let here : Lowest (phnum l bytes) (HoldsFileBytes l bytes (rela l bytes) (relasz l bytes)) i =
      subst (λ (x : ℕ). Lowest (phnum l bytes) (HoldsFileBytes l bytes x (relasz l bytes)) i) q (subst (λ (y : ℕ). Lowest (phnum l bytes) (HoldsFileBytes l bytes a y) i) r found) in
      ap (λ (g : ProgramHeader). record { first = g.offset + (a - g.vaddr); size = l.relocation; count = n / l.relocation }) e
      ∙ ap (λ (x : ℕ). record { first = (header l bytes i).offset + (x - (header l bytes i).vaddr); size = l.relocation; count = n / l.relocation }) q
      ∙ ap (λ (y : ℕ). record { first = (header l bytes i).offset + (rela l bytes - (header l bytes i).vaddr); size = l.relocation; count = y / l.relocation }) r
      ∙ table_held i described here

  -- Bytes that a segment's file bytes hold are no more than the file's.
  pub held_small : (a n i : ℕ) → Bounded l bytes → i < phnum l bytes → HoldsFileBytes l bytes a n i → n ≤ 2 ^ 24
  held_small a n i b within holds =
      let size = b.sizes i within holds.load in
      let short = b.readable.headed.short in
      let limit = b.readable.headed.sound.file_limit in
      let from = holds.from in
      let to = holds.to in
      omega arith

  -- The relocation table lies in the file.
  segment_holds : has_table l bytes ≡ true → HoldsFileBytes l bytes (rela l bytes) (relasz l bytes) (table_segment l bytes)
  unfolding holds_test table_segment
  segment_holds has =
      let below = (has_parts has).1 in
      elim (lowest_is holds_test (phnum l bytes)) [
        | inl mine ↦ (holds_decides (table_segment l bytes)).0 mine.fits
        | inr end ↦ absurd (omega (arith, end.0))
      ]

  located : has_table l bytes ≡ true → relocation_table l bytes ≡ record { first = (header l bytes (table_segment l bytes)).offset + (rela l bytes - (header l bytes (table_segment l bytes)).vaddr); size = l.relocation; count = relasz l bytes / l.relocation }
  unfolding relocation_table
  located has =
      let h = header l bytes (table_segment l bytes) in
      cond-true (has_table l bytes) (record { first = h.offset + (rela l bytes - h.vaddr); size = l.relocation; count = relasz l bytes / l.relocation }) (none l.relocation) has

  pub relocations_inside : Extended l bytes → Inside (relocation_table l bytes) bytes × ((relocation_table l bytes).size ≡ l.relocation)
  relocations_inside x =
      elim (cases_Bool (has_table l bytes)) [
        | inl has ↦
            let e = located has in
            let i = table_segment l bytes in
            let h = header l bytes i in
            let holds = segment_holds has in
            let size = x.bounded.sizes i (has_parts has).1 holds.load in
            let from = holds.from in
            let to = holds.to in
            let inside : h.offset + (rela l bytes - h.vaddr) + l.relocation * (relasz l bytes / l.relocation) ≤ length bytes = omega (arith, mul-div-le (relasz l bytes) l.relocation) in
            (subst (λ (t : Table). Inside t bytes) (sym e) inside, ap (λ (t : Table). t.size) e)
        | inr lacks ↦
            let e = lacking (λ has. both_ways (has_table l bytes) lacks has) in
            let inside : 0 + l.relocation * 0 ≤ length bytes = omega (arith, mul-zero l.relocation) in
            (subst (λ (t : Table). Inside t bytes) e inside, sym (ap (λ (t : Table). t.size) e))
      ]

  -- The same of a table that is known to be the relocation table.
  pub relocations_whole : (t : Table) → t ≡ relocation_table l bytes → Extended l bytes → Inside t bytes × (t.size ≡ l.relocation)
  relocations_whole t e x =
      let whole = relocations_inside x in
      (subst (λ (s : Table). Inside s bytes) (sym e) whole.0, ap (λ (s : Table). s.size) e ∙ whole.1)

  -- No more relocations than the limit, where the rule on the relocation table is clear.
  pub relocations_few : Sound l → (BadTable l bytes → ⊥) → (relocation_table l bytes).count ≤ l.limits.relocations
  relocations_few sound clear =
      elim (cases_Bool (has_table l bytes)) [
        | inl has ↦
            let small : relasz l bytes ≤ l.relocation * l.limits.relocations =
            elim (cases_lt (l.relocation * l.limits.relocations) (relasz l bytes)) [
              | inl large ↦ absurd (clear (inr ((has_parts has).0, inl (inr (inr large)))))
              | inr s ↦ s
            ] in
            subst (λ (t : Table). t.count ≤ l.limits.relocations) (sym (located has)) (div-le_of_le-mul l.relocation small)
        | inr lacks ↦
            let e = lacking (λ has. both_ways (has_table l bytes) lacks has) in
            subst (λ (t : Table). t.count ≤ l.limits.relocations) e (omega arith)
      ]
