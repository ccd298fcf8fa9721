-- What holds of each of a file's segments, and of their pages. Assumes nothing.
use Rattle.std.proofs.Common.{◌≡◌, ℕ, zero, suc, ◌+◌, ◌%◌, ◌^◌, ◌<◌, ◌≤◌, false, ltb, leb, List, [], ◌∷◌, ◌++◌, map, length, Some, None, sym, ap, ◌∙◌, subst, inl, inr, arith, lit<}
use Rattle.std.specs.List.{find, AllByRecursion as Each}
use Rattle.std.proofs.lemmas.Bool.{cases_eq, and_parts, and_right, le-ltb, leb-true, ltb-true}
use Rattle.std.proofs.lemmas.List.{map-append, length-map, length-take}
use Rattle.std.proofs.lemmas.List.Elements.{All-from_recursion, All-map}
use Rattle.std.proofs.lemmas.List.Sums.{sum_by-le}
use Rattle.faults.specs.Rules.{AllClear}
use Rattle.elf.specs.Layouts.{elf64}
use Rattle.elf.specs.Segments.{Load, header, phnum, BadOrder}
use Rattle.elf.proofs.Passed.{groups, format_clear}
use Rattle.image.specs.Pages.{page_count, Above, Ascending}
use Rattle.image.specs.Plans.{load_rules}
use Rattle.image.specs.Prescribed.{loads_below, pages_of, segment_of, segments_of, has_file_byte, covers_page}
use Rattle.image.specs.Stages.{Laid, listed}
use Rattle.image.specs.declared.ranges.PageRange.{PageRange}
use Rattle.image.specs.declared.segments.Segment.{Segment}
use Rattle.image.specs.declared.segments.Segments.{Segments}
use Rattle.image.proofs.Known.{laid, load_clear_open, load_clear_plan, begins_behind}
use Rattle.image.proofs.Gathers.{loads_more, loads_same}
use Rattle.image.proofs.Firsts.{find_none, find_some}

each_push : {X : Type 0} (P : X → Type 0) (xs : List X) (x : X) → Each P xs → P x → Each P (xs ++ x ∷ [])
each_push P [] x all last = (last, tt)
each_push P (y ∷ ys) x (first, rest) last = (first, each_push P ys x rest last)

-- The segments of the first n headers.
abbrev below : List ℕ → ℕ → ℕ → List Segment
below b bias n = map (segment_of bias) (loads_below elf64 b n)

module _ (b : List ℕ) (bias : ℕ) where
  below_more : (n : ℕ) → Load (header elf64 b n) → below b bias (suc n) ≡ below b bias n ++ segment_of bias (header elf64 b n) ∷ []
  below_more n load = ap (map (segment_of bias)) (loads_more elf64 b n load) ∙ map-append (segment_of bias) (loads_below elf64 b n) (header elf64 b n ∷ [])

  below_same : (n : ℕ) → (Load (header elf64 b n) → ⊥) → below b bias (suc n) ≡ below b bias n
  below_same n other = ap (map (segment_of bias)) (loads_same elf64 b n other)

  -- What holds of the segment of each load header holds of each segment.
  module _ (P : Segment → Type 0) where
    each_below : (n : ℕ) → ((i : ℕ) → i < n → Load (header elf64 b i) → P (segment_of bias (header elf64 b i))) → Each P (below b bias n)
    unfolding loads_below
    each_below zero all = tt
    each_below (suc n) all =
        let rest : Each P (below b bias n) = each_below n (λ i less load. all i (omega arith) load) in
        elim (cases_eq (header elf64 b n).kind 1) [
          | inl load ↦ subst (Each P) (sym (below_more n load)) (each_push P (below b bias n) (segment_of bias (header elf64 b n)) rest (all n (omega arith) load))
          | inr other ↦ subst (Each P) (sym (below_same n other)) rest
        ]

    each_segment : ((i : ℕ) → i < phnum elf64 b → Load (header elf64 b i) → P (segment_of bias (header elf64 b i))) → Each P (segments_of elf64 b bias)
    unfolding segments_of
    each_segment all = each_below (phnum elf64 b) all

module _ (b : List ℕ) (bias : ℕ) (known : Laid elf64 b bias) where
  -- Each segment covers at most 2^26 pages, and there are at most 16.
  pub pages_few : (s : Segments) → listed s ≡ segments_of elf64 b bias → page_count (map (λ x. x.pages) (listed s)) ≤ 2 ^ 30
  pages_few s same =
      let xs = listed s in
      let each : Each (λ (x : Segment). x.pages.count ≤ 2 ^ 26) xs =
      subst (Each (λ x. x.pages.count ≤ 2 ^ 26)) (sym same)
      (each_segment b bias (λ x. x.pages.count ≤ 2 ^ 26) (λ i within load. (let end = known.ends i within load in omega arith))) in
      let most = sum_by-le (λ (r : PageRange). r.count) (2 ^ 26) (map (λ (x : Segment). x.pages) xs) (All-map (λ (r : PageRange). r.count ≤ 2 ^ 26) (λ (x : Segment). x.pages) xs (All-from_recursion (λ (x : Segment). x.pages.count ≤ 2 ^ 26) xs each)) in
      let few : length (map (λ (x : Segment). x.pages) xs) ≤ 16 = let f = s.few in omega (arith, length-map xs (λ (x : Segment). x.pages), length-take s.count s.list) in
      omega arith

  -- No segment has file bytes from 2^38 on, nor pages from 2^26 on.
  pub no_file_byte : (a : ℕ) → 2 ^ 38 ≤ a → find (has_file_byte a) (segments_of elf64 b bias) ≡ None
  no_file_byte a high =
      find_none (has_file_byte a) _
      (each_segment b bias (λ s. has_file_byte a s ≡ false) (λ i within load.
      let h = header elf64 b i in
      let end = known.ends i within load in
      let held = known.held i within load in
      let past : bias + h.vaddr + h.filesz ≤ a = omega arith in
      and_right (leb (bias + h.vaddr) a) (ltb a (bias + h.vaddr + h.filesz)) (le-ltb a (bias + h.vaddr + h.filesz) past)))

  pub no_page : (page : ℕ) → 2 ^ 26 ≤ page → find (covers_page page) (segments_of elf64 b bias) ≡ None
  no_page page high =
      find_none (covers_page page) _
      (each_segment b bias (λ s. covers_page page s ≡ false) (λ i within load.
      let r = pages_of bias (header elf64 b i) in
      let end = known.ends i within load in
      let full = known.full i within load in
      let past : r.first + r.count ≤ page = omega arith in
      and_right (leb r.first page) (ltb page (r.first + r.count)) (le-ltb page (r.first + r.count) past)))

  -- A segment that is found for an address among its file bytes has them in the file, and the address is one of theirs.
  pub found_byte : (a : ℕ) (s : Segment) → find (has_file_byte a) (segments_of elf64 b bias) ≡ Some s → (s.offset + s.filesz ≤ length b) × (s.address ≤ a) × (a < s.address + s.filesz)
  found_byte a s e =
      let found = find_some (λ s. s.offset + s.filesz ≤ length b) (has_file_byte a) (segments_of elf64 b bias) s (each_segment b bias (λ s. s.offset + s.filesz ≤ length b) known.bounded.sizes) e in
      let parts = and_parts (leb s.address a) (ltb a (s.address + s.filesz)) found.1 in
      (found.0, leb-true s.address a parts.0, ltb-true a (s.address + s.filesz) parts.1)

-- The ranges of a file's segments ascend.
above_push : (n : ℕ) (xs : List PageRange) (r : PageRange) → Above n xs → n ≤ r.first → Above n (xs ++ r ∷ [])
above_push n [] r all last = (last, tt)
above_push n (x ∷ xs) r (first, rest) last = (first, above_push n xs r rest last)

ascending_push : (xs : List Segment) (s : Segment) → Ascending (map (λ s. s.pages) xs) → Each (λ x. x.pages.first + x.pages.count ≤ s.pages.first) xs → Ascending (map (λ s. s.pages) (xs ++ s ∷ []))
ascending_push [] s all below = (tt, tt)
ascending_push (x ∷ xs) s (above, rest) (first, below) =
    (subst (Above (x.pages.first + x.pages.count)) (sym (map-append (λ (s : Segment). s.pages) xs (s ∷ []))) (above_push (x.pages.first + x.pages.count) (map (λ s. s.pages) xs) s.pages above first), ascending_push xs s rest below)

module _ (b : List ℕ) (bias : ℕ) (clear : AllClear (load_rules elf64 b bias)) where
  known : Laid elf64 b bias
  known = laid b bias clear

  whole : bias % 4096 ≡ 0
  whole = elim (cases_eq (bias % 4096) 0) [ inl s ↦ s | inr odd ↦ absurd ((load_clear_plan elf64 b bias clear).0 0 (lit< tt) (inl odd)) ]

  order : (i : ℕ) → i < phnum elf64 b → BadOrder elf64 b i → ⊥
  order = (groups elf64 b (format_clear elf64 b (load_clear_open elf64 b bias clear))).segments.1.1.1.1.0

  -- Every segment of the first n headers ends below the first page of a later one.
  behind : (n : ℕ) → n < phnum elf64 b → Load (header elf64 b n) → Each (λ s. s.pages.first + s.pages.count ≤ (pages_of bias (header elf64 b n)).first) (below b bias n)
  behind n within load =
      each_below b bias (λ s. s.pages.first + s.pages.count ≤ (pages_of bias (header elf64 b n)).first) n (λ i less here.
      let apart = begins_behind elf64 b order n within load i less here in
      let full = known.full i (omega arith) here in
      let w = whole in
      omega arith)

  ascend : (n : ℕ) → n ≤ phnum elf64 b → Ascending (map (λ s. s.pages) (below b bias n))
  unfolding loads_below
  ascend zero le = tt
  ascend (suc n) le =
      let rest = ascend n (omega arith) in
      elim (cases_eq (header elf64 b n).kind 1) [
        | inl here ↦
            subst (λ (ss : List Segment). Ascending (map (λ (s : Segment). s.pages) ss)) (sym (below_more b bias n here))
            (ascending_push (below b bias n) (segment_of bias (header elf64 b n)) rest (behind n le here))
        | inr other ↦ subst (λ (ss : List Segment). Ascending (map (λ (s : Segment). s.pages) ss)) (sym (below_same b bias n other)) rest
      ]

  pub ranges_ascend : Ascending (map (λ s. s.pages) (segments_of elf64 b bias))
  unfolding segments_of
  ranges_ascend = ascend (phnum elf64 b) (omega arith)
