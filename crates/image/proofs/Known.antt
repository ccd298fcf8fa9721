-- What is known of a file, and of a file at a bias, once the rules are clear. Assumes nothing.
use Rattle.std.proofs.Common.{◌≡◌, ℕ, zero, suc, ◌+◌, ◌^◌, ◌<◌, ◌≤◌, eqb, List, length, Ok, Err, Result, sym, refl, ◌∙◌, subst, inl, inr, arith, lit<}
use Rattle.std.proofs.lemmas.Bool.{cases_lt, cases_eq, cases_order, eq-eqb, ne_eqb, cond-true, cond-false}
use Rattle.faults.specs.Rules.{AllClear, First, Answers}
use Rattle.faults.specs.declared.fault.Fault.{Fault}
use Rattle.faults.proofs.Families.{clear_front, clear_back, clear_both, first_front, first_back, faultless}
use Rattle.elf.specs.Layouts.{Sound, elf64}
use Rattle.elf.specs.Bytes.{le}
use Rattle.elf.specs.Searches.{SomeBelow, Highest}
use Rattle.elf.specs.Segments.{Load, header, phnum, loads, entry_point, first_page, last_page, BadOrder}
use Rattle.elf.specs.Dynamic.{format_rules, open_rules, relocation_table}
use Rattle.elf.specs.Files.{Listing}
use Rattle.elf.specs.declared.records.Table.{Table}
use Rattle.elf.specs.Stages.{Bounded, Extended}
use Rattle.elf.specs.declared.layout.Layout.{Layout}
use Rattle.elf.proofs.Passed.{knows_all, groups, format_clear}
use Rattle.image.specs.Plans.{end_below, plan_rules, load_rules}
use Rattle.image.specs.Stages.{Laid}

-- The 64-bit layout is sound.
pub sound64 : Sound elf64
sound64 = record {
  word = inr refl;
  identity = omega arith;
  entry = omega arith;
  phoff = omega arith;
  e_flags = omega arith;
  ehsize = omega arith;
  phentsize = omega arith;
  phnum = omega arith;
  short = omega arith;
  kind = omega arith;
  p_flags = omega arith;
  offset = omega arith;
  vaddr = omega arith;
  filesz = omega arith;
  memsz = omega arith;
  align = omega arith;
  small = omega arith;
  dynamic = refl;
  relocation = refl;
  types = (omega arith, omega arith);
  symbols = omega arith;
  end = omega arith;
  file_limit = omega arith;
  header_limit = omega arith;
  dynamic_limit = omega arith;
  relocation_limit = omega arith;
}

module _ (l : Layout) (b : List ℕ) where
  -- The last segment ends by the end of addresses.
  pub end_small : Bounded l b → (n : ℕ) → n ≤ phnum l b → end_below l b n ≤ l.end
  unfolding end_below
  end_small x zero le = omega arith
  end_small x (suc n) le =
      let h = header l b n in
      elim (cases_eq h.kind 1) [
        | inl load ↦
            let e : end_below l b (suc n) ≡ h.vaddr + h.memsz = cond-true (eqb h.kind 1) (h.vaddr + h.memsz) (end_below l b n) (eq-eqb h.kind 1 load) in
            omega (arith, x.ends n le load, e)
        | inr other ↦
            let e : end_below l b (suc n) ≡ end_below l b n = cond-false (eqb h.kind 1) (h.vaddr + h.memsz) (end_below l b n) (ne_eqb h.kind 1 other) in
            omega (arith, end_small x n (omega arith), e)
      ]

-- A file whose rules of opening are clear.
pub opened_known : (l : Layout) (b : List ℕ) → Sound l → AllClear (open_rules l b) → Extended l b
opened_known l b sound clear = knows_all l b sound (format_clear l b clear)

-- The rules of a plan: those of opening, then those of planning.
module _ (l : Layout) (b : List ℕ) (bias : ℕ) where
  pub load_clear_open : AllClear (load_rules l b bias) → AllClear (open_rules l b)
  unfolding load_rules
  load_clear_open clear = clear_front (open_rules l b) (plan_rules l b bias) clear

  pub load_clear_plan : AllClear (load_rules l b bias) → AllClear (plan_rules l b bias)
  unfolding load_rules
  load_clear_plan clear = clear_back (open_rules l b) (plan_rules l b bias) clear

  pub load_first : (f : Fault) → First (open_rules l b) f → First (load_rules l b bias) f
  unfolding load_rules
  load_first f first = first_front (open_rules l b) (plan_rules l b bias) f first

  pub load_clear : AllClear (open_rules l b) → AllClear (plan_rules l b bias) → AllClear (load_rules l b bias)
  unfolding load_rules
  load_clear opened planned = clear_both (open_rules l b) (plan_rules l b bias) opened planned

  load_back : (f : Fault) → AllClear (open_rules l b) → First (plan_rules l b bias) f → First (load_rules l b bias) f
  unfolding load_rules
  load_back f clear first = first_back (open_rules l b) (plan_rules l b bias) f clear first

  pub load_answers : {X : Type 0} (P : X → Type 0) (r : Result X Fault) → AllClear (open_rules l b) → Answers (plan_rules l b bias) P r → Answers (load_rules l b bias) P r
  load_answers P (Ok x) opened rest = (load_clear opened rest.0, rest.1)
  load_answers P (Err f) opened first = load_back f opened first

-- A file that can be planned is no longer than the limit.
pub file_short : (b : List ℕ) (bias : ℕ) → AllClear (load_rules elf64 b bias) → length b ≤ 16777216
file_short b bias clear = (opened_known elf64 b sound64 (load_clear_open elf64 b bias clear)).bounded.readable.headed.short

-- The ends of segments ascend.
module _ (l : Layout) (b : List ℕ) where
  below_load : (n : ℕ) → Load (header l b n) → end_below l b (suc n) ≡ (header l b n).vaddr + (header l b n).memsz
  unfolding end_below
  below_load n load = let h = header l b n in cond-true (eqb h.kind 1) (h.vaddr + h.memsz) (end_below l b n) (eq-eqb h.kind 1 load)

  below_other : (n : ℕ) → (Load (header l b n) → ⊥) → end_below l b (suc n) ≡ end_below l b n
  unfolding end_below
  below_other n other = let h = header l b n in cond-false (eqb h.kind 1) (h.vaddr + h.memsz) (end_below l b n) (ne_eqb h.kind 1 other)

  -- The highest load header below n gives the end, where there is one.
  highest : (n i : ℕ) → i < n → Load (header l b i) → (j : ℕ) × Highest n (λ k. Load (header l b k)) j × (end_below l b n ≡ (header l b j).vaddr + (header l b j).memsz)
  highest zero i less load = absurd (omega arith)
  highest (suc n) i less load =
      elim (cases_eq (header l b n).kind 1) [
        | inl here ↦ (n, record { within = omega arith; fits = here; highest = λ k more within. absurd (omega arith) }, below_load n here)
        | inr other ↦
            let strict : i < n =
            elim (cases_lt i n) [
              | inl s ↦ s
              | inr last ↦ let e : i ≡ n = omega arith in absurd (other (subst (λ (k : ℕ). Load (header l b k)) e load))
            ] in
            let rest = highest n i strict load in (
              rest.0,
              record {
                within = let w = rest.1.within in omega arith;
                fits = rest.1.fits;
                highest = λ k more within load_k.
                    elim (cases_lt k n) [
                      | inl s ↦ rest.1.highest k more s load_k
                      | inr last ↦ let e : k ≡ n = omega arith in other (subst (λ (m : ℕ). Load (header l b m)) e load_k)
                    ];
              },
              below_other n other ∙ rest.2,
            )
      ]

  -- The end is that of the highest load header, or 0 where there is none.
  pub end_none : (n : ℕ) → (SomeBelow n (λ k. Load (header l b k)) → ⊥) → end_below l b n ≡ 0
  unfolding end_below
  end_none zero none = refl
  end_none (suc n) none = below_other n (λ load. none (n, omega arith, load)) ∙ end_none n (λ some. none (some.0, (let w = some.1 in omega arith), some.2))

  pub end_last : (n i : ℕ) → Highest n (λ k. Load (header l b k)) i → end_below l b n ≡ (header l b i).vaddr + (header l b i).memsz
  end_last n i top =
      let other = highest n i top.within top.fits in
      elim (cases_order i other.0) [
        | inl same ↦ subst (λ (k : ℕ). end_below l b n ≡ (header l b k).vaddr + (header l b k).memsz) (sym same) other.2
        | inr (inl less) ↦ absurd (top.highest other.0 less other.1.within other.1.fits)
        | inr (inr more) ↦ absurd (other.1.highest i more top.within top.fits)
      ]

  module _ (clear : (i : ℕ) → i < phnum l b → BadOrder l b i → ⊥) where
    pub ends_ascend : (n : ℕ) → n ≤ phnum l b → (i : ℕ) → i < n → Load (header l b i) → (header l b i).vaddr + (header l b i).memsz ≤ end_below l b n
    ends_ascend zero le i less load = absurd (omega arith)
    ends_ascend (suc n) le i less load =
        elim (cases_eq (header l b n).kind 1) [
          | inl here ↦
              let e = below_load n here in
              elim (cases_lt i n) [
                | inl s ↦
                    let top = highest n i s load in
                    let j = top.0 in
                    let behind : last_page (header l b j) < first_page (header l b n) =
                    elim (cases_lt (last_page (header l b j)) (first_page (header l b n))) [
                      | inl s ↦ s
                      | inr bad ↦ absurd (clear n le (here, (j, top.1, bad)))
                    ] in
                    let most = ends_ascend n (omega arith) i s load in
                    let same = top.2 in
                    omega arith
                | inr last ↦ let same : i ≡ n = omega arith in subst (λ (k : ℕ). (header l b k).vaddr + (header l b k).memsz ≤ end_below l b (suc n)) (sym same) (omega arith)
              ]
          | inr other ↦
              let e = below_other n other in
              let strict : i < n =
              elim (cases_lt i n) [
                | inl s ↦ s
                | inr last ↦ let same : i ≡ n = omega arith in absurd (other (subst (λ (k : ℕ). Load (header l b k)) same load))
              ] in
              let most = ends_ascend n (omega arith) i strict load in
              omega arith
        ]

    -- A load header begins behind the end of every load header before it.
    pub begins_behind : (n : ℕ) → n < phnum l b → Load (header l b n) → (i : ℕ) → i < n → Load (header l b i) → last_page (header l b i) < first_page (header l b n)
    begins_behind n within load i less load_i =
        let top = highest n i less load_i in
        let j = top.0 in
        let behind : last_page (header l b j) < first_page (header l b n) =
        elim (cases_lt (last_page (header l b j)) (first_page (header l b n))) [
          | inl s ↦ s
          | inr bad ↦ absurd (clear n within (load, (j, top.1, bad)))
        ] in
        let most = ends_ascend n (omega arith) i less load_i in
        let same = top.2 in
        let pages : last_page (header l b i) ≤ last_page (header l b j) = omega arith in
        omega arith

-- A file at a bias whose rules are clear.
pub laid : (b : List ℕ) (bias : ℕ) → AllClear (load_rules elf64 b bias) → Laid elf64 b bias
laid b bias clear =
    let opened = load_clear_open elf64 b bias clear in
    let known : Extended elf64 b = opened_known elf64 b sound64 opened in
    let g = groups elf64 b (format_clear elf64 b opened) in
    let end : bias + end_below elf64 b (phnum elf64 b) ≤ 2 ^ 38 =
    elim (cases_lt (2 ^ 38) (bias + end_below elf64 b (phnum elf64 b))) [
      | inl past ↦ absurd ((load_clear_plan elf64 b bias clear).1.0 0 (lit< tt) past)
      | inr s ↦ s
    ] in
    let ends : (i : ℕ) → i < phnum elf64 b → Load (header elf64 b i) → bias + (header elf64 b i).vaddr + (header elf64 b i).memsz ≤ 2 ^ 38 = λ i within load.
    (let most = ends_ascend elf64 b g.segments.1.1.1.1.0 (phnum elf64 b) (omega arith) i within load in omega arith) in
    record {
      bounded = known.bounded;
      few =
          elim (cases_lt 16 (loads elf64 b (phnum elf64 b))) [
            | inl many ↦ absurd (g.table.1.1.1.0 0 (lit< tt) (inr many))
            | inr s ↦ s
          ];
      full = λ i within load.
          elim (cases_lt 0 (header elf64 b i).memsz) [
            | inl s ↦ s
            | inr none ↦ absurd (g.segments.0 i within (load, inl (omega arith)))
          ];
      held = λ i within load.
          elim (cases_lt (header elf64 b i).memsz (header elf64 b i).filesz) [
            | inl more ↦ absurd (g.segments.0 i within (load, inr (inl more)))
            | inr s ↦ s
          ];
      ends = ends;
      entry =
          elim (cases_lt (bias + entry_point elf64 b) (2 ^ 38)) [
            | inl s ↦ s
            | inr past ↦
                absurd (g.segments.1.1.1.1.1.0 0 (lit< tt) (inr (λ some.
                let i = some.0 in
                let x = some.2 in
                let e = ends i some.1 x.load in
                let to = x.to in
                omega arith)))
          ];
    }

-- The relocation table of a file whose rules are clear.
pub listing_clear : (b : List ℕ) (t : Table) → AllClear (open_rules elf64 b) → Listing elf64 b t → t ≡ relocation_table elf64 b
listing_clear b t clear (inl (_, same)) = same
listing_clear b t clear (inr ((f, first), _)) = absurd (faultless (format_rules elf64 b) (format_clear elf64 b clear) f first)
