-- What the entries of a TLB say of the space below. Assumes nothing.
use Rattle.std.specs.Prelude.{◌≡◌, ℕ, ◌%◌, List, Some, None, Option, ◌≢◌, slice_index_or}
use Rattle.space.specs.declared.tlb.Entry.{Entry}
use Rattle.space.specs.Meaning.{Meaning}
use Rattle.space.specs.declared.parts.Mapping.{Mapping}

-- Each entry lies at its page's place.
abbrev pub Placed : List (Option Entry) → Type 0
Placed es = (k : ℕ) (x : Entry) → slice_index_or es k None ≡ Some x → x.page % 16 ≡ k

-- Each entry is what the space below has.
abbrev pub Agrees : Meaning → List (Option Entry) → Type 0
Agrees m es = (k : ℕ) (x : Entry) → slice_index_or es k None ≡ Some x → m.page x.page ≡ Some x.mapping

-- Some entry holds the page.
abbrev pub Holds : List (Option Entry) → ℕ → Mapping → Type 0
Holds es p h = (k : ℕ) × (slice_index_or es k None ≡ Some (record { page = p; mapping = h }))

-- At most one entry has changed.
abbrev pub OneChanged : List (Option Entry) → List (Option Entry) → Type 0
OneChanged es fs = (k : ℕ) × ((j : ℕ) → (j ≢ k) → slice_index_or fs j None ≡ slice_index_or es j None)

-- The space below is valid, and each entry is what it has.
abbrev pub Valid : {X : Type 0} → (X → Type 0) → (X → Meaning) → X → List (Option Entry) → Type 0
Valid valid meaning x es = valid x × Agrees (meaning x) es
