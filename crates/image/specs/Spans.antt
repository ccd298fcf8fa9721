-- Buffers that stand for what lies from an address on. Assumes nothing.
use Rattle.std.specs.Prelude.{◌≡◌, ℕ, ◌+◌, ◌<◌, length, slice_index}
use Rattle.image.specs.declared.span.Span.{Span}

-- A span is on the same buffer, from the same address on.
abbrev pub Kept : {T : Type 0} → Span T → Span T → Type 0
Kept w v = (v.address ≡ w.address) × (v.items.ghost_name ≡ w.items.ghost_name) × (length v.items.now ≡ length w.items.now)

-- Each byte of a span becomes what `byte` gives for its address and the byte that stood there.
abbrev pub Puts : Span ℕ → Span ℕ → (ℕ → ℕ → ℕ) → Type 0
Puts w v byte = (j : ℕ) → j < length w.items.now → slice_index v.items.now j ≡ byte (w.address + j) (slice_index w.items.now j)

-- Each byte of a span is what `byte` gives for its address.
abbrev pub Holds : Span ℕ → (ℕ → ℕ) → Type 0
Holds w byte = (j : ℕ) → j < length w.items.now → slice_index w.items.now j ≡ byte (w.address + j)
