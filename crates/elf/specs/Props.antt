-- What a type carries of a layout is known in one way only: nothing here is part of a promise. Assumes nothing.
use Rattle.std.specs.Prelude.{◌≡◌, ℕ, ◌≤◌, ◌⊎◌}
use Rattle.elf.specs.Layouts.{Sound}
use Rattle.elf.specs.declared.layout.Layout.{Layout}
use Rattle.std.proofs.Common.{ap, inl, inr, arith}
use Rattle.std.proofs.Math.Nat.{ℕ_set}
use Rattle.std.proofs.Props.{props}

-- An address has four bytes or eight, not both.
pub width_prop : (n : ℕ) → IsProp ((n ≡ 4) ⊎ (n ≡ 8))
width_prop n (inl a) (inl b) = ap inl (ℕ_set n 4 a b)
width_prop n (inl a) (inr b) = absurd (omega arith)
width_prop n (inr a) (inl b) = absurd (omega arith)
width_prop n (inr a) (inr b) = ap inr (ℕ_set n 8 a b)

pub ruleset layout_props = (width_prop, props)

-- The records of every layout are small.
pub entry_small : (l : Layout) → Sound l → l.dynamic ≤ 64
entry_small l sound = elim sound.word [ inl four ↦ omega (arith, sound.dynamic) | inr eight ↦ omega (arith, sound.dynamic) ]

pub relocation_small : (l : Layout) → Sound l → l.relocation ≤ 64
relocation_small l sound = elim sound.word [ inl four ↦ omega (arith, sound.relocation) | inr eight ↦ omega (arith, sound.relocation) ]
