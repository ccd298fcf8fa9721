-- What is known of a file and a bias once the rules of planning are clear, for the crate's own functions. Assumes nothing.
use Rattle.std.specs.Prelude.{◌≡◌, ℕ, ◌+◌, ◌^◌, ◌<◌, ◌≤◌, Bool, List, [], ◌∷◌, map, find, take, Option}
use Rattle.std.specs.Borrow.{Bor}
use Rattle.std.specs.Coded.{×_prop, Π_prop, →_prop, Unit-prop}
use Rattle.faults.specs.Rules.{Rule, AllClear}
use Rattle.elf.specs.Segments.{Load, header, phnum, loads, entry_point}
use Rattle.elf.specs.Stages.{Bounded}
use Rattle.elf.specs.declared.layout.Layout.{Layout}
use Rattle.image.specs.Prescribed.{segment_of, loads_below}
use Rattle.image.specs.declared.segments.Segment.{Segment}
use Rattle.image.specs.declared.segments.Segments.{Segments}

-- A family of rules is clear in one way, so a type may carry the fact.
pub AllClear-prop : (Rs : List Rule) → IsProp (AllClear Rs)
AllClear-prop [] = Unit-prop
AllClear-prop (R ∷ Rs) = ×_prop (Π_prop (λ i. →_prop (→_prop (λ x y. absurd x)))) (AllClear-prop Rs)

-- Every load segment is not empty and ends by 2^38, there are at most 16, and the entry point lies below 2^38.
pub record Laid (l : Layout) (bytes : List ℕ) (bias : ℕ) : Type 0 where
  pub bounded : Bounded l bytes
  pub few : loads l bytes (phnum l bytes) ≤ 16
  pub full : (i : ℕ) → i < phnum l bytes → Load (header l bytes i) → 0 < (header l bytes i).memsz
  pub held : (i : ℕ) → i < phnum l bytes → Load (header l bytes i) → (header l bytes i).filesz ≤ (header l bytes i).memsz
  pub ends : (i : ℕ) → i < phnum l bytes → Load (header l bytes i) → bias + (header l bytes i).vaddr + (header l bytes i).memsz ≤ 2 ^ 38
  pub entry : bias + entry_point l bytes < 2 ^ 38

-- The segments of a list of at most 16.
abbrev pub listed : Segments → List Segment
listed s = take s.count s.list

-- The list has the segments of the first n headers.
pub record Gathered (l : Layout) (bytes : List ℕ) (bias n : ℕ) (s : Segments) : Type 0 where
  pub same : listed s ≡ map (segment_of bias) (loads_below l bytes n)
  pub counted : s.count ≡ loads l bytes n

-- What a search of a list by a test answers, where Gives s b says that the test of the segment s may answer b: the first that passes.
pub record FirstBy (Gives : Bor Segment → Bool → Type 0) (xs : List Segment) (r : Option Segment) : Type 0 where
  pub found : (passes : Segment → Bool) → ((s : Bor Segment) (b : Bool) → Gives s b → b ≡ passes s.now) → r ≡ find passes xs
