-- What a search over a range of numbers finds, where each test decides a fact. Assumes nothing.
use Rattle.std.proofs.Common.{◌≡◌, ℕ, ◌<◌, ◌≤◌, Bool, true, false, List, Option, Some, None, MatchOption, Ok, Err, Result, arith, subst, sym, Decides, MatchResult, lit<}
use denote.Param.Members.{Mut}
use denote.Ref.{Bor}
use Rattle.std.specs.declared.ops.Range.{Range}
use Rattle.std.specs.Fn.{CalledAt}
use Rattle.std.specs.Iterator.{YieldsThen}
use Rattle.std.specs.List.{FoldsTo}
use Rattle.std.specs.Bool.{⊤}
use Rattle.std.proofs.iter.Yields.{nat_range_steps}
use Rattle.std.proofs.lemmas.Iterator.{first_from_Range}
use Rattle.faults.specs.Rules.{Checked}
use Rattle.faults.specs.declared.fault.Fault.{Fault}
use Rattle.faults.specs.declared.fault.Reason.{Reason}
use Rattle.faults.specs.declared.fault.Layer.TheVariants.{Open}
use Rattle.elf.specs.Searches.{FirstOf}
use Rattle.elf.specs.Segments.{once, on_each}
use Rattle.elf.specs.Stages.{Tested}
use Rattle.elf.specs.declared.records.Table.{Table}

-- The range began at 0, so what was found is the first of all below its end.
first_of_all : (a n : ℕ) (P : ℕ → Type 0) (r : Option ℕ) → a ≡ 0 → MatchOption r ((k : ℕ) → a ≤ k → k < n → P k → ⊥) (λ i. (a ≤ i) × (i < n) × P i × ((k : ℕ) → a ≤ k → k < i → P k → ⊥)) → FirstOf n P r
first_of_all a n P None e none = λ i within. none i (omega arith) within
first_of_all a n P (Some i) e some = record { within = some.1; fits = some.2; lowest = λ j less. some.3 j (omega arith) less }

pub found_first : {F : Type 0} {g : Mut F (Bor ℕ × Unit {0}) Bool} (s u : Range ℕ) (f : F) (r : Option ℕ) (n : ℕ) (P : ℕ → Type 0) → s.start ≡ 0 → s.end ≡ n → (xs : List ℕ) × (j : F) × YieldsThen nat_range_steps s xs r u × FoldsTo (λ p x q. CalledAt g p x false q) f xs j × MatchOption r ⊤ (λ x. (h : F) × CalledAt g j x true h) → ((x : ℕ) (q : F) → CalledAt g f x true q → P x) → ((x : ℕ) (q : F) → CalledAt g f x false q → (q ≡ f) × (P x → ⊥)) → FirstOf n P r
found_first s u f r n P zero end ran fits misses =
    subst (λ m. FirstOf m P r) end (first_of_all s.start s.end P r zero (first_from_Range s u f r P (λ i. P i → ⊥) ran fits misses))

-- A check of a rule on a table, by a test whose answers decide whether the rule fits a record.
pub checked_by : (why : Reason) (t : Table) (P : ℕ → Type 0) (Gives : ℕ → Bool → Type 0) (r : Result (Unit {0}) Fault) → Tested why t Gives r → ((i : ℕ) → i < t.count → Gives i true → P i) → ((i : ℕ) → i < t.count → Gives i false → P i → ⊥) → Checked (on_each why t P) r
checked_by why t P Gives (Ok x) none fits misses = λ i within fit. misses i within (none.answers i within) fit
checked_by why t P Gives (Err f) some fits misses =
    let a = some.answers in
    record {
      trial = a.0;
      within = a.1;
      fits = fits a.0 a.1 a.2;
      lowest = λ j less fit. misses j (omega (arith, a.1, less)) (a.3 j less) fit;
      fault = a.4;
    }

-- A check of a rule that is tried once, where without the thing that it is about it does not fit.
pub checked_once : (why : Reason) (at : ℕ) (P Has : Type 0) (b : Bool) (r : Result (Unit {0}) Fault) → Decides b P → ((Has → ⊥) → P → ⊥) → MatchResult r (λ _. b ≡ true → Has → ⊥) (λ f. (b ≡ true) × (f ≡ record { reason = why; layer = Open; «record» = 0; place = at })) → Checked (once why at P) r
checked_once why at P Has b (Ok x) decides lacks none = λ i within fits. lacks (none (decides.1 fits)) fits
checked_once why at P Has b (Err f) decides lacks some = record { trial = 0; within = lit< tt; fits = decides.0 some.0; lowest = λ j less. absurd (omega arith); fault = some.1 }

-- What `?` hands up of an option that is none.
pub none_of : {T A : Type 0} (P : T → Type 0) {r : Option T} → r ≡ None → A → MatchOption r A P
none_of {A = A} P e a = subst (λ r. MatchOption r A P) (sym e) a
