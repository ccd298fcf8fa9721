-- Rules of refusal, and the fault that a family of rules gives. Assumes nothing.
use Rattle.std.specs.Prelude.{◌≡◌, ℕ, ◌<◌, ◌⊎◌, List, [], ◌∷◌, ◌++◌, Result}
use Rattle.std.specs.Result as results
use Rattle.faults.specs.declared.fault.Fault.{Fault}
use Rattle.faults.specs.declared.fault.Layer.{Layer}
use Rattle.faults.specs.declared.fault.Reason.{Reason}

-- A rule is tried on the trials 0, 1, .. in turn. Where it fits a trial it gives that trial's record and place.
pub record Rule : Type 1 where
  pub reason : Reason
  pub layer : Layer
  pub trials : ℕ
  pub fits : ℕ → Type 0
  pub named : ℕ → ℕ
  pub place : ℕ → ℕ

-- A rule that is tried once, and names one record and one place.
abbrev pub single : Reason → Layer → ℕ → ℕ → Type 0 → Rule
single why who which at P = record { reason = why; layer = who; trials = 1; fits = λ _. P; named = λ _. which; place = λ _. at }

-- A rule that is tried on each of the records 0 to n - 1, and names the record and its place.
abbrev pub each : Reason → Layer → ℕ → (ℕ → ℕ) → (ℕ → Type 0) → Rule
each why who n at P = record { reason = why; layer = who; trials = n; fits = P; named = λ i. i; place = at }

-- The rule fits no trial.
abbrev pub Clear : Rule → Type 0
Clear R = (i : ℕ) → i < R.trials → R.fits i → ⊥

-- The fault that a rule gives where it fits the trial i.
abbrev pub fault_of : Rule → ℕ → Fault
fault_of R i = record { reason = R.reason; layer = R.layer; «record» = R.named i; place = R.place i }

-- The rule fits, and f is the fault of the lowest trial that it fits.
pub record Hit (R : Rule) (f : Fault) : Type 0 where
  pub trial : ℕ
  pub within : trial < R.trials
  pub fits : R.fits trial
  pub lowest : (j : ℕ) → j < trial → R.fits j → ⊥
  pub fault : f ≡ fault_of R trial

-- f is the fault of the first rule of the family that fits.
abbrev pub First : List Rule → Fault → Type 0
First [] f = ⊥
First (R ∷ Rs) f = Hit R f ⊎ (Clear R × First Rs f)

-- No rule of the family fits.
abbrev pub AllClear : List Rule → Type 0
AllClear [] = Unit {0}
AllClear (R ∷ Rs) = Clear R × AllClear Rs

-- What a check of one rule answers: all is clear, or the rule's fault.
abbrev pub Checked : {X : Type 0} → Rule → Result X Fault → Type 0
Checked R r = results.MatchResult r (λ _. Clear R) (λ f. Hit R f)

-- What a check of a family answers: all is clear, or the fault of the first rule that fits.
abbrev pub Tried : {X : Type 0} → List Rule → Result X Fault → Type 0
Tried Rs r = results.MatchResult r (λ _. AllClear Rs) (λ f. First Rs f)

-- What a call answers behind a family of rules: a value of which P holds, or the fault of the first rule that fits.
abbrev pub Answers : {X : Type 0} → List Rule → (X → Type 0) → Result X Fault → Type 0
Answers Rs P r = results.MatchResult r (λ x. AllClear Rs × P x) (λ f. First Rs f)

-- The laws of a call's families of rules, one for each x: at most one fault, and none exactly where all is clear.
pub record Decided {X : Type 0} (rules : X → List Rule) : Type 0 where
  pub one : (x : X) (f g : Fault) → First (rules x) f → First (rules x) g → f ≡ g
  pub never : (x : X) (f : Fault) → AllClear (rules x) → First (rules x) f → ⊥
  pub clear : (x : X) → ((f : Fault) → First (rules x) f → ⊥) → AllClear (rules x)

-- The laws of two families in turn: the fault is the first one's, or that one is clear and the fault is the second one's.
pub record InTurn {X : Type 0} (early late : X → List Rule) : Type 0 where
  pub front : (x : X) (f : Fault) → First (early x) f → First (early x ++ late x) f
  pub back : (x : X) (f : Fault) → AllClear (early x) → First (late x) f → First (early x ++ late x) f
  pub parts : (x : X) (f : Fault) → First (early x ++ late x) f → First (early x) f ⊎ (AllClear (early x) × First (late x) f)
  pub both : (x : X) → AllClear (early x) → AllClear (late x) → AllClear (early x ++ late x)
