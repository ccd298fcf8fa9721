-- The laws of the first fault of a family of rules. Assumes nothing.
use Rattle.std.proofs.Common.{◌≡◌, ℕ, zero, suc, ◌<◌, ◌≤◌, ◌⊎◌, List, [], ◌∷◌, ◌++◌, IsErrAnd, Ok, Err, Result, sym, refl, ap, ◌∙◌, subst, inl, inr, arith}
use Rattle.std.proofs.lemmas.Bool.{cases_lt, cases_order}
use Rattle.faults.specs.Rules.{Rule, Clear, Hit, First, AllClear, Answers, Tried, Decided, InTurn, fault_of}
use Rattle.faults.specs.declared.fault.Fault.{Fault}

pub first_front : (Rs Ss : List Rule) (f : Fault) → First Rs f → First (Rs ++ Ss) f
first_front [] Ss f bad = absurd bad
first_front (R ∷ Rs) Ss f (inl hit) = inl hit
first_front (R ∷ Rs) Ss f (inr (clear, rest)) = inr (clear, first_front Rs Ss f rest)

pub first_back : (Rs Ss : List Rule) (f : Fault) → AllClear Rs → First Ss f → First (Rs ++ Ss) f
first_back [] Ss f clear back = back
first_back (R ∷ Rs) Ss f (clear, rest) back = inr (clear, first_back Rs Ss f rest back)

pub clear_both : (Rs Ss : List Rule) → AllClear Rs → AllClear Ss → AllClear (Rs ++ Ss)
clear_both [] Ss front back = back
clear_both (R ∷ Rs) Ss (clear, rest) back = (clear, clear_both Rs Ss rest back)

pub first_parts : (Rs Ss : List Rule) (f : Fault) → First (Rs ++ Ss) f → First Rs f ⊎ (AllClear Rs × First Ss f)
first_parts [] Ss f first = inr (tt, first)
first_parts (R ∷ Rs) Ss f (inl hit) = inl (inl hit)
first_parts (R ∷ Rs) Ss f (inr (clear, rest)) =
    elim (first_parts Rs Ss f rest) [ inl front ↦ inl (inr (clear, front)) | inr back ↦ inr ((clear, back.0), back.1) ]

-- A family that is clear is clear in both of its parts.
pub clear_front : (Rs Ss : List Rule) → AllClear (Rs ++ Ss) → AllClear Rs
clear_front [] Ss clear = tt
clear_front (R ∷ Rs) Ss (clear, rest) = (clear, clear_front Rs Ss rest)

pub clear_back : (Rs Ss : List Rule) → AllClear (Rs ++ Ss) → AllClear Ss
clear_back [] Ss clear = clear
clear_back (R ∷ Rs) Ss (clear, rest) = clear_back Rs Ss rest

pub faultless : (Rs : List Rule) → AllClear Rs → (f : Fault) → First Rs f → ⊥
faultless [] clear f bad = bad
faultless (R ∷ Rs) (clear, rest) f (inl hit) = clear hit.trial hit.within hit.fits
faultless (R ∷ Rs) (clear, rest) f (inr (_, later)) = faultless Rs rest f later

-- Where no fault comes of a rule, it fits no trial below n, for each n in turn.
none_below : (R : Rule) → ((f : Fault) → Hit R f → ⊥) → (n : ℕ) → n ≤ R.trials → (i : ℕ) → i < n → R.fits i → ⊥
none_below R none zero h i lt fits = omega arith
none_below R none (suc n) h i lt fits =
    let below : (j : ℕ) → j < n → R.fits j → ⊥ = none_below R none n (omega arith) in
    elim (cases_lt i n) [
      | inl less ↦ below i less fits
      | inr last ↦
          let at_n : R.fits n = subst (λ (k : ℕ). R.fits k) (omega arith) fits in
          none (fault_of R n) (record { trial = n; within = omega arith; fits = at_n; lowest = below; fault = refl })
    ]

clear_one : (R : Rule) → ((f : Fault) → Hit R f → ⊥) → Clear R
clear_one R none i within = none_below R none R.trials (omega arith) i within

pub all_clear : (Rs : List Rule) → ((f : Fault) → First Rs f → ⊥) → AllClear Rs
all_clear [] none = tt
all_clear (R ∷ Rs) none =
    let clear : Clear R = clear_one R (λ f hit. none f (inl hit)) in
    (clear, all_clear Rs (λ f later. none f (inr (clear, later))))

-- What the exit of a `?` answers: the fault that came, where it is the family's first.
pub handed_up : {X : Type 0} (Rs : List Rule) (P : X → Type 0) (f : Fault) (r : Result X Fault) → IsErrAnd r (λ g. g ≡ f) → First Rs f → Answers Rs P r
handed_up Rs P f (Ok x) e first = absurd e
handed_up Rs P f (Err g) e first = subst (First Rs) (sym e) first

hit_unique : (R : Rule) (f g : Fault) → Hit R f → Hit R g → f ≡ g
hit_unique R f g a b =
    elim (cases_order a.trial b.trial) [
      | inl same ↦ a.fault ∙ ap (fault_of R) same ∙ sym b.fault
      | inr (inl less) ↦ absurd (b.lowest a.trial less a.fits)
      | inr (inr more) ↦ absurd (a.lowest b.trial more b.fits)
    ]

-- A family gives at most one fault.
pub first_unique : (Rs : List Rule) (f g : Fault) → First Rs f → First Rs g → f ≡ g
first_unique [] f g a b = absurd a
first_unique (R ∷ Rs) f g (inl a) (inl b) = hit_unique R f g a b
first_unique (R ∷ Rs) f g (inl a) (inr (clear, _)) = absurd (clear a.trial a.within a.fits)
first_unique (R ∷ Rs) f g (inr (clear, _)) (inl b) = absurd (clear b.trial b.within b.fits)
first_unique (R ∷ Rs) f g (inr (_, a)) (inr (_, b)) = first_unique Rs f g a b

-- The laws hold of every family.
pub decided : {X : Type 0} (rules : X → List Rule) → Decided rules
decided rules = record {
  one = λ x. first_unique (rules x);
  never = λ x f clear. faultless (rules x) clear f;
  clear = λ x. all_clear (rules x);
}

pub in_turn : {X : Type 0} (early late : X → List Rule) → InTurn early late
in_turn early late = record {
  front = λ x. first_front (early x) (late x);
  back = λ x. first_back (early x) (late x);
  parts = λ x. first_parts (early x) (late x);
  both = λ x. clear_both (early x) (late x);
}

-- The exit of a `?` behind a family that was tried.
pub passed_up : {X : Type 0} (Rs : List Rule) (f : Fault) (r : Result X Fault) → IsErrAnd r (λ g. g ≡ f) → First Rs f → Tried Rs r
passed_up Rs f (Ok x) e first = absurd e
passed_up Rs f (Err g) e first = subst (First Rs) (sym e) first

-- What the check of a second family answers, the first one clear.
pub tried_back : {X : Type 0} (Rs Ss : List Rule) (r : Result X Fault) → AllClear Rs → Tried Ss r → Tried (Rs ++ Ss) r
tried_back Rs Ss (Ok x) front back = clear_both Rs Ss front back
tried_back Rs Ss (Err f) front back = first_back Rs Ss f front back
