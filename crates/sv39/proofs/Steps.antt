-- A walk one level at a time. Assumes nothing.
use Rattle.std.proofs.Common.{◌≡◌, ℕ, suc, ◌-◌, ◌*◌, ◌<◌, List, sym, refl, subst, arith}
use Rattle.sv39.specs.declared.entry.Entry.{Entry}
use Rattle.sv39.specs.declared.entry.Walk.{Walk}
use Rattle.sv39.specs.declared.entry.Walk.TheVariants.{Fault}
use Rattle.sv39.specs.Walks.{Finds, Goes, Walks}

-- What is found decides the walk with n levels to go.
pub walk_finds : (memory : List ℕ) (base a n t : ℕ) (w : Walk) (x : Entry) → 0 < n → Finds memory base a (n - 1) t x
    → Goes (λ p. Walks memory base a (n - 1) (p * 4096) w) (n - 1) w x → Walks memory base a n t w
unfolding Walks
walk_finds memory base a n t w x some finds goes =
    subst (λ k. Walks memory base a k t w) (let e : suc (n - 1) ≡ n = omega arith in e) (x, finds, goes)

-- Below the last level there is no table.
pub walk_none : (memory : List ℕ) (base a n t : ℕ) → n ≡ 0 → Walks memory base a n t Fault
unfolding Walks
walk_none memory base a n t e = subst (λ k. Walks memory base a k t Fault) (sym e) refl
