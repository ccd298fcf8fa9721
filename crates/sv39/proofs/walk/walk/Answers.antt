use Rattle.std.proofs.Common.{refl, inr, arith}
use Rattle.sv39.proofs.Steps.{walk_finds, walk_none}
use Rattle.sv39.proofs.walk.walk.Goals as goal

pub returns-in-Zero : goal.returns-in-Zero
returns-in-Zero c =
    inr (omega arith, c.loop-level.invariant _ (walk_finds _ _ _ c.loop-level.level c.loop-level.table _ _ (omega arith) c.in-Zero.ensures refl))

pub returns-in-Invalid : goal.returns-in-Invalid
returns-in-Invalid c =
    inr (omega arith, c.loop-level.invariant _ (walk_finds _ _ _ c.loop-level.level c.loop-level.table _ _ (omega arith) c.in-Invalid.ensures refl))

pub returns-in-Leaf : goal.returns-in-Leaf
returns-in-Leaf c =
    inr (omega arith, c.loop-level.invariant _ (walk_finds _ _ _ c.loop-level.level c.loop-level.table _ _ (omega arith) c.in-Leaf.ensures refl))

pub loop-level-preserved : goal.loop-level-preserved
loop-level-preserved c = λ w on. c.loop-level.invariant w
    (walk_finds _ _ _ c.loop-level.level c.loop-level.table w _ (omega arith) c.in-Table.ensures on)

pub returns : goal.returns
returns c = inr (omega arith, c.loop-level.invariant _ (walk_none _ _ _ _ _ (omega arith)))
