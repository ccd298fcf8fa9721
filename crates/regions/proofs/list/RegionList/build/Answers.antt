use Rattle.std.proofs.Common.{length, refl, ap, rules}
use Rattle.space.specs.Memory.{Bytes}
use Rattle.space.specs.Frames.{pool}
use Rattle.regions.proofs.Makes.{kept_built, built_empty}
use Rattle.regions.proofs.list.RegionList.build.Goals as goal

pub invariant_of-result : goal.invariant_of-result
invariant_of-result c =
    let bytes : Bytes c.args.memory.now = λ k. search rules in
    record { kept = kept_built c.args.figures c.args.memory.now _ _ _ _ (pool c.new-2.result) c.new.ensures.none c.requires refl c.new-2.ensures bytes (ap length c.new.ensures.same) }

pub returns : goal.returns
returns c = record { figures = refl; empty = built_empty c.args.figures c.args.memory.now _ 0 _ _ (pool c.new-2.result) c.new.ensures.none c.requires refl c.new-2.ensures }
