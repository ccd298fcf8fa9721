use Rattle.std.proofs.Common.{refl, rules}
use Rattle.space.specs.Memory.{Bytes}
use Rattle.space.specs.Frames.{pool}
use Rattle.regions.proofs.Makes.{kept_nothing, no_figures, nothing_empty, nothing_entries}
use Rattle.regions.proofs.list.RegionList.nothing.Goals as goal

pub invariant_of-result : goal.invariant_of-result
invariant_of-result c =
    let d = c.default.ensures in
    let bytes : Bytes c.args.memory.now = λ k. search rules in
    record { kept = kept_nothing c.default.result c.args.memory.now _ _ _ (pool c.new-2.result) c.new.ensures.none d.0 d.1 refl c.new-2.ensures bytes }

pub returns : goal.returns
returns c =
    let d = c.default.ensures in
    record {
      figures = no_figures d.0 d.1;
      empty = nothing_empty c.default.result c.args.memory.now _ 0 _ (pool c.new-2.result) c.new.ensures.none d.0 d.1 refl c.new-2.ensures;
      memory = refl;
      runs = c.new.ensures.same;
      entries = nothing_entries c.default.result c.args.memory.now _ 0 _ (pool c.new-2.result) c.new.ensures.none d.0 d.1 refl c.new-2.ensures;
    }
