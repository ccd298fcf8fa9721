use Rattle.std.proofs.Common.{refl}
use Rattle.space.specs.Frames.{pool}
use Rattle.sv39.proofs.Makes.{kept_built, made}
use Rattle.sv39.proofs.paging.Sv39.build.Goals as goal

pub invariant_of-result : goal.invariant_of-result
invariant_of-result c =
    record { kept = kept_built c.args.figures c.args.memory.now _ _ (pool c.new.result) c.requires refl c.build.ensures c.new.ensures }

pub returns : goal.returns
returns c = made c.args.figures _ c.args.memory.now _ c.requires refl refl c.build.ensures c.new.ensures
