use Rattle.std.proofs.Common.{refl}
use Rattle.space.specs.Frames.{pool}
use Rattle.sv39.proofs.Makes.{kept_void}
use Rattle.sv39.proofs.paging.Sv39.nothing.Goals as goal

pub invariant_of-result-2 : goal.invariant_of-result-2
invariant_of-result-2 c =
    let d = c.default.ensures in
    record { kept = kept_void c.default.result c.args.memory.now _ (pool c.new.result) d.0 d.1.0 d.1.1 refl c.new.ensures }
