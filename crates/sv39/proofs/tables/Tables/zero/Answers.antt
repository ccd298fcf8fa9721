use Rattle.space.proofs.Writes.{bytes_zeroed}
use Rattle.sv39.proofs.tables.Tables.zero.Goals as goal

pub invariant_of-self : goal.invariant_of-self
invariant_of-self c = record { bytes = bytes_zeroed _ _ _ _ c.args.self.now.bytes (c.wipe.ensures.zeroed c.requires) }

pub returns : goal.returns
returns c = c.wipe.ensures.zeroed c.requires
