use Rattle.space.specs.Frames.{pool}
use Rattle.sv39.proofs.Paths.{shown}
use Rattle.sv39.proofs.Makes.{tabled}
use Rattle.sv39.proofs.paging.Sv39.walk.Goals as goal

pub returns-clause-shows : goal.returns-clause-shows
returns-clause-shows c = let t = c.args.self.now in shown t.figures _ (pool t.frames) t.kept

pub returns-clause-tables : goal.returns-clause-tables
returns-clause-tables c = let t = c.args.self.now in tabled t.figures _ (pool t.frames) t.kept
