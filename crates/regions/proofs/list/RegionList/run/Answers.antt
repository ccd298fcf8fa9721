use Rattle.regions.proofs.Facts.{lists}
use Rattle.regions.proofs.list.RegionList.run.Goals as goal

pub returns-clause-lists : goal.returns-clause-lists
returns-clause-lists c = lists c.args.self.now
