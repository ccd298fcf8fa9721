use Rattle.std.proofs.Common.{◌%◌, rules}
use Rattle.space.proofs.Caches.{one_written}
use Rattle.space.proofs.tlb.TlbSpace.look.Goals as goal

pub returns-2-clause-holds : goal.returns-2-clause-holds
returns-2-clause-holds g c = λ h e. (c.args.page % 16, search rules)

pub returns-2-clause-one : goal.returns-2-clause-one
returns-2-clause-one g c = one_written c.args.self.now.entries (c.args.page % 16) _
