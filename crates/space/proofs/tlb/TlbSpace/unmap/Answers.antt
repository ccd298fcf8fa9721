use Rattle.space.proofs.Caches.{agrees_unmap, placed_emptied}
use Rattle.space.proofs.tlb.TlbSpace.unmap.Goals as goal

pub invariant_of-self : goal.invariant_of-self
invariant_of-self g c = record { placed = placed_emptied c.args.self.now.entries _ c.args.self.now.placed }

pub returns : goal.returns
returns g c v =
    let means = g.S.Space.meaning in
    let s = c.unmap.ensures v.0 in
    ((s.0, agrees_unmap (means c.args.self.now.below.now) (means c.unmap.new.self) c.args.self.now.entries c.args.page c.unmap.result s.1 c.args.self.now.placed v.1), s.1)
