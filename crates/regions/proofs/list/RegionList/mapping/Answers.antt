use Rattle.std.proofs.Common.{Some, sym, ap, ◌∙◌, arith}
use Rattle.regions.proofs.Facts.{gives, run_frames}
use Rattle.regions.proofs.list.RegionList.mapping.Goals as goal

pub mapping-requires-clause-fits : goal.mapping-requires-clause-fits
mapping-requires-clause-fits c =
    let t = c.args.self.now in
    omega (arith, run_frames t c.args.i c.get.result c.get.ensures, t.kept.booked.few)

pub returns : goal.returns
returns c = (gives c.args.self.now c.args.page c.args.i c.get.result c.requires c.get.ensures).1 ∙ ap Some (sym c.mapping.ensures)
