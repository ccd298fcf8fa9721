use Rattle.std.proofs.Common.{◌<◌, length, refl, arith}
use Rattle.std.proofs.lemmas.List.{take_more_set}
use Rattle.image.proofs.segments.Segments.push.Goals as goal

pub returns : goal.returns
returns c =
    let xs = c.args.self.now.list in
    let n = c.args.self.now.count in
    let within : n < length xs = omega (arith, c.args.self.now.room) in
    record { listed = take_more_set xs n c.args.segment within; count = refl }
