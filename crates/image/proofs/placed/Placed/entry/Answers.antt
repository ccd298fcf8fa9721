use Rattle.std.proofs.Common.{ℕ, ◌+◌, ap, arith}
use Rattle.image.specs.Prescribed.{image_of}
use Rattle.image.proofs.Known.{laid}
use Rattle.image.proofs.placed.Placed.entry.Goals as goal

pub overflow_add-result : goal.overflow_add-result
overflow_add-result c =
    let m = c.args.self.now in
    record { fits = omega (arith, (laid m.checked.opened.file.now m.bias m.clear).entry, c.entry.ensures) }

pub returns : goal.returns
unfolding image_of
returns c = ap (λ (e : ℕ). c.args.self.now.bias + e) c.entry.ensures
