use Rattle.std.proofs.Common.{◌+◌, ◌-◌, take, drop, sym, ◌∙◌, rules, get_or-drop, get_or-take}
use Rattle.sv39.proofs.Numbers.{le_bytes}
use Rattle.sv39.proofs.walk.u64_at.Goals as goal

pub returns : goal.returns
returns c =
    let at = c.args.at in
    let xs = c.args.bytes.now in
    c.read_u64.ensures ∙ sym (le_bytes xs (take (at + 8 - at) (drop at xs)) at (λ i h. search (rules, get_or-take, get_or-drop)))
