use Rattle.std.proofs.Common.{◌≡◌, ◌+◌, ◌-◌, ◌*◌, length, get_or, ap, ◌∙◌, arith}
use Rattle.sv39.proofs.Numbers.{le_same, cut}
use Rattle.sv39.proofs.walk.PhysicalMemory.entry.Goals as goal

pub returns : goal.returns
returns c =
    let m = c.args.self.now.bytes.now in
    let s = c.in_ok-start.ensures in
    let g = c.in_ok-get.ensures.lookup.0 in
    let e = c.in_ok-entries.ensures.lookup.0 in
    let o = c.args.table - c.args.self.now.base in (
      (s.0, omega (arith, s.1, g.3, e.1)),
      c.u64_at.ensures ∙ le_same m c.in_ok-entries.entries.now (o + 8 * c.args.index) (8 * c.args.index) 8 (λ i h.
          cut m c.in_ok-get.field-0.now c.in_ok-entries.entries.now c.in_ok-start.start (length m) 4096 g.2 e.2 (omega (arith, g.3, e.1)) (8 * c.args.index + i) (omega arith)
          ∙ ap (λ n. get_or m n 0) (let d : c.in_ok-start.start + (8 * c.args.index + i) ≡ o + 8 * c.args.index + i = omega (arith, s.1) in d)),
    )
