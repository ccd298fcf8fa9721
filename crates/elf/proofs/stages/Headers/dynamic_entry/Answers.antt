use Rattle.std.proofs.Common.{◌≡◌, ◌+◌, ◌/◌, ◌<◌, ◌≤◌, length, MatchOption, arith}
use Rattle.elf.specs.Records.{entry_at}
use Rattle.elf.proofs.Accessed.{header_absent, entry_figures, entry_by}
use Rattle.elf.proofs.Finds.{none_of}
use Rattle.elf.proofs.Passed.{carried}
use Rattle.elf.proofs.stages.Headers.dynamic_entry.Goals as goal

pub returns-in_err-d : goal.returns-in_err-d
returns-in_err-d c = none_of _ c.from_residual.ensures (header_absent c.args.self.now.layout c.args.self.now.bytes.now c.in_err-d.ensures c.args.i)

pub returns-then-i-h : goal.returns-then-i-h
returns-then-i-h c = λ has.
    let p = entry_figures c.args.self.now.layout c.args.self.now.bytes.now c.in_ok-d.d c.get-h.result c.in_ok-d.ensures c.get-h.ensures c.args.i has in
    let counted : c.args.i < c.get-h.result.filesz / c.args.self.now.layout.dynamic = p.0 in
    omega (arith, p.1)

pub returns-in_err-at : goal.returns-in_err-at
returns-in_err-at c =
    none_of _ c.from_residual-in_err-at.ensures
    (λ has.
    let p = entry_figures c.args.self.now.layout c.args.self.now.bytes.now c.in_ok-d.d c.get-h.result c.in_ok-d.ensures c.get-h.ensures c.args.i has in
    let short = c.args.self.now.readable.headed.short in
    let limit = c.args.self.now.readable.headed.sound.file_limit in
    omega (arith, p.1))

pub returns : goal.returns
returns c =
    let l = c.args.self.now.layout in
    let b = c.args.self.now.bytes.now in
    let at = c.in_ok-at.at in
    let read = carried (λ x y. MatchOption c.record.result (length y < at + x.dynamic) (λ e. (at + x.dynamic ≤ length y) × (e ≡ entry_at x y at))) c.file-file.ensures.0 c.file-file.ensures.1 c.record.ensures.read in
    entry_by l b c.in_ok-d.d c.get-h.result c.in_ok-d.ensures c.get-h.ensures c.args.i at c.record.result c.args.self.now.readable c.if-i-h.false c.in_ok-at.ensures.1 read
