use Rattle.std.proofs.Common.{◌≡◌, ◌+◌, ◌*◌, ◌<◌, ◌≤◌, length, ap, mul-le-mul_left, mul-add, arith, rules}
use Rattle.elf.specs.Records.{file_header}
use Rattle.elf.specs.Segments.{phoff, phnum}
use Rattle.elf.proofs.stages.HeadedFile.check_inside.Goals as goal

pub returns-in_default : goal.returns-in_default
unfolding file_header
returns-in_default c =
    let l = c.args.self.now.layout in
    let b = c.args.self.now.bytes.now in
    let i = c.loop-i._i in
    let size : c.loop-i.reader.file.layout.header.size ≡ l.header.size = ap (λ x. x.header.size) c.loop-i.invariant.1 in
    let same : length c.loop-i.reader.file.bytes.now ≡ length b = ap length c.loop-i.invariant.0 in
    let at : c.loop-i.reader.at ≡ phoff l b + l.header.size * i = c.loop-i.invariant.2 in
    let cut : length c.loop-i.reader.file.bytes.now < c.loop-i.reader.at + c.loop-i.reader.file.layout.header.size = c.in_default.ensures.steps.1.0 in
    let count : c.file_header-header.result.phnum ≡ phnum l b = ap (λ h. h.phnum) c.file_header-header.ensures in
    let next : i + 1 ≤ phnum l b = omega arith in
    let past : length b < phoff l b + l.header.size * phnum l b = omega (arith, mul-le-mul_left l.header.size next, mul-add l.header.size i 1) in
    search rules
