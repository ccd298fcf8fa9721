use Rattle.std.proofs.Common.{◌≡◌, ap, ◌/◌, ◌∙◌}
use Rattle.elf.specs.Segments.{header}
use Rattle.elf.specs.Dynamic.{dynamic_table, dynamic_header}
use Rattle.elf.specs.declared.records.ProgramHeader.{ProgramHeader}
use Rattle.elf.proofs.stages.Dynamics.table.Goals as goal

pub returns : goal.returns
unfolding dynamic_table
returns c =
    let l = c.args.self.now.headers.layout in
    let b = c.args.self.now.headers.bytes.now in
    let h : c.get-h.result ≡ header l b (dynamic_header l b) = c.get-h.ensures ∙ ap (header l b) c.in_ok-i.ensures.1 in
    (c.in_ok-i.ensures.0, c.new.ensures.same, c.new.ensures.table ∙ ap (λ (x : ProgramHeader). record { first = x.offset; size = l.dynamic; count = x.filesz / l.dynamic }) h)
