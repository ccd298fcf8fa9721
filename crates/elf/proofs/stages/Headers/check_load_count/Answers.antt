use Rattle.std.proofs.Common.{rules, ◌≡◌, ◌∙◌}
use Rattle.elf.specs.Segments.{loads, phnum}
use Rattle.elf.proofs.Counts.{loads_counted}
use Rattle.elf.proofs.stages.Headers.check_load_count.Goals as goal

pub returns-then-count-eq0 : goal.returns-then-count-eq0
returns-then-count-eq0 c =
    let l = c.args.self.now.layout in
    let b = c.args.self.now.bytes.now in
    let counted : c.loads-count.result ≡ loads l b (phnum l b) = c.loads-count.ensures ∙ loads_counted l b (phnum l b) in
    search rules

pub returns : goal.returns
returns c =
    let l = c.args.self.now.layout in
    let b = c.args.self.now.bytes.now in
    let counted : c.loads-count.result ≡ loads l b (phnum l b) = c.loads-count.ensures ∙ loads_counted l b (phnum l b) in
    search rules
