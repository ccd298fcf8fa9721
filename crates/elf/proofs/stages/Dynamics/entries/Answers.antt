use Rattle.std.proofs.Common.{◌≡◌, ◌∙◌}
use Rattle.elf.specs.Searches.{FirstOf}
use Rattle.elf.specs.Dynamic.{entry_in}
use Rattle.elf.proofs.Dynamics.{entries_none, entries_of}
use Rattle.elf.proofs.Passed.{carried}
use Rattle.elf.proofs.stages.Dynamics.entries.Goals as goal

pub returns-in_default-clause-table : goal.returns-in_default-clause-table
returns-in_default-clause-table c = c.new.ensures.table ∙ c.none.ensures ∙ entries_none c.args.self.now.headers.layout c.args.self.now.headers.bytes.now c.in_default.ensures

pub returns-clause-table : goal.returns-clause-table
returns-clause-table c =
    let t = c.in-Some.all.table in
    let found : FirstOf t.count (λ i. (entry_in c.args.self.now.headers.layout c.args.self.now.headers.bytes.now t i).tag ≡ 0) c.tagged-end.result =
    carried (λ h n. FirstOf t.count (λ i. (entry_in h.layout h.bytes.now t i).tag ≡ n) c.tagged-end.result) c.in-Some.ensures.1 c.from.ensures c.tagged-end.ensures in
    c.new-2.ensures.table
    ∙ entries_of c.args.self.now.headers.layout c.args.self.now.headers.bytes.now t c.tagged-end.result c.unwrap_or.result c.in-Some.ensures.2 c.in-Some.ensures.0 found c.unwrap_or.ensures
