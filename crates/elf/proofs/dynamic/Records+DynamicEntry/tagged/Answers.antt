use borrow.Author.Tests.{tests}
use Rattle.std.proofs.Common.{rules, refl, ℕ, ◌≡◌}
use Rattle.elf.specs.Dynamic.{entry_in}
use Rattle.elf.proofs.Finds.{found_first}
use Rattle.elf.proofs.dynamic.Records+DynamicEntry.tagged.Goals as goal

pub returns : goal.returns
returns c =
    let P : ℕ → Type 0 = λ i. (entry_in c.args.self.now.headers.layout c.args.self.now.headers.bytes.now c.args.self.now.table i).tag ≡ c.args.tag in
    found_first _ _ _ _ _ P refl refl c.find.ensures.ran (λ x q k. search (rules, tests)) (λ x q k. search (rules, tests))
