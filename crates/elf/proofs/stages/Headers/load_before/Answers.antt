use borrow.Author.Tests.{tests}
use Rattle.std.proofs.Common.{rules}
use Rattle.elf.specs.Segments.{Load, header}
use Rattle.elf.proofs.Lasts.{highest_found}
use Rattle.elf.proofs.stages.Headers.load_before.Goals as goal

pub returns : goal.returns
returns c =
    highest_found c.args.i (λ k. Load (header c.args.self.now.layout c.args.self.now.bytes.now k)) _ _ _ c.find.result (cc) (cc) c.find.ensures.ran (λ x q k. search (rules, tests)) (λ x q k. search (rules, tests))
