use Rattle.elf.specs.Layouts.{elf64}
use Rattle.image.proofs.Traces.{byte_origin}
use Rattle.image.proofs.plan.Plan.origin.Goals as goal

pub returns-in_err-check-clause-byte : goal.returns-in_err-check-clause-byte
returns-in_err-check-clause-byte c = byte_origin elf64 c.args.self.now.opened.file.now c.args.self.now.bias c.args.address

pub returns-clause-byte : goal.returns-clause-byte
returns-clause-byte c = byte_origin elf64 c.args.self.now.opened.file.now c.args.self.now.bias c.args.address
