use Rattle.std.proofs.Common.{rules}
use Rattle.elf.proofs.Dynamics.{dynamic_found}
use Rattle.elf.proofs.stages.Headers.dynamic_header.Goals as goal

pub returns : goal.returns
returns c = search (rules, dynamic_found)
