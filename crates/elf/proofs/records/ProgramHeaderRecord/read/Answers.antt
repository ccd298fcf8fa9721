use Rattle.elf.specs.Records.{header_at}
use Rattle.elf.proofs.records.ProgramHeaderRecord.read.Goals as goal

pub returns : goal.returns
unfolding header_at
returns c = cc
