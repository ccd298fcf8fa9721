use Rattle.elf.specs.Records.{entry_at}
use Rattle.elf.proofs.records.DynamicEntryRecord.read.Goals as goal

pub returns : goal.returns
unfolding entry_at
returns c = cc
