use Rattle.elf.specs.Records.{file_header}
use Rattle.elf.proofs.records.file_header.Goals as goal

pub returns : goal.returns
unfolding file_header
returns c = cc
