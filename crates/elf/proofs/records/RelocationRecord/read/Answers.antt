use Rattle.std.proofs.Common.{w64}
use Rattle.elf.specs.Records.{relocation_at}
use Rattle.elf.proofs.Numbers.{there_and_back}
use Rattle.elf.proofs.records.RelocationRecord.read.Goals as goal

pub returns : goal.returns
unfolding relocation_at
returns c =
    rw (there_and_back w64 c.signed_at.result c.signed_at.type_inv, c.signed_at.ensures, c.word_at.ensures.value, c.split-kind.ensures.0, c.split-kind.ensures.1, c.word_at-info.ensures.value)
