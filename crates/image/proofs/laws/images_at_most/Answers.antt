use Rattle.std.proofs.Common.{refl}
use Rattle.elf.specs.Layouts.{elf64}
use Rattle.faults.proofs.Families.{decided}
use Rattle.image.specs.Plans.{loads_of}
use Rattle.image.proofs.Assembles.{assembled}
use Rattle.image.proofs.laws.images_at_most.Goals as goal

pub returns : goal.returns
returns c = record {
  value = refl;
  decided = decided loads_of;
  assembled = assembled elf64;
  examples = record { addend = refl; one_page = refl; two_pages = refl; write = refl; execute = refl };
}
