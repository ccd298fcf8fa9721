use Rattle.image.proofs.Known.{load_clear_open, listing_clear}
use Rattle.elf.specs.Layouts.{elf64}
use Rattle.image.proofs.placed.Placed.image.Goals as goal

pub invariant_of-result : goal.invariant_of-result
invariant_of-result c =
    let m = c.args.self.now in
    let b = m.checked.opened.file.now in
    record {
      clear = m.clear;
      gathered = c.segments.ensures.list;
      tabled = listing_clear b c.relocation_table.result (load_clear_open elf64 b m.bias m.clear) c.relocation_table.ensures.listing;
    }
