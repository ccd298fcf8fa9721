use Rattle.std.proofs.Common.{◌≡◌, ◌≤◌}
use Rattle.elf.specs.Layouts.{elf64}
use Rattle.image.specs.Prescribed.{byte_after}
use Rattle.image.specs.Spans.{Kept, Holds}
use Rattle.image.proofs.prescribed.Image.relocate.Given as goal

-- The words so far stand in the span, and the relocations still to come.
abbrev pub invariant-loop-r : goal.invariant-loop-r
invariant-loop-r l =
    Kept l.initial.span l.span
    × Holds l.span (byte_after elf64 l.self.opened.file.now l.self.bias l.r-iterator.iter.start)
    × (l.r-iterator.iter.end ≡ l.self.table.count)
    × (l.r-iterator.iter.start ≤ l.r-iterator.iter.end)
    × (l.r-iterator.f.0.now ≡ l.self)
