use Rattle.std.proofs.Common.{◌≡◌, ◌≤◌}
use Rattle.elf.specs.Layouts.{elf64}
use Rattle.elf.specs.Segments.{phnum}
use Rattle.image.specs.Stages.{Gathered}
use Rattle.image.proofs.placed.Placed.segments.Given as goal

-- The segments of the headers so far, and the headers still to come.
abbrev pub invariant-loop-h : goal.invariant-loop-h
invariant-loop-h l =
    Gathered elf64 l.self.checked.opened.file.now l.self.bias l.h-iterator.iter.start l.segments
    × (l.h-iterator.iter.end ≡ phnum elf64 l.self.checked.opened.file.now)
    × (l.h-iterator.iter.start ≤ l.h-iterator.iter.end)
    × (l.h-iterator.f.0.now ≡ l.self)
