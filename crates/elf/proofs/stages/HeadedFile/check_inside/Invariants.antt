use Rattle.std.proofs.Common.{◌≡◌, ◌+◌, ◌*◌, ◌<◌, ◌≤◌, length}
use Rattle.elf.specs.Segments.{phoff}
use Rattle.elf.proofs.stages.HeadedFile.check_inside.Given as goal

-- The reader stands behind the headers read so far, which lie in the file.
abbrev pub invariant-loop-i : goal.invariant-loop-i
invariant-loop-i s =
    (s.reader.file.bytes.now ≡ s.self.bytes.now)
    × (s.reader.file.layout ≡ s.self.layout)
    × (s.reader.at ≡ phoff s.self.layout s.self.bytes.now + s.self.layout.header.size * s._i)
    × (0 < s._i → s.reader.at ≤ length s.self.bytes.now)
