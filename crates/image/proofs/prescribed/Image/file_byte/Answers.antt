use Rattle.std.proofs.Common.{◌≡◌, ℕ, ◌+◌, ◌-◌, ◌<◌, List, length, get_or, Some, None, Option, MatchOption, sym, ap, ◌∙◌, rules}
use Rattle.std.specs.List.{find}
use Rattle.elf.specs.Layouts.{elf64}
use Rattle.image.specs.Prescribed.{segments_of, has_file_byte, file_byte_by}
use Rattle.image.specs.declared.segments.Segment.{Segment}
use Rattle.image.proofs.Assembles.{after_start}
use Rattle.image.proofs.prescribed.Image.file_byte.Goals as goal

-- The byte at the offset that is found, or 0.
byte_at : (b : List ℕ) (a : ℕ) (found : Option Segment) (o : Option ℕ) (r : ℕ) → MatchOption o (found ≡ None) (λ k. (k < length b) × ((s : Segment) × (found ≡ Some s) × (k ≡ s.offset + (a - s.address)))) → MatchOption o (r ≡ 0) (λ k. r ≡ get_or b k 0) → r ≡ file_byte_by b a found
byte_at b a found None r none zero = zero ∙ sym (ap (file_byte_by b a) none)
byte_at b a found (Some k) r (_, (s, some, at)) byte = byte ∙ ap (λ (i : ℕ). get_or b i 0) at ∙ sym (ap (file_byte_by b a) some)

pub returns : goal.returns
returns c =
    let m = c.args.self.now in
    let b = m.opened.file.now in
    let a = c.args.address in
    let made : MatchOption c.file_offset.result (c.map_or.result ≡ 0) (λ k. c.map_or.result ≡ get_or b k 0) = search rules in
    byte_at b a (find (has_file_byte a) (segments_of elf64 b m.bias)) c.file_offset.result c.map_or.result c.file_offset.ensures made ∙ sym (after_start elf64 b m.bias a)
