use Rattle.std.proofs.Common.{◌≡◌, ℕ, ◌+◌, ◌<◌, ◌≤◌, List, length, Some, sym, ap, ◌∙◌, refl, arith}
use Rattle.std.specs.List.{find}
use Rattle.faults.specs.Rules.{AllClear}
use Rattle.elf.specs.Layouts.{elf64}
use Rattle.image.specs.Plans.{load_rules}
use Rattle.image.specs.Prescribed.{has_file_byte, segments_of}
use Rattle.image.specs.declared.segments.Segment.{Segment}
use Rattle.image.proofs.Known.{file_short, laid}
use Rattle.image.proofs.Counts.{found_byte}
use Rattle.image.proofs.prescribed.Image.file_offset.Goals as goal

-- What is known of the segment that is found.
record Found (b : List ℕ) (bias a : ℕ) (s : Segment) : Type 0 where
  found : find (has_file_byte a) (segments_of elf64 b bias) ≡ Some s
  inside : s.offset + s.filesz ≤ length b
  from : s.address ≤ a
  to : a < s.address + s.filesz
  short : length b ≤ 16777216

known : (b : List ℕ) (bias a : ℕ) (xs : List Segment) (s : Segment) → AllClear (load_rules elf64 b bias) → xs ≡ segments_of elf64 b bias → Some s ≡ find (has_file_byte a) xs → Found b bias a s
known b bias a xs s clear same e =
    let found = ap (find (has_file_byte a)) (sym same) ∙ sym e in
    let facts = found_byte b bias (laid b bias clear) a s found in
    record {
      found = found;
      inside = facts.0;
      from = facts.1;
      to = facts.2;
      short = file_short b bias clear;
    }

pub overflow_sub-result : goal.overflow_sub-result
overflow_sub-result c =
    let m = c.args.self.now in
    (known m.opened.file.now m.bias c.args.address _ c.in_ok-segment.segment m.clear m.gathered c.in_ok-segment.ensures).from

pub overflow_add-result : goal.overflow_add-result
overflow_add-result c =
    let m = c.args.self.now in
    let k = known m.opened.file.now m.bias c.args.address _ c.in_ok-segment.segment m.clear m.gathered c.in_ok-segment.ensures in
    record { fits = omega arith }

pub returns : goal.returns
returns c =
    let m = c.args.self.now in
    let k = known m.opened.file.now m.bias c.args.address _ c.in_ok-segment.segment m.clear m.gathered c.in_ok-segment.ensures in
    (omega arith, (c.in_ok-segment.segment, k.found, refl))
