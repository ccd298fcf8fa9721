use Rattle.std.proofs.Common.{◌≡◌, ℕ, ◌+◌, ◌<◌, ◌≤◌, List, [], ◌∷◌, ◌++◌, map, sym, ap, ◌∙◌, subst, arith, rules}
use Rattle.elf.specs.Layouts.{elf64}
use Rattle.elf.specs.Segments.{Load, header, loads, phnum}
use Rattle.image.specs.Pages.{Ascending}
use Rattle.image.specs.Prescribed.{segment_of, segments_of, loads_below}
use Rattle.image.specs.Stages.{Gathered, listed}
use Rattle.image.specs.declared.segments.Segment.{Segment}
use Rattle.image.proofs.Known.{laid}
use Rattle.image.proofs.Gathers.{loads_load, loads_mono, gathered_load, gathered_other}
use Rattle.image.proofs.Counts.{ranges_ascend}
use Rattle.image.proofs.placed.Placed.segments.Goals as goal

pub loop-h-init : goal.loop-h-init
unfolding loads_below loads
loop-h-init c =
    let m = c.args.self.now in
    let b = m.checked.opened.file.now in
    let start : c.into_iter-h-iterator.result.iter.start ≡ 0 = search rules in
    let end : c.into_iter-h-iterator.result.iter.end ≡ phnum elf64 b = search rules in
    let seen : c.into_iter-h-iterator.result.f.0.now ≡ m = search rules in
    let none : Gathered elf64 b m.bias 0 c.default-segments.result = record { same = c.default-segments.ensures.0; counted = c.default-segments.ensures.1 } in
    (subst (λ (n : ℕ). Gathered elf64 b m.bias n c.default-segments.result) (sym start) none, end, omega arith, seen)

pub segment_of-requires : goal.segment_of-requires
segment_of-requires c =
    let m = c.args.self.now in
    let b = m.checked.opened.file.now in
    let i = c.loop-h.h-iterator.iter.start in
    let same : c.in-Some.h ≡ header elf64 b i = search rules in
    let load : Load (header elf64 b i) = search rules in
    let within : i < phnum elf64 b = search rules in
    let known = laid b m.bias m.clear in
    let full = known.full i within load in
    let end = known.ends i within load in
    search rules

pub push-requires : goal.push-requires
push-requires c =
    let m = c.args.self.now in
    let b = m.checked.opened.file.now in
    let i = c.loop-h.h-iterator.iter.start in
    let same : c.in-Some.h ≡ header elf64 b i = search rules in
    let load : Load (header elf64 b i) = search rules in
    let within : i < phnum elf64 b = search rules in
    let more = loads_load elf64 b i load in
    let next : i + 1 ≤ phnum elf64 b = omega arith in
    let most = loads_mono elf64 b (i + 1) (phnum elf64 b) next in
    omega (arith, (laid b m.bias m.clear).few, c.loop-h.invariant.0.counted)

pub loop-h-preserved-then-is : goal.loop-h-preserved-then-is
loop-h-preserved-then-is c =
    let m = c.args.self.now in
    let b = m.checked.opened.file.now in
    let i = c.loop-h.h-iterator.iter.start in
    let same : c.in-Some.h ≡ header elf64 b i = search rules in
    let load : Load (header elf64 b i) = search rules in
    let segment : c.segment_of.result ≡ segment_of m.bias (header elf64 b i) = c.segment_of.ensures ∙ ap (segment_of m.bias) same in
    let start : c.next.new.self.iter.start ≡ i + 1 = search rules in
    let more =
    gathered_load elf64 b m.bias i c.loop-h.segments c.loop-h.invariant.0 c.push.new.self load
    (c.push.ensures.listed ∙ ap (λ (s : Segment). listed c.loop-h.segments ++ s ∷ []) segment)
    c.push.ensures.count in
    (subst (λ (n : ℕ). Gathered elf64 b m.bias n c.push.new.self) (sym start) more, search rules, search rules, search rules)

pub loop-h-preserved : goal.loop-h-preserved
loop-h-preserved c =
    let m = c.args.self.now in
    let b = m.checked.opened.file.now in
    let i = c.loop-h.h-iterator.iter.start in
    let same : c.in-Some.h ≡ header elf64 b i = search rules in
    let other : Load (header elf64 b i) → ⊥ = search rules in
    let start : c.next.new.self.iter.start ≡ i + 1 = search rules in
    let more = gathered_other elf64 b m.bias i c.loop-h.segments c.loop-h.invariant.0 other in
    (subst (λ (n : ℕ). Gathered elf64 b m.bias n c.loop-h.segments) (sym start) more, search rules, search rules, search rules)

pub returns : goal.returns
unfolding segments_of
returns c =
    let m = c.args.self.now in
    let b = m.checked.opened.file.now in
    let all : c.loop-h.h-iterator.iter.start ≡ phnum elf64 b = search rules in
    let list = c.loop-h.invariant.0.same ∙ ap (λ (n : ℕ). map (segment_of m.bias) (loads_below elf64 b n)) all in
    record {
      list = list;
      ascending = subst (λ (ss : List Segment). Ascending (map (λ (s : Segment). s.pages) ss)) (sym list) (ranges_ascend b m.bias m.clear);
    }
