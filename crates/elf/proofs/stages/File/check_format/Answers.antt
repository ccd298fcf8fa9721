use Rattle.std.proofs.Common.{◌≡◌, ◌∙◌}
use Rattle.faults.specs.Rules.{First, AllClear, Answers}
use Rattle.faults.proofs.Families.{handed_up}
use Rattle.elf.specs.Segments.{segment_rules}
use Rattle.elf.specs.Dynamic.{dynamic_rules, format_rules}
use Rattle.elf.proofs.Passed.{carried, knows_segments, header_rules, at_identity, at_header, at_segments, at_last}
use Rattle.elf.proofs.stages.File.check_format.Goals as goal

pub check_dynamic-requires : goal.check_dynamic-requires
check_dynamic-requires c =
    let h = c.in_ok-headers.headers in
    knows_segments h.layout h.bytes.now h.readable c.in_ok-check_segments.ensures

pub returns-in_err-check_identity : goal.returns-in_err-check_identity
returns-in_err-check_identity c =
    let l = c.args.self.now.layout in
    let b = c.args.self.now.bytes.now in
    handed_up (format_rules l b) _ _ _ c.from_residual.ensures.1 (at_identity l b _ c.in_err-check_identity.ensures)

pub returns-in_err-headers : goal.returns-in_err-headers
returns-in_err-headers c =
    let l = c.args.self.now.layout in
    let b = c.args.self.now.bytes.now in
    let same = c.in_ok-check_identity.ensures.1 in
    let header = carried (λ x y. First (header_rules x y) c.in_err-headers.field-0.0) same.0 same.1 c.in_err-headers.ensures in
    handed_up (format_rules l b) _ _ _ c.from_residual-in_err-headers.ensures.1 (at_header l b _ c.in_ok-check_identity.ensures.0 header)

pub returns-in_err-check_segments : goal.returns-in_err-check_segments
returns-in_err-check_segments c =
    let l = c.args.self.now.layout in
    let b = c.args.self.now.bytes.now in
    let same = c.in_ok-check_identity.ensures.1 in
    let header : AllClear (header_rules l b) = carried (λ x y. AllClear (header_rules x y)) same.0 same.1 c.in_ok-headers.ensures.0 in
    let here = c.in_ok-headers.ensures.1 in
    let segments = carried (λ x y. First (segment_rules x y) c.in_err-check_segments.field-0.0) (here.0 ∙ same.0) (here.1 ∙ same.1) c.in_err-check_segments.ensures in
    handed_up (format_rules l b) _ _ _ c.from_residual-in_err-check_segments.ensures.1 (at_segments l b _ c.in_ok-check_identity.ensures.0 header segments)

pub returns : goal.returns
returns c =
    let l = c.args.self.now.layout in
    let b = c.args.self.now.bytes.now in
    let same = c.in_ok-check_identity.ensures.1 in
    let header : AllClear (header_rules l b) = carried (λ x y. AllClear (header_rules x y)) same.0 same.1 c.in_ok-headers.ensures.0 in
    let here = c.in_ok-headers.ensures.1 in
    let segments : AllClear (segment_rules l b) = carried (λ x y. AllClear (segment_rules x y)) (here.0 ∙ same.0) (here.1 ∙ same.1) c.in_ok-check_segments.ensures in
    at_last l b c.check_dynamic.result c.in_ok-check_identity.ensures.0 header segments (λ d e. (e.0 ∙ (here.0 ∙ same.0), e.1 ∙ (here.1 ∙ same.1)))
    (carried (λ x y. Answers (dynamic_rules x y) (λ d. (d.headers.layout ≡ c.in_ok-headers.headers.layout) × (d.headers.bytes.now ≡ c.in_ok-headers.headers.bytes.now)) c.check_dynamic.result) (here.0 ∙ same.0) (here.1 ∙ same.1) c.check_dynamic.ensures)
