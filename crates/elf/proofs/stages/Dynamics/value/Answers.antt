use Rattle.std.proofs.Common.{ℕ, ◌≡◌, ◌<◌, ap, ◌∙◌}
use Rattle.elf.specs.Searches.{Lowest}
use Rattle.elf.specs.Dynamic.{entry_in}
use Rattle.elf.specs.Kinds.{tag_number}
use Rattle.elf.specs.declared.records.DynamicEntry.{DynamicEntry}
use Rattle.elf.specs.declared.stages.Headers.{Headers}
use Rattle.elf.proofs.Finds.{none_of}
use Rattle.elf.proofs.Located.{stands_none, stands_some}
use Rattle.elf.proofs.Passed.{carried}
use Rattle.elf.proofs.stages.Dynamics.value.Goals as goal

pub returns-in_err-i : goal.returns-in_err-i
returns-in_err-i c =
    let t = c.entries-entries.result.table in
    none_of _ c.from_residual.ensures
    (stands_none c.args.self.now.headers.layout c.args.self.now.headers.bytes.now t (tag_number c.args.tag) c.entries-entries.ensures.table (carried (λ h n. (i : ℕ) → i < t.count → (entry_in h.layout h.bytes.now t i).tag ≡ n → ⊥) c.entries-entries.ensures.same c.from.ensures c.in_err-i.ensures))

pub returns : goal.returns
returns c =
    let t = c.entries-entries.result.table in
    let same = c.entries-entries.ensures.same in
    let first : Lowest t.count (λ j. (entry_in c.args.self.now.headers.layout c.args.self.now.headers.bytes.now t j).tag ≡ tag_number c.args.tag) c.in_ok-i.i =
    carried (λ h n. Lowest t.count (λ j. (entry_in h.layout h.bytes.now t j).tag ≡ n) c.in_ok-i.i) same c.from.ensures c.in_ok-i.ensures in
    let found = stands_some c.args.self.now.headers.layout c.args.self.now.headers.bytes.now t (tag_number c.args.tag) c.in_ok-i.i c.entries-entries.ensures.table first in
    (found.0, ap (λ (e : DynamicEntry). e.value) c.get.ensures ∙ ap (λ (h : Headers). (entry_in h.layout h.bytes.now t c.in_ok-i.i).value) same ∙ found.1)
