use Rattle.std.proofs.Common.{◌≡◌, ◌+◌, ◌%◌, ◌^◌, ap, ◌∙◌, subst, arith}
use Rattle.sv39.specs.Entries.{pointer}
use Rattle.sv39.specs.Tables.{bottom}
use Rattle.sv39.specs.Writes.{Written}
use Rattle.sv39.proofs.Builds.{built_none, built_more}
use Rattle.sv39.proofs.tables.Tables.build.Goals as goal

pub loop-i-init : goal.loop-i-init
loop-i-init c =
    let e = c.pointer_to.ensures ∙ ap pointer (let d : (c.bottom-page.result + 1) % 2 ^ 44 ≡ bottom c.args.figures + 1 = omega (arith, c.requires.reach) in d) in
    let w = subst (λ x. Written c.args.figures.gigabyte x c.zero.new.self.memory.now c.set_entry.new.self.memory.now) e c.set_entry.ensures in
    built_none c.args.figures _ _ _ c.requires.window c.zero.ensures w

pub set_entry-requires-in-loop-i : goal.set_entry-requires-in-loop-i
set_entry-requires-in-loop-i c = omega (arith, c.loop-i.invariant.apart.long, c.requires.held, c.requires.high)

pub loop-i-preserved : goal.loop-i-preserved
loop-i-preserved c =
    let e = c.pointer_to-in-loop-i.ensures ∙ ap pointer (let d : (c.bottom-page.result + 2 + c.from.result) % 2 ^ 44 ≡ bottom c.args.figures + 2 + c.loop-i.i = omega (arith, c.requires.reach) in d) in
    let w = subst (λ x. Written (512 + c.loop-i.i) x c.loop-i.self.memory.now c.set_entry-in-loop-i.new.self.memory.now) e c.set_entry-in-loop-i.ensures in
    built_more c.args.figures _ _ _ _ (omega arith) c.requires.high c.loop-i.invariant w
