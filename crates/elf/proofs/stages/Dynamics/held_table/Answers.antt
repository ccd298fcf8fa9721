use Rattle.elf.proofs.Located.{table_undescribed, table_missed, table_found}
use Rattle.elf.proofs.Finds.{none_of}
use Rattle.elf.proofs.stages.Dynamics.held_table.Goals as goal

pub returns-in_err-address : goal.returns-in_err-address
returns-in_err-address c = none_of _ c.from_residual.ensures (table_undescribed c.args.self.now.headers.layout c.args.self.now.headers.bytes.now (λ d. c.in_err-address.ensures d.address))

pub returns-in_err-size : goal.returns-in_err-size
returns-in_err-size c = none_of _ c.from_residual-in_err-size.ensures (table_undescribed c.args.self.now.headers.layout c.args.self.now.headers.bytes.now (λ d. c.in_err-size.ensures d.size))

pub returns-in_err-value : goal.returns-in_err-value
returns-in_err-value c = none_of _ c.from_residual-in_err-value.ensures (table_undescribed c.args.self.now.headers.layout c.args.self.now.headers.bytes.now (λ d. c.in_err-value.ensures d.entry))

pub returns-in_err-i : goal.returns-in_err-i
returns-in_err-i c =
    none_of _ c.from_residual-in_err-i.ensures
    (table_missed c.args.self.now.headers.layout c.args.self.now.headers.bytes.now c.in_ok-address.address c.in_ok-size.size c.in_ok-address.ensures.1 c.in_ok-size.ensures.1 c.in_err-i.ensures)

pub returns : goal.returns
returns c =
    table_found c.args.self.now.headers.layout c.args.self.now.headers.bytes.now c.in_ok-address.address c.in_ok-size.size c.in_ok-i.i c.get-h.result
    (record { address = c.in_ok-address.ensures.0; size = c.in_ok-size.ensures.0; entry = c.in_ok-value.ensures.0 })
    c.in_ok-address.ensures.1 c.in_ok-size.ensures.1 c.get-h.ensures c.in_ok-i.ensures
