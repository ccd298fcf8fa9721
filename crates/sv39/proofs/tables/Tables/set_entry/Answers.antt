use Rattle.std.proofs.Common.{arith, rules}
use Rattle.std.proofs.lemmas.List.{places}
use Rattle.sv39.proofs.Numbers.{written}
use Rattle.sv39.proofs.tables.Tables.set_entry.Goals as goal

pub returns : goal.returns
returns c = written c.write_u64.new.buf (search (rules, places)) (λ i h. search (rules, places)) c.write_u64.ensures (omega arith)
