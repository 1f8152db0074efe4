-- `sheet::sheet` meets its contract: a refusal alone, else the three lines.
use Rattle.counting.proofs.Reasons.{some_number}
use Rattle.sheet.proofs.Accepting.{sheet_refused}
use Rattle.sheet.proofs.sheet.sheet.Goals as goal

pub returns-in-Err : goal.returns-in-Err
returns-in-Err c = rw (sheet_refused c.args.input.now _ c.in-Err.ensures (some_number _)) c.put_refusal.ensures
