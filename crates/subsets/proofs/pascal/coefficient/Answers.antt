-- `pascal::coefficient` meets its contract: what the table has is read there, whatever stands in it, and all else worked out.
use Rattle.subsets.proofs.Tabling.{read_there, past_rows, past_columns}
use Rattle.subsets.proofs.pascal.coefficient.Goals as goal

pub returns-then-past_rows : goal.returns-then-past_rows
returns-then-past_rows c =
    let a = c.args in
    past_rows a.table.now a.n a.r c.choose_up_to.result c.if-past_rows.true c.choose_up_to.ensures

pub returns-then-past_columns : goal.returns-then-past_columns
returns-then-past_columns c =
    let a = c.args in
    past_columns a.table.now a.n a.r c.choose_up_to-then-past_columns.result c.if-past_rows.false c.if-past_columns.true c.choose_up_to-then-past_columns.ensures

pub returns : goal.returns
returns c =
    let a = c.args in
    read_there a.table.now a.n a.r c.if-past_rows.false c.if-past_columns.false
