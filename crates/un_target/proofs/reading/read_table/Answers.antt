use Rattle.serde_json.specs.View.{view}
use Rattle.un_target.specs.Lending.{lent_parts}
use Rattle.un_target.proofs.TableLaws.{table_fits, of_parts}
use Rattle.un_target.proofs.reading.read_table.Goals as goal

pub returns-in_default-clause-bad : goal.returns-in_default-clause-bad
returns-in_default-clause-bad c = (view c.in_ok-value.value, c.in_ok-value.ensures.ok, c.in_default.ensures.none)

pub returns-in-Ok-clause-ok : goal.returns-in-Ok-clause-ok
returns-in-Ok-clause-ok c = record {
  parts = lent_parts c.in-Some.parts;
  read = record { json = view c.in_ok-value.value; is = c.in_ok-value.ensures.ok; parts = c.in-Some.ensures.some };
  table = c.in-Ok.ensures.ok;
}

pub returns-in-Ok-clause-fit : goal.returns-in-Ok-clause-fit
returns-in-Ok-clause-fit c = table_fits (lent_parts c.in-Some.parts) c.in-Ok.table c.in-Ok.ensures.ok

pub returns-clause-bad : goal.returns-clause-bad
returns-clause-bad c = of_parts c.args.text.now (lent_parts c.in-Some.parts) c.in-Err.cause
    (record { json = view c.in_ok-value.value; is = c.in_ok-value.ensures.ok; parts = c.in-Some.ensures.some }) c.in-Err.ensures.bad
