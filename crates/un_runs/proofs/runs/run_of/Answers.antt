use Rattle.un_runs.proofs.runs.run_of.Goals as goal

pub returns-clause-ok : goal.returns-clause-ok
returns-clause-ok c = record {
  start = c.in_ok-start.start;
  count = c.in_ok-start.count;
  started = c.in_ok-start.ensures.ok;
  outcome = c.in_ok-outcome.outcome;
  is = c.in_ok-outcome.ensures;
  printed = rw c.as_slice.ensures at c.in_ok-out.ensures;
}
