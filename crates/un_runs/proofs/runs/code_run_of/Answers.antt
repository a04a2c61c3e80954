use Rattle.un_runs.proofs.runs.code_run_of.Goals as goal

pub returns-clause-ok : goal.returns-clause-ok
returns-clause-ok c =
    let start = c.in_ok-start.start in
    let outcome = c.in_ok-outcome.outcome in
    record {
      start = start;
      count = c.in_ok-start.count;
      started = c.in_ok-start.ensures.ok;
      room = c.in_ok-start.ensures.room;
      outcome = outcome;
      is = c.in_ok-outcome.ensures;
      printed = c.in_ok-out.ensures;
    }
