use Rattle.un_logs.proofs.round.take_run.Goals as goal

pub returns-clause-fits : goal.returns-clause-fits
returns-clause-fits c = λ rules held. record {
  rule = held;
  place = c.are_small.ensures.place;
  var = c.are_small.ensures.var;
  first = c.are_small.ensures.first;
  last = c.are_small.ensures.last;
}
