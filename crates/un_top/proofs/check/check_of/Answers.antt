use Rattle.un_top.proofs.check.check_of.Goals as goal

pub returns-clause-ok : goal.returns-clause-ok
returns-clause-ok c = record {
  answer = c.in_ok-view.view.answer;
  told = c.in_ok-told.told;
  answered = c.in_ok-told.ensures;
  ends = c.in_ok-out.ensures.ends;
  printed = c.in_ok-out.ensures.printed;
}
