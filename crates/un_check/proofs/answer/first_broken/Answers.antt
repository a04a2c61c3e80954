use Rattle.un_check.proofs.AnswerLemmas.{first_told}
use Rattle.un_check.proofs.answer.first_broken.Goals as goal

pub returns : goal.returns
returns c =
    first_told c.args.m.now c.args.s.now c.in_ok-broken.broken.items c.first_of.result c.in_ok-broken.ensures.lists
    c.in_ok-broken.ensures.solves c.first_of.ensures
