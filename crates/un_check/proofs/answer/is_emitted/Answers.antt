use Rattle.un_check.proofs.AnswerLemmas.{emitted_test}
use Rattle.un_check.proofs.answer.is_emitted.Goals as goal

pub returns : goal.returns
returns c =
    emitted_test c.args.m.now c.args.s.now.values c.in_ok-emitted.emitted c.args.code.now c.same_code.result c.in_ok-emitted.ensures.code
    c.same_code.ensures
