use Rattle.un_certificate.specs.Certificates.{IsStanding}
use Rattle.un_check.specs.Causes.{limit_of}
use Rattle.un_check.proofs.AnswerLemmas.{tree_cause, on_ok}
use Rattle.un_check.proofs.leaves.judge_tree.Goals as goal

pub returns-in-Err-clause-told : goal.returns-in-Err-clause-told
returns-in-Err-clause-told c name t is head =
    tree_cause c.args.f.now.name c.args.m.now
    (record { name = name; nodes = c.args.nodes; answer = c.args.answer.now; tree = t }) c.in-Err.cause head
    (c.in-Err.ensures.told c.args.m.now (limit_of c.args.answer.now) t is)

pub returns-in-Ok-clause-told : goal.returns-in-Ok-clause-told
returns-in-Ok-clause-told c name t is head =
    c.judge_leaves.ensures name t (c.in-Ok.ensures.outer c.args.m.now (limit_of c.args.answer.now) t is)
    (c.in-Ok.ensures.told c.args.m.now (limit_of c.args.answer.now) t is) head

pub returns-in-Ok-clause-standing : goal.returns-in-Ok-clause-standing
returns-in-Ok-clause-standing c t is =
    on_ok c.judge_leaves.result (IsStanding c.args.m.now (limit_of c.args.answer.now) t)
    (c.in-Ok.ensures.standing c.args.m.now (limit_of c.args.answer.now) t is)
