use Rattle.un_judge.proofs.Spellings.{neither}
use Rattle.un_judge.proofs.line.line_of.Goals as goal

pub returns-in-None : goal.returns-in-None
returns-in-None c =
    neither c.args.rules c.args.text.now (λ e. let t = c.is_dot.ensures.1 e in let f = c.if-is_dot.false in cc (t, f))
    c.in-None.ensures.none
