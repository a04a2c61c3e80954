use Rattle.std.proofs.Common.{arith, ap, length, sym, ◌∙◌}
use Rattle.un_base.proofs.LineLaws.{lines_of-first}
use Rattle.un_base.proofs.lines.LineIterIterator.next.Goals as goal

pub returns-clause-steps : goal.returns-clause-steps
returns-clause-steps c = rw (c.after-self.ensures, c.line_end-end.ensures.end)
    (lines_of-first c.args.self.now.rest.now (sym c.is_empty.ensures ∙ c.if-is_empty.false))

pub returns-clause-goes : goal.returns-clause-goes
returns-clause-goes c =
    let first = lines_of-first c.args.self.now.rest.now (sym c.is_empty.ensures ∙ c.if-is_empty.false) in
    record {
      on = λ _. (tt, tt, rw (c.after-self.ensures, c.line_end-end.ensures.end) (omega (arith, ap length first)));
      keeps = tt;
      rests =
          λ _. tt;
    }
