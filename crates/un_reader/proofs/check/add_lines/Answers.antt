use Rattle.std.proofs.Common.{arith, List, take, drop, length, length-drop, refl, sym, ap, subst, ◌∙◌}
use Rattle.std.proofs.lemmas.List.{take_rest, length_push}
use Rattle.std.proofs.lemmas.Result.{err_from_is_err_and}
use Rattle.un_words.specs.Shapes.{line_of}
use Rattle.un_words.specs.Pieces.{lines_in}
use Rattle.un_words.specs.declared.line.Line.{Line}
use Rattle.un_faults.specs.Before.{before_of}
use Rattle.un_reader.proofs.CheckLaws.{Seen, seen_none, seen_step, fault_step}
use Rattle.un_reader.proofs.check.add_lines.Goals as goal

pub returns-in_err-add_line-clause-bad : goal.returns-in_err-add_line-clause-bad
returns-in_err-add_line-clause-bad c =
    let p = err_from_is_err_and c.from_residual.result c.from_residual.ensures.1 in
    let told =
    fault_step (lines_in c.args.text.now) c.loop-rest.checked.lines c.loop-rest.checked.before
    (take c.first_len-len.result c.loop-rest.rest.now) c.loop-rest.rest.now
    (drop c.first_len-len.result c.loop-rest.rest.now) c.content.result.now _
    c.loop-rest.invariant.seen c.first_len-len.ensures.cut c.content.ensures c.loop-rest.invariant.before c.in_err-add_line.ensures.bad in
    rw (p.1, p.2) told

pub loop-rest-preserved : goal.loop-rest-preserved
loop-rest-preserved c =
    let rest = c.loop-rest.rest.now in
    let n = c.first_len-len.result in
    let more = c.in_ok-add_line.ensures.lines in
    let one = length_push c.loop-rest.checked.lines (line_of c.content.result.now) in
    let shorter = length-drop n rest in
    record {
      seen = rw (take_rest rest n, more)
          (seen_step (lines_in c.args.text.now) c.loop-rest.checked.lines (line_of c.content.result.now) c.loop-rest.checked.before
          (take n rest) rest (drop n rest) c.content.result.now
          c.loop-rest.invariant.seen c.first_len-len.ensures.cut c.content.ensures c.loop-rest.invariant.before
          c.in_ok-add_line.ensures.good refl);
      before = c.in_ok-add_line.ensures.before;
      count =
          rw (take_rest rest n, more, one, shorter)
          (omega (arith, c.loop-rest.invariant.count, c.first_len-len.ensures.some, c.first_len-len.ensures.bound));
    }

pub loop-rest-init : goal.loop-rest-init
loop-rest-init c = record {
  seen = subst (λ (ls : List Line). Seen (lines_in c.args.text.now) ls (lines_in c.args.text.now)) (sym c.requires.lines)
      (seen_none (lines_in c.args.text.now));
  before = c.requires.before ∙ ap before_of (sym c.requires.lines);
  count = omega (arith, ap length c.requires.lines);
}
