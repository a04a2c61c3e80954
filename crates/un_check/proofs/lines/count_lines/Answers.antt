use Rattle.un_check.proofs.LineLemmas.{counted_first, counted_more, counted_all, none_counted, shorter}
use Rattle.un_check.proofs.lines.count_lines.Goals as goal

pub loop-rest-init : goal.loop-rest-init
loop-rest-init c = counted_first c.args.text.now

pub loop-rest-preserved : goal.loop-rest-preserved
loop-rest-preserved c =
    counted_more c.args.text.now c.loop-rest.count c.loop-rest.left.now c.in-Node.node c.in-Node.line.now c.in-Node.rest.now
    c.loop-rest.invariant c.in-Node.ensures

pub loop-rest-smaller : goal.loop-rest-smaller
loop-rest-smaller c = shorter c.loop-rest.left.now c.in-Node.line.now c.in-Node.rest.now c.in-Node.ensures.whole

pub returns-in-End-clause-some : goal.returns-in-End-clause-some
returns-in-End-clause-some c = counted_all c.args.text.now c.loop-rest.count c.loop-rest.left.now c.loop-rest.invariant c.in-End.ensures

pub returns-in-Bad-clause-none : goal.returns-in-Bad-clause-none
returns-in-Bad-clause-none c =
    none_counted c.args.text.now c.loop-rest.count c.loop-rest.left.now c.loop-rest.invariant c.in-Bad.ensures.0 c.in-Bad.ensures.1
