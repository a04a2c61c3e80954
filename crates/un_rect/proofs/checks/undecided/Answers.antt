use Rattle.std.proofs.Common.{◌∙◌, sym}
use Rattle.un_rect.specs.CheckLaws.{check_apart}
use Rattle.un_rect.proofs.CheckSteps.{left_nothing, left_one, left_more}
use Rattle.un_rect.proofs.checks.undecided.Goals as goal

pub returns-then-surely_apart : goal.returns-then-surely_apart
returns-then-surely_apart c = check_apart c.args.w.now.vars.now c.args.a.now c.args.b.now c.requires.of_a c.requires.of_b
    c.args.w.now.store.now.sets c.requires.known c.requires.live
    (sym c.surely_apart.ensures ∙ c.if-surely_apart.true)

pub returns-in-Nothing : goal.returns-in-Nothing
returns-in-Nothing c = (
  c.requires.of_a.of_reg,
  left_nothing c.args.w.now.vars.now c.args.a.now c.args.b.now c.requires.ascend c.requires.of_a c.requires.of_b c.args.w.now.store.now.sets
      c.requires.known c.requires.live
      c.with_temp-first.result c.with_temp.result c.with_temp-first.ensures c.with_temp.ensures c.in-Nothing.is,
)

pub returns-in-One : goal.returns-in-One
returns-in-One c = left_one c.args.w.now.vars.now c.args.a.now c.args.b.now c.requires.ascend c.requires.of_a c.requires.of_b
    c.args.w.now.store.now.sets c.requires.known c.requires.live
    c.in-One.v c.with_temp-first.result c.with_temp.result c.with_temp-first.ensures c.with_temp.ensures c.in-One.is

pub returns-in-More : goal.returns-in-More
returns-in-More c = left_more c.args.w.now.vars.now c.args.a.now c.args.b.now c.requires.ascend c.requires.of_a c.requires.of_b
    c.args.w.now.store.now.sets c.requires.known c.requires.live
    c.with_temp-first.result c.with_temp.result c.with_temp-first.ensures c.with_temp.ensures c.in-More.is
