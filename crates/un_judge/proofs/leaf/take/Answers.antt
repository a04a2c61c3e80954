use Rattle.std.proofs.Common.{refl, ◌∙◌, arith}
use Rattle.un_judge.proofs.Takings.{taken_none, taken_more, taken_all, still_there}
use Rattle.un_judge.proofs.leaf.take.Goals as goal

pub loop-y-init : goal.loop-y-init
loop-y-init c =
    let s = c.args.step.now in
    let f = c.from-y.ensures in
    record {
      sets = taken_none c.args.cuts.now.sets s.var.0 s.first c.from-y.result (omega (arith, f));
      marked = refl;
      far = λ lt. absurd (omega (arith, lt, f));
    }

pub take_value-requires : goal.take_value-requires
take_value-requires c =
    let s = c.args.step.now in
    still_there c.args.cuts.now.sets c.loop-y.cuts.sets s.var.0 s.first c.loop-y.y c.loop-y.invariant.sets c.requires

pub loop-y-preserved : goal.loop-y-preserved
loop-y-preserved c =
    let s = c.args.step.now in
    let f = c.from-y.ensures in
    let t = c.loop-y-test.true in
    let a = c.loop-y.auto.y in
    record {
      sets = taken_more c.args.cuts.now.sets c.loop-y.cuts.sets c.take_value.new.cuts.sets s.var.0 s.first c.loop-y.y c.requires
          (omega (arith, f, a)) c.loop-y.invariant.sets c.take_value.ensures.sets;
      marked = c.take_value.ensures.marked ∙ c.loop-y.invariant.marked;
      far = λ lt. omega (arith, t);
    }

pub returns-clause-sets : goal.returns-clause-sets
returns-clause-sets c =
    let s = c.args.step.now in
    let m = c.min-last.ensures in
    let g = c.from.ensures in
    c.loop-y.invariant.sets
    ∙ taken_all c.args.cuts.now.sets s c.end-end.result c.min-last.result c.loop-y.y c.end-end.ensures.above (omega (arith, m, g))
    c.loop-y-test.false
    c.loop-y.invariant.far
