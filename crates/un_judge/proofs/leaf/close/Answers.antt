use Rattle.std.proofs.Common.{◌∙◌, sym, subst}
use Rattle.un_domains.specs.Sets.{IsIn}
use Rattle.un_judge.proofs.Comings.{line_ends, line_goes, line_none}
use Rattle.un_judge.proofs.Takings.{empty_in}
use Rattle.un_judge.proofs.leaf.close.Goals as goal

pub returns-in-End-clause-comes : goal.returns-in-End-clause-comes
returns-in-End-clause-comes c boxes verdict e =
    c.loop-line.invariant.comes boxes verdict
    (line_none c.args.r.now c.loop-line.left c.loop-line.cuts.sets boxes verdict c.in-End.ensures e)

pub returns-in-Ended-clause-comes : goal.returns-in-Ended-clause-comes
returns-in-Ended-clause-comes c boxes verdict k =
    let h = c.in-Next.ensures in
    let d = c.in-Ended.ensures.does h.bytes h.says in
    c.loop-line.invariant.comes boxes verdict
    (line_ends c.args.r.now c.loop-line.left c.in-Next.line c.in-Next.rest.now h c.in_ok-read-in-Next.read
    c.in_ok-read-in-Next.ensures.later c.loop-line.cuts.sets d.0 boxes verdict k)

pub returns-in-Ended-clause-refuted : goal.returns-in-Ended-clause-refuted
returns-in-Ended-clause-refuted c x inside below =
    let h = c.in-Next.ensures in
    let d = c.in-Ended.ensures.does h.bytes h.says in
    let e = d.0 in
    empty_in c.loop-line.cuts.sets x e.empty (c.loop-line.invariant.kept x inside below)

pub loop-line-preserved : goal.loop-line-preserved
loop-line-preserved c =
    let h = c.in-Next.ensures in
    let w = c.in-Went.ensures.does h.bytes h.says in
    let g = w.1 in
    record {
      comes = λ boxes verdict k. c.loop-line.invariant.comes boxes verdict
          (line_goes c.args.r.now c.loop-line.left c.in-Next.line c.in-Next.rest.now h c.in_ok-read-in-Next.read
          c.in_ok-read-in-Next.ensures.later c.loop-line.cuts.sets c.try_line.new.cuts.sets w.0 g w.2 boxes verdict k);
      kept = λ x inside below. subst (IsIn x) (sym w.2)
          (c.keeps.ensures.steps c.loop-line.cuts.sets w.0 x g.allowed (c.loop-line.invariant.kept x inside below) below);
      marked = c.in-Went.ensures.marked ∙ c.loop-line.invariant.marked;
    }
