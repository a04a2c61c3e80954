use Rattle.std.proofs.Common.{sym, refl, subst}
use Rattle.std.specs.Prelude.{Option}
use Rattle.un_domains.specs.Sets.{Sets}
use Rattle.un_model.specs.Boxes.{root_of}
use Rattle.un_tree.specs.Waits.{Whole, HasSidesIn}
use Rattle.un_judge.specs.Walks.{Passes}
use Rattle.un_judge.specs.declared.verdict.StepVerdict.{StepVerdict}
use Rattle.un_judge.proofs.Walkings.{one_box, told_here, walk_on}
use Rattle.un_judge.proofs.judge.visit.Goals as goal

pub advance-requires-clause-strict : goal.advance-requires-clause-strict
advance-requires-clause-strict c =
    subst (λ (b : Sets). HasSidesIn c.args.node (Whole b))
    (sym (one_box (root_of c.args.r.now.m.now) c.args.walk.now.stand c.lines_of.new.walk.stand c.requires.at c.in_ok-told.ensures.at
    c.in_ok-told.ensures.path)) c.requires.strict

pub returns-in-Some : goal.returns-in-Some
returns-in-Some c = record {
  visited = λ nodes rest log h.
      told_here c.args.r.now nodes log c.args.node rest c.args.walk.now h c.lines_of.new.walk c.in-Some.verdict
      (subst (λ (k : Option StepVerdict). Passes c.args.r.now c.args.node c.args.walk.now c.lines_of.new.walk k) c.in-Some.is
      c.in_ok-told.ensures.passes);
}

pub returns : goal.returns
returns c = record {
  visited = λ nodes rest log h.
      walk_on c.args.r.now nodes log c.args.node rest c.args.walk.now h c.lines_of.new.walk _
      (subst (λ (k : Option StepVerdict). Passes c.args.r.now c.args.node c.args.walk.now c.lines_of.new.walk k) c.in_default.is
      c.in_ok-told.ensures.passes) c.in_ok-walk.ensures.at refl c.in_ok-walk.ensures.waits c.in_ok-told.ensures.path
      (one_box (root_of c.args.r.now.m.now) c.args.walk.now.stand c.lines_of.new.walk.stand c.requires.at c.in_ok-told.ensures.at
      c.in_ok-told.ensures.path);
}
