use Rattle.std.proofs.Common.{ℕ, ◌+◌, sym, subst, ap, ◌∙◌}
use Rattle.un_domains.specs.Sets.{Sets}
use Rattle.un_model.specs.Boxes.{root_of}
use Rattle.un_tree.specs.Waits.{Whole, HasSidesIn}
use Rattle.un_judge.proofs.Walkings.{one_box}
use Rattle.un_logs.proofs.Walking.{walk_on, first_stuck}
use Rattle.un_logs.proofs.Within.{on_true, on_false}
use Rattle.un_logs.proofs.log.visit.Goals as goal

pub advance-requires-clause-strict : goal.advance-requires-clause-strict
advance-requires-clause-strict c =
    subst (λ (b : Sets). HasSidesIn c.args.node (Whole b))
    (sym (one_box (root_of c.args.r.now.m.now) c.args.walk.now.stand c.write_node.new.walk.stand c.requires.at c.in_ok-ended.ensures.at
    c.in_ok-ended.ensures.path)) c.requires.strict

pub returns-then-not-ended : goal.returns-then-not-ended
returns-then-not-ended c = record {
  on = tt;
  stuck = λ nodes rest h.
      first_stuck c.args.r.now nodes c.args.node rest c.args.walk.now h c.write_node.new.walk.place c.in_ok-ended.ensures.place
      (on_false c.in_ok-ended.ended _ c.if-not-ended.true c.in_ok-ended.ensures.stuck);
}

pub returns : goal.returns
returns c = record {
  on = λ nodes rest h.
      walk_on c.args.r.now nodes c.args.node rest c.args.walk.now h c.write_node.new.walk _
      (on_true c.in_ok-ended.ended _ c.if-not-ended.false c.in_ok-ended.ensures.passes) c.in_ok-more.ensures.at
      (c.in_ok-place.ensures.later ∙ ap (λ (n : ℕ). n + 1) c.in_ok-ended.ensures.place) c.in_ok-more.ensures.waits c.in_ok-ended.ensures.path
      (one_box (root_of c.args.r.now.m.now) c.args.walk.now.stand c.write_node.new.walk.stand c.requires.at c.in_ok-ended.ensures.at
      c.in_ok-ended.ensures.path);
  stuck = tt;
}
