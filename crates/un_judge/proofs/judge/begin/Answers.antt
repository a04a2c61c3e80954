use Rattle.std.proofs.Common.{refl, subst}
use Rattle.un_domains.specs.Sets.{Sets}
use Rattle.un_walk.specs.Stands.{IsStandAt}
use Rattle.un_judge.proofs.Walkings.{walk_first}
use Rattle.un_judge.proofs.judge.begin.Goals as goal

pub returns : goal.returns
returns c = record {
  first = λ nodes whole plain strict.
      walk_first c.args.r.now nodes c.args.log.now _
      (subst (λ (b : Sets). IsStandAt b c.first_stand.result) c.in_ok-cuts.ensures.sets c.first_stand.ensures.at)
      c.first_stand.ensures.first refl refl refl whole plain strict;
}
