use Rattle.std.proofs.Common.{refl, subst}
use Rattle.un_domains.specs.Sets.{Sets}
use Rattle.un_walk.specs.Stands.{IsStandAt}
use Rattle.un_logs.proofs.Walking.{walk_first}
use Rattle.un_logs.proofs.log.begin.Goals as goal

pub returns : goal.returns
returns c = record {
  first = λ nodes whole plain strict.
      walk_first c.args.r.now nodes _
      (subst (λ (b : Sets). IsStandAt b c.first_stand.result) c.in_ok-cuts.ensures.sets c.first_stand.ensures.at)
      c.first_stand.ensures.first refl refl c.no_lines.ensures whole plain strict;
}
