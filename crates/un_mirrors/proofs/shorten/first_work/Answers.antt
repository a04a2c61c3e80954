use Rattle.std.proofs.Common.{true, refl, sym, subst}
use Rattle.un_domains.specs.Sets.{Sets, NoneEmpty}
use Rattle.un_walk.specs.Stands.{IsStandAt}
use Rattle.un_mirrors.proofs.Neighbours.{root_full}
use Rattle.un_mirrors.proofs.WorkLemmas.{first_is}
use Rattle.un_mirrors.proofs.shorten.first_work.Goals as goal

pub first_stand-requires-clause-full : goal.first_stand-requires-clause-full
first_stand-requires-clause-full c = subst NoneEmpty (sym c.in_ok-cuts.ensures.sets) (root_full c.args.m.now c.requires.domains)

pub returns : goal.returns
returns c =
    first_is c.args.m.now c.args.nodes.now (record { stand = c.first_stand.result; more = true; place = 0; nodes = c.new.result })
    c.requires.tree (subst (λ (b : Sets). IsStandAt b c.first_stand.result) c.in_ok-cuts.ensures.sets c.first_stand.ensures.at)
    c.first_stand.ensures.first refl refl c.new.ensures.items
