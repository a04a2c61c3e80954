use Rattle.un_prop.specs.AmongLaws.{has_among}
use Rattle.un_rect.proofs.OrderSteps.{choice_in}
use Rattle.un_rect.proofs.spans.may_choose.Goals as goal

pub has-requires : goal.has-requires
has-requires c = has_among c.args.w.now.vars.now c.in-Some.v c.args.w.now.store.now.sets
    (choice_in c.args.w.now.vars.now c.in-Some.v c.args.choice c.in-Some.is c.requires.vars) c.requires.known
