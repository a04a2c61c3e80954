use Rattle.std.proofs.Common.{sym, ◌∙◌, subst}
use Rattle.un_domains.specs.Sets.{NoneEmpty}
use Rattle.un_model.specs.Boxes.{root_of}
use Rattle.un_walk.proofs.StandLemmas.{cuts_box}
use Rattle.un_judge.proofs.Walkings.{some_marked}
use Rattle.un_logs.proofs.log.write_here.Goals as goal

pub mark-requires : goal.mark-requires
mark-requires c = (cuts_box (root_of c.args.r.now.m.now) c.args.walk.now.stand c.requires).1

pub undo-requires : goal.undo-requires
undo-requires c =
    some_marked c.args.walk.now.stand.cuts.marked _ c.args.walk.now.stand.cuts.sets (c.write_leaf.ensures.marked ∙ c.in_ok-mark.ensures.ok)

pub write_leaf-requires : goal.write_leaf-requires
write_leaf-requires c =
    subst NoneEmpty (sym c.mark.ensures.sets) (cuts_box (root_of c.args.r.now.m.now) c.args.walk.now.stand c.requires).1
