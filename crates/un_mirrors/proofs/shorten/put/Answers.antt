use Rattle.std.proofs.Common.{[]}
use Rattle.un_model.specs.Boxes.{root_of}
use Rattle.un_walk.specs.Turns.{paths_behind}
use Rattle.un_mirrors.proofs.WorkLemmas.{waits_here, work_put}
use Rattle.un_mirrors.proofs.shorten.put.Goals as goal

pub tree_end-work-requires : goal.tree_end-work-requires
tree_end-work-requires c = record {
  path = c.args.work.now.stand.path.items;
  behind = paths_behind [] c.args.work.now.stand.path.items;
  whole = waits_here c.args.m.now c.args.nodes.now c.args.work.now c.args.work.now c.requires.work c.requires.more;
}

pub step-requires-clause-at : goal.step-requires-clause-at
step-requires-clause-at c = record { root = root_of c.args.m.now; at = c.requires.work.at }

pub returns-clause-work : goal.returns-clause-work
returns-clause-work c =
    work_put c.args.m.now c.args.nodes.now c.args.work.now
    (record { stand = c.step.new.stand; more = c.in_ok-work.field-0; place = c.tree_end-work.result; nodes = c.push.new.nodes })
    c.requires.work c.requires.more c.args.mirror c.requires.mirror c.tree_end-work.ensures.tree c.in_ok-work.ensures.waits
    c.in_ok-push.ensures (c.in_ok-work.ensures.at (root_of c.args.m.now) c.requires.work.at) c.tree_end-work.ensures.within c.requires.fits
