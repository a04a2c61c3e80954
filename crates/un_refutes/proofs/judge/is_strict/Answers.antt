use Rattle.un_model.specs.Boxes.{root_of}
use Rattle.un_walk.proofs.StandLemmas.{cuts_box}
use Rattle.un_refutes.proofs.JudgeLemmas.{strict_tells}
use Rattle.un_refutes.proofs.judge.is_strict.Goals as goal

pub splits-requires : goal.splits-requires
splits-requires c = let g = c.args.rules.now in (cuts_box (root_of g.m.now) c.args.room.now.stand c.requires.at.room.stand).1

pub returns : goal.returns
returns c = let g = c.args.rules.now in
    strict_tells g.m.now g.limit c.args.room.now c.requires.at c.args.var c.args.val c.splits.result c.splits.ensures.both
    c.splits.ensures.one
