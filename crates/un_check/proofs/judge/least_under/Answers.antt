use Rattle.un_model.specs.Boxes.{root_of}
use Rattle.un_walk.proofs.StandLemmas.{cuts_box}
use Rattle.un_check.proofs.JudgeLemmas.{at_cuts, least_is}
use Rattle.un_check.specs.Judging.{IsLeastUnder}
use Rattle.un_domains.specs.Sets.{Sets}
use Rattle.un_check.proofs.judge.least_under.Goals as goal

pub relaxed-answer-requires-clause-long : goal.relaxed-answer-requires-clause-long
relaxed-answer-requires-clause-long c =
    let g = c.args.rules.now in (cuts_box (root_of g.m.now) c.args.room.now.stand c.requires.at.room.stand).0.long

pub relaxed-answer-requires-clause-live : goal.relaxed-answer-requires-clause-live
relaxed-answer-requires-clause-live c =
    let g = c.args.rules.now in (cuts_box (root_of g.m.now) c.args.room.now.stand c.requires.at.room.stand).1

pub returns-clause-least : goal.returns-clause-least
returns-clause-least c =
    let g = c.args.rules.now in
    at_cuts g.m.now g.limit c.args.room.now c.requires.at (λ (b : Sets). IsLeastUnder g.m.now g.limit b c.under.result)
    (least_is g.m.now g.limit c.args.room.now.stand.cuts.sets c.relaxed-answer.result c.under.result c.relaxed-answer.ensures.answer c.under.ensures)
