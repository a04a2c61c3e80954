use Rattle.un_model.proofs.HomeMarks.{added, with_truth}
use Rattle.un_model.proofs.homes.add_truth.Goals as goal

pub returns-in-Ok : goal.returns-in-Ok
returns-in-Ok c = λ y r le. added c.args.homes.now c.insert.new.self c.args.x y 32 r c.home_at-registers.result _
    c.home_at-registers.ensures c.in-Ok.ensures.updates (with_truth c.home_at-registers.result r)
