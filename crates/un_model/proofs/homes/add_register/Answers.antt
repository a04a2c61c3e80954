use Rattle.un_model.proofs.HomeMarks.{added, with_register}
use Rattle.un_model.proofs.homes.add_register.Goals as goal

pub returns-in-Ok : goal.returns-in-Ok
returns-in-Ok c = λ y r le. added c.args.homes.now c.insert-2.new.self c.args.x y c.args.r r c.home_at-registers.result _
    c.home_at-registers.ensures c.in-Ok.ensures.updates
    (with_register c.home_at-registers.result _ c.args.r r c.requires c.insert.ensures le)
