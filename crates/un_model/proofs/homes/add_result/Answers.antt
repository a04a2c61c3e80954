use Rattle.un_model.proofs.HomeMarks.{adds_both}
use Rattle.un_model.proofs.homes.add_result.Goals as goal

pub returns : goal.returns
returns c = adds_both c.args.x c.args.truth c.args.home c.args.homes.now c.add_kind.new.homes c.add_own_home.new.homes
    c.in_ok-add_kind.ensures c.in_ok-add_own_home.ensures
