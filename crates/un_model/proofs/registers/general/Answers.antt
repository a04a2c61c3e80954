use Rattle.std.proofs.Common.{ap, ◌∙◌}
use Rattle.un_model.specs.declared.homes.Home.{Home}
use Rattle.un_model.proofs.HomeMarks.{general_are}
use Rattle.un_model.proofs.registers.general.Goals as goal

pub returns : goal.returns
returns c =
    let s = c.args.scope.now in
    let e = general_are s.ext.now s.options.now.regs s.is_entry s.block.now c.args.x s.homes.now c.home_at.result.registers (ap (λ (h : Home). h.registers) c.home_at.ensures)
    c.requires.homes_are in
    c.from_vec.ensures ∙ c.in_ok-registers.ensures ∙ e
