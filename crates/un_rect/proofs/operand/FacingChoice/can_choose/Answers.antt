use Rattle.std.proofs.Common.{◌∙◌, sym}
use Rattle.un_prop.specs.ChoiceLaws.{passes_within, passes_past}
use Rattle.un_rect.specs.Operands.{may_be}
use Rattle.un_rect.specs.Sides.{side_of}
use Rattle.un_rect.proofs.operand.FacingChoice.can_choose.Goals as goal

pub returns-then-i-self : goal.returns-then-i-self
returns-then-i-self c =
    let p = c.args.self.now in
    c.may_be.ensures ∙ sym (passes_within (may_be (side_of p.one) (side_of p.other) c.args.w.now.store.now.sets) p.one.regs.now c.args.i
    (record { 0 = 0 }) c.if-i-self.true)

pub returns-else-i-self : goal.returns-else-i-self
returns-else-i-self c =
    let p = c.args.self.now in
    sym (passes_past (may_be (side_of p.one) (side_of p.other) c.args.w.now.store.now.sets) p.one.regs.now c.args.i c.if-i-self.false)
