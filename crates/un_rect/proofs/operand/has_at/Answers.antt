use Rattle.std.proofs.Common.{◌∙◌, sym}
use Rattle.un_base.specs.declared.ids.VarId.{VarId}
use Rattle.un_domains.specs.Sets.{set_at, has}
use Rattle.un_prop.specs.AmongLaws.{has_among}
use Rattle.un_prop.specs.ChoiceLaws.{passes_within, passes_past}
use Rattle.un_rect.proofs.operand.has_at.Goals as goal

pub has-requires : goal.has-requires
has-requires c = has_among c.args.w.now.vars.now _ c.args.w.now.store.now.sets
    (c.requires.vars c.args.i (record { 0 = 0 }) c.if-i-regs.true) c.requires.known

pub returns-then-i-regs : goal.returns-then-i-regs
returns-then-i-regs c = c.has.ensures ∙ sym (passes_within (λ (v : VarId). has (set_at c.args.w.now.store.now.sets v.0) c.args.r)
    c.args.regs.now c.args.i (record { 0 = 0 }) c.if-i-regs.true)

pub returns-else-i-regs : goal.returns-else-i-regs
returns-else-i-regs c = sym (passes_past (λ (v : VarId). has (set_at c.args.w.now.store.now.sets v.0) c.args.r) c.args.regs.now c.args.i
    c.if-i-regs.false)
