use Rattle.std.proofs.Common.{ℕ, ◌∙◌, sym, ap, Some}
use Rattle.un_alt.specs.Registers.{value_at}
use Rattle.un_alt.specs.RegisterLaws.{value_within, value_past}
use Rattle.un_alt.proofs.registers.chosen.Goals as goal

pub returns-then-i-regs : goal.returns-then-i-regs
returns-then-i-regs c = ap (λ (n : ℕ). Some n) c.value.ensures ∙ (sym
    (value_within c.args.regs.now c.place-i.result c.args.fixed.now (record { 0 = 0 }) c.if-i-regs.true)
    ∙ ap (λ (i : ℕ). value_at c.args.regs.now i c.args.fixed.now) c.place-i.ensures)

pub returns-else-i-regs : goal.returns-else-i-regs
returns-else-i-regs c = sym (value_past c.args.regs.now c.place-i.result c.args.fixed.now c.if-i-regs.false)
    ∙ ap (λ (i : ℕ). value_at c.args.regs.now i c.args.fixed.now) c.place-i.ensures
