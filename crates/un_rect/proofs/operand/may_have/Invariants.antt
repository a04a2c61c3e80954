-- no place below i has the register
use Rattle.std.proofs.Common.{◌≡◌, false}
use Rattle.un_base.specs.declared.ids.VarId.{VarId}
use Rattle.un_domains.specs.Sets.{set_at, has}
use Rattle.un_prop.specs.Choices.{passes_at}
use Rattle.un_prop.specs.Somewhere.{any_before}
use Rattle.un_rect.proofs.operand.may_have.Given as goal

abbrev pub invariant-loop-i : goal.invariant-loop-i
invariant-loop-i l = any_before (passes_at (λ (v : VarId). has (set_at l.w.store.now.sets v.0) l.r) l.o.regs.now)
    (set_at l.w.store.now.sets l.o.choice.0) l.i ≡ false
