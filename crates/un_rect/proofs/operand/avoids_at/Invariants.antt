-- the registers so far are not such ones
use Rattle.std.proofs.Common.{◌≡◌, ◌&&◌, not, nat_eq, drop}
use Rattle.std.specs.List.{list_any}
use Rattle.un_base.specs.declared.ids.VarId.{VarId}
use Rattle.un_domains.specs.Sets.{set_at, has}
use Rattle.un_prop.specs.Choices.{passes_at}
use Rattle.un_rect.proofs.operand.avoids_at.Given as goal

abbrev pub invariant-loop-q : goal.invariant-loop-q
invariant-loop-q l =
    list_any (λ q. not (nat_eq q l.r) && passes_at (λ (v : VarId). has (set_at l.w.store.now.sets v.0) q) l.o.regs.now l.i)
    (drop l.q-index l.q-items)
    ≡ list_any (λ q. not (nat_eq q l.r) && passes_at (λ (v : VarId). has (set_at l.w.store.now.sets v.0) q) l.o.regs.now l.i) l.q-items
