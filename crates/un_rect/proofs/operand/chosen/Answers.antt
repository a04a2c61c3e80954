use Rattle.std.proofs.Common.{ℕ, ◌∙◌, Bool, ◌&&◌, get_or, sym, ap}
use Rattle.un_base.specs.declared.ids.VarId.{VarId}
use Rattle.un_domains.specs.Sets.{has}
use Rattle.un_prop.specs.Choices.{passes_at}
use Rattle.un_prop.specs.ChoiceLaws.{passes_within, passes_past}
use Rattle.un_rect.specs.Sides.{side_of}
use Rattle.un_rect.proofs.operand.chosen.Goals as goal

pub returns-then-i-o : goal.returns-then-i-o
returns-then-i-o c p =
    let a = side_of c.args.o.now in
    let x = c.args.fixed.now in
    let t = λ (v : VarId). has a.allowed (get_or x v.0 0) && p (get_or x v.0 0) in
    ap (passes_at t a.regs) (sym c.value-i.ensures) ∙ passes_past t a.regs c.value-i.result c.if-i-o.true

pub returns-then-is_in : goal.returns-then-is_in
returns-then-is_in c p =
    let a = side_of c.args.o.now in
    let x = c.args.fixed.now in
    let t = λ (v : VarId). has a.allowed (get_or x v.0 0) && p (get_or x v.0 0) in
    let d : VarId = record { 0 = 0 } in
    let v = get_or a.regs c.value-i.result d in
    let r = c.value-r.result in
    ap (passes_at t a.regs) (sym c.value-i.ensures)
    ∙ (passes_within t a.regs c.value-i.result d c.if-i-o.false
    ∙ (ap (λ (n : ℕ). has a.allowed n && p n) (sym c.value-r.ensures)
    ∙ ap (λ (b : Bool). b && p r) (sym c.is_in.ensures ∙ c.if-is_in.true)))

pub returns-else-is_in : goal.returns-else-is_in
returns-else-is_in c p =
    let a = side_of c.args.o.now in
    let x = c.args.fixed.now in
    let t = λ (v : VarId). has a.allowed (get_or x v.0 0) && p (get_or x v.0 0) in
    let d : VarId = record { 0 = 0 } in
    let r = c.value-r.result in
    ap (passes_at t a.regs) (sym c.value-i.ensures)
    ∙ (passes_within t a.regs c.value-i.result d c.if-i-o.false
    ∙ (ap (λ (n : ℕ). has a.allowed n && p n) (sym c.value-r.ensures)
    ∙ ap (λ (b : Bool). b && p r) (sym c.is_in.ensures ∙ c.if-is_in.false)))
