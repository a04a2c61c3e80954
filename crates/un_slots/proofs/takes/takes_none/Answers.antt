use Rattle.std.proofs.Common.{ℕ, ◌∙◌, nat_eq, sym, ap}
use Rattle.un_slots.specs.SlotLaws.{share_within, share_past}
use Rattle.un_slots.proofs.takes.takes_none.Goals as goal

pub returns-then-n-uses : goal.returns-then-n-uses
returns-then-n-uses c = ap (λ (m : ℕ). nat_eq m 0) (c.share.ensures ∙ sym (share_within c.args.r c.args.uses.now c.args.n
    (record { mem = 0; store = 0; xc = 0; control = 0 }) c.if-n-uses.true))

pub returns-else-n-uses : goal.returns-else-n-uses
returns-else-n-uses c = sym (ap (λ (m : ℕ). nat_eq m 0) (share_past c.args.r c.args.uses.now c.args.n c.if-n-uses.false))
