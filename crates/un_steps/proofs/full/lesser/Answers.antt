use Rattle.std.proofs.Common.{ℕ, ◌≡◌, ◌+◌, true, sym, ap, ◌∙◌, subst}
use Rattle.std.specs.Prelude.{Some}
use Rattle.un_domains.specs.Sets.{has}
use Rattle.un_model.specs.Solutions.{share_of}
use Rattle.un_steps.specs.Found.{operation_of}
use Rattle.un_steps.specs.Full.{less, IsLeastTo}
use Rattle.un_steps.specs.Rules.{share_with}
use Rattle.un_steps.specs.Words.{instrs}
use Rattle.un_steps.proofs.Shares.{one_left}
use Rattle.un_steps.proofs.full.lesser.Goals as goal

pub returns-clause-least : goal.returns-clause-least
returns-clause-least c = λ h.
    let m = c.args.m.now in let ext = m.ext in
    let p = operation_of c.args.p.now in
    let f = share_with m c.args.r p in
    let xs = instrs c.args.s.now.sets p in
    let left : has xs c.args.i ≡ true = cc (c.has_instr.ensures, c.if-not-has_instr.false) in
    let is : c.less.result ≡ less c.args.known (f c.args.i) =
    c.less.ensures ∙ ap (less c.args.known) (c.share.ensures.value ∙ ap (share_of ext.table c.args.r) c.instruction.ensures) in
    subst (λ (k : ℕ). IsLeastTo f xs (c.args.i + 1) (Some k)) (sym is) (one_left f xs c.args.i c.args.known left h)
