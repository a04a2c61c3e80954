use Rattle.std.proofs.Common.{◌∙◌, sym, ap}
use Rattle.un_prop.specs.ChoiceLaws.{passes_within, passes_past}
use Rattle.un_prec.specs.Reads.{is_late}
use Rattle.un_prec.proofs.reads.is_late_at.Goals as goal

pub returns-then-i-alts : goal.returns-then-i-alts
returns-then-i-alts c =
    let p = is_late c.args.t c.args.fixed.now in
    let a = c.index-alts-i.result in
    c.is_late.ensures ∙ (ap p c.index-alts-i.is ∙ sym (passes_within p c.args.alts.now c.args.i a c.if-i-alts.true))

pub returns-else-i-alts : goal.returns-else-i-alts
returns-else-i-alts c = sym (passes_past (is_late c.args.t c.args.fixed.now) c.args.alts.now c.args.i c.if-i-alts.false)
