use Rattle.std.proofs.Common.{◌∙◌, sym, ap, subst}
use Rattle.un_prop.specs.ChoiceLaws.{passes_within, passes_past}
use Rattle.un_prec.specs.declared.reads.ReadAlt.{ReadAlt}
use Rattle.un_prec.specs.Reads.{may_be_late, ReadAltVars}
use Rattle.un_prec.proofs.reads.first_at.Goals as goal

pub first_late-requires-clause-vars : goal.first_late-requires-clause-vars
first_late-requires-clause-vars c = subst (λ (a : ReadAlt). ReadAltVars c.args.w.now.vars.now a) (sym c.index-alts-i.is)
    (c.requires.vars c.args.i c.index-alts-i.result c.if-i-alts.true)

pub returns-then-i-alts : goal.returns-then-i-alts
returns-then-i-alts c t =
    let p = may_be_late c.args.w.now.store.now.sets t in
    let a = c.index-alts-i.result in
    c.first_late.ensures t ∙ (ap p c.index-alts-i.is ∙ sym (passes_within p c.args.alts.now c.args.i a c.if-i-alts.true))

pub returns-else-i-alts : goal.returns-else-i-alts
returns-else-i-alts c t = sym (passes_past (may_be_late c.args.w.now.store.now.sets t) c.args.alts.now c.args.i c.if-i-alts.false)
