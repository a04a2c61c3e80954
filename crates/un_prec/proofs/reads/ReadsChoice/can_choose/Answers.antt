use Rattle.std.proofs.Common.{List, All, sym, subst}
use Rattle.un_base.specs.declared.ids.VarId.{VarId}
use Rattle.un_prop.specs.Acts.{at_vars}
use Rattle.un_prop.specs.LookLaws.{known_of}
use Rattle.un_prec.specs.declared.reads.ReadAlt.{ReadAlt}
use Rattle.un_prec.specs.Reads.{ReadAltVars}
use Rattle.un_prec.proofs.reads.ReadsChoice.can_choose.Goals as goal

pub greatest_time-requires-clause-known : goal.greatest_time-requires-clause-known
greatest_time-requires-clause-known c = let p = c.args.self.now in known_of p.vars (at_vars p.user) c.args.w.now.store.now.sets
    p.among.of_user c.requires.known

pub first_at-requires-clause-vars : goal.first_at-requires-clause-vars
first_at-requires-clause-vars c =
    let p = c.args.self.now in
    subst (λ (alts : List ReadAlt). All (ReadAltVars c.args.w.now.vars.now) alts) (sym c.as_slice.ensures)
    (subst (λ (us : List VarId). All (ReadAltVars us) p.alts) (sym c.requires.vars) p.among.of_alts)
