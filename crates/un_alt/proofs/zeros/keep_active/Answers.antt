use Rattle.std.proofs.Common.{List, ◌∙◌, sym, ap, subst}
use Rattle.un_base.specs.declared.ids.VarId.{VarId}
use Rattle.un_prop.specs.AmongLaws.{has_among}
use Rattle.un_prop.specs.LookLaws.{known_of}
use Rattle.un_prop.specs.Rounds.{HasVars}
use Rattle.un_alt.specs.Zeros.{some_live}
use Rattle.un_alt.proofs.zeros.keep_active.Goals as goal

pub some_live-active-requires : goal.some_live-active-requires
some_live-active-requires c =
    let p = c.args.p.now in
    let s = c.args.w.now.store.now.sets in
    subst (λ (us : List VarId). HasVars us s) (sym c.as_slice.ensures) (known_of p.vars p.others s p.among.of_others c.requires.known)

pub drop_when-requires-clause-there : goal.drop_when-requires-clause-there
drop_when-requires-clause-there c = let p = c.args.p.now in has_among p.vars p.instr c.args.w.now.store.now.sets p.among.of_instr
    c.requires.known

pub returns-clause-step : goal.returns-clause-step
returns-clause-step c =
    let p = c.args.p.now in
    let s = c.args.w.now.store.now.sets in
    c.drop_when.ensures.step (some_live p.others)
    (λ going. c.some_live-active.ensures ∙ ap (λ (us : List VarId). some_live us s) c.as_slice.ensures)
