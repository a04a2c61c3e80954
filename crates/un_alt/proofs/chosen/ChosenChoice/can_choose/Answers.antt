use Rattle.std.proofs.Common.{List, get_or, sym, subst, arith}
use Rattle.un_prop.specs.Acts.{act_vars}
use Rattle.un_prop.specs.ChoiceLaws.{passes_past}
use Rattle.un_prop.specs.LookLaws.{known_of}
use Rattle.un_prop.specs.Rounds.{HasVars}
use Rattle.un_prop.specs.declared.act.Act.{Act}
use Rattle.un_prop.specs.declared.act.Act.TheVariants.{Always}
use Rattle.un_alt.specs.Chosen.{may_be_active}
use Rattle.un_alt.proofs.Entries.{entry_at}
use Rattle.un_alt.proofs.chosen.ChosenChoice.can_choose.Goals as goal

pub may_be_active-requires-clause-known : goal.may_be_active-requires-clause-known
may_be_active-requires-clause-known c =
    let p = c.args.self.now in
    let i = c.args.i in
    let s = c.args.w.now.store.now.sets in
    subst (λ (xs : List Act). HasVars (act_vars (get_or xs i Always)) s) (sym c.as_slice.ensures)
    (known_of p.vars (act_vars (get_or p.alts i Always)) s (p.among.of_alts i Always (omega (arith, c.if-i-len.true, c.len.ensures)))
    c.requires.known)

pub returns-then-i-len : goal.returns-then-i-len
returns-then-i-len c =
    let p = c.args.self.now in
    entry_at (may_be_active c.args.w.now.store.now.sets) p.alts c.as_slice.result.now c.args.i Always c.may_be_active.result
    c.as_slice.ensures (omega (arith, c.if-i-len.true, c.len.ensures)) c.may_be_active.ensures

pub returns-else-i-len : goal.returns-else-i-len
returns-else-i-len c = sym (passes_past (may_be_active c.args.w.now.store.now.sets) c.args.self.now.alts c.args.i
    (omega (arith, c.if-i-len.false, c.len.ensures)))
