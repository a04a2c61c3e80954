use Rattle.std.proofs.Common.{◌∙◌, get_or, sym, ap, arith}
use Rattle.un_prop.specs.Acts.{act_vars}
use Rattle.un_prop.specs.LookLaws.{known_of}
use Rattle.un_alt.specs.Spaces.{may_lie}
use Rattle.un_prop.specs.ChoiceLaws.{passes_past}
use Rattle.un_alt.proofs.Entries.{known_at, entry_at}
use Rattle.un_alt.proofs.spaces.SpacesChoice.can_choose.Goals as goal

pub may_lie-requires-clause-there : goal.may_lie-requires-clause-there
may_lie-requires-clause-there c =
    let p = c.args.self.now in
    known_at p.vars p.regs c.as_slice.result.now c.args.i (record { 0 = 0 }) c.args.w.now.store.now.sets c.as_slice.ensures
    (omega (arith, c.if-i-len.true, c.len.ensures)) p.among.of_regs c.requires.known

pub returns-then-i-len : goal.returns-then-i-len
returns-then-i-len c =
    let p = c.args.self.now in
    let s = c.args.w.now.store.now.sets in
    entry_at (may_lie p.on p.sets s) p.regs c.as_slice.result.now c.args.i (record { 0 = 0 }) c.may_lie.result c.as_slice.ensures
    (omega (arith, c.if-i-len.true, c.len.ensures))
    (c.may_lie.ensures ∙ ap (λ sets. may_lie p.on sets s (get_or c.as_slice.result.now c.args.i (record { 0 = 0 })))
    c.as_slice-then-i-len.ensures)

pub returns-else-i-len : goal.returns-else-i-len
returns-else-i-len c =
    let p = c.args.self.now in
    let s = c.args.w.now.store.now.sets in
    sym (passes_past (may_lie p.on p.sets s) p.regs c.args.i (omega (arith, c.if-i-len.false, c.len.ensures)))

pub may_lie-requires-clause-known : goal.may_lie-requires-clause-known
may_lie-requires-clause-known c = let p = c.args.self.now in known_of p.vars (act_vars p.on) c.args.w.now.store.now.sets p.among.of_on
    c.requires.known
