use Rattle.std.proofs.Common.{sym, arith}
use Rattle.un_base.specs.declared.ids.VarId.{VarId}
use Rattle.un_domains.specs.Sets.{set_at, has}
use Rattle.un_prop.specs.ChoiceLaws.{passes_past}
use Rattle.un_alt.proofs.Entries.{known_at, entry_at}
use Rattle.un_alt.proofs.home.HomeChoice.can_choose.Goals as goal

pub has-requires : goal.has-requires
has-requires c =
    let p = c.args.self.now in
    known_at p.vars p.regs c.as_slice.result.now c.args.i (record { 0 = 0 }) c.args.w.now.store.now.sets c.as_slice.ensures
    (omega (arith, c.if-i-len.true, c.len.ensures)) p.among.of_regs c.requires.known

pub returns-then-i-len : goal.returns-then-i-len
returns-then-i-len c =
    let p = c.args.self.now in
    let s = c.args.w.now.store.now.sets in
    entry_at (λ (v : VarId). has (set_at s v.0) p.home.0) p.regs c.as_slice.result.now c.args.i (record { 0 = 0 }) c.has.result
    c.as_slice.ensures (omega (arith, c.if-i-len.true, c.len.ensures)) c.has.ensures

pub returns-else-i-len : goal.returns-else-i-len
returns-else-i-len c =
    let p = c.args.self.now in
    let s = c.args.w.now.store.now.sets in
    sym (passes_past (λ (v : VarId). has (set_at s v.0) p.home.0) p.regs c.args.i (omega (arith, c.if-i-len.false, c.len.ensures)))
