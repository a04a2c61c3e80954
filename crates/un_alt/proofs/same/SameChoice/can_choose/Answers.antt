use Rattle.std.proofs.Common.{sym, arith}
use Rattle.un_base.specs.declared.ids.VarId.{VarId}
use Rattle.un_domains.specs.Sets.{set_at, has}
use Rattle.std.specs.List.{list_any}
use Rattle.un_prop.specs.AmongLaws.{has_among}
use Rattle.un_prop.specs.ChoiceLaws.{passes_past}
use Rattle.un_alt.proofs.Entries.{known_at, entry_at}
use Rattle.un_alt.proofs.same.SameChoice.can_choose.Goals as goal

pub meet-requires-clause-there : goal.meet-requires-clause-there
meet-requires-clause-there c =
    let p = c.args.self.now in
    known_at p.vars p.regs c.as_slice.result.now c.args.i (record { 0 = 0 }) c.args.w.now.store.now.sets c.as_slice.ensures
    (omega (arith, c.if-i-len.true, c.len.ensures)) p.among.of_regs c.requires.known

pub returns-then-i-len : goal.returns-then-i-len
returns-then-i-len c =
    let p = c.args.self.now in
    let s = c.args.w.now.store.now.sets in
    entry_at (λ (v : VarId). list_any (has (set_at s p.to.0)) (set_at s v.0)) p.regs c.as_slice.result.now c.args.i (record { 0 = 0 })
    c.meet.result c.as_slice.ensures (omega (arith, c.if-i-len.true, c.len.ensures)) c.meet.ensures

pub returns-else-i-len : goal.returns-else-i-len
returns-else-i-len c =
    let p = c.args.self.now in
    let s = c.args.w.now.store.now.sets in
    sym (passes_past (λ (v : VarId). list_any (has (set_at s p.to.0)) (set_at s v.0)) p.regs c.args.i
    (omega (arith, c.if-i-len.false, c.len.ensures)))

pub meet-requires-clause-to : goal.meet-requires-clause-to
meet-requires-clause-to c = let p = c.args.self.now in has_among p.vars p.to c.args.w.now.store.now.sets p.among.of_to c.requires.known
