-- One more has its compare, and at the end all have.
use Rattle.std.proofs.Common.{rules, ◌≡◌, true, take, refl, sym, subst, arith}
use Rattle.std.proofs.lemmas.List.{take_all}
use Rattle.std.proofs.lemmas.List.Elements.{All-more, All-same}
use Rattle.un_isa.specs.declared.instr.Instr.{Instr}
use Rattle.un_packet.specs.CodeRules.{HasItsCompare}
use Rattle.un_listing_reader.proofs.rules.have_compares.Goals as goal

pub loop-i-preserved : goal.loop-i-preserved
loop-i-preserved c =
    let passed : c.has_its_compare.result ≡ true = search rules in
    let here = c.has_its_compare.ensures.0 passed in
    All-more (HasItsCompare c.args.instrs.now) c.args.instrs.now c.loop-i.i-index c.i-item.result (omega arith) c.loop-i.invariant
    (subst (λ (i : Instr). HasItsCompare c.args.instrs.now i) c.i-item.is here)

pub returns : goal.returns
returns c = (
  λ h. All-same (HasItsCompare c.args.instrs.now) c.args.instrs.now (take c.loop-i.i-index c.args.instrs.now)
      (sym (take_all c.loop-i.i-index c.args.instrs.now (omega arith))) c.loop-i.invariant,
  λ h. refl,
)
