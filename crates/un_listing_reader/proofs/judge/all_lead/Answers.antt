-- One more leads to a label, and at the end all do.
use Rattle.std.proofs.Common.{rules, ◌≡◌, true, take, refl, sym, subst, arith}
use Rattle.std.proofs.lemmas.List.{take_all}
use Rattle.std.proofs.lemmas.List.Elements.{All-more, All-same}
use Rattle.un_isa.specs.declared.instr.Instr.{Instr}
use Rattle.un_packet.specs.CodeRules.{LeadsToOneOf}
use Rattle.un_listing_reader.proofs.judge.all_lead.Goals as goal

pub loop-i-preserved : goal.loop-i-preserved
loop-i-preserved c = λ all same.
    let passed : c.leads.result ≡ true = search rules in
    let here = (c.leads.ensures all same).0 passed in
    All-more (LeadsToOneOf all) c.args.instrs.now c.loop-i.i-index c.i-item.result (omega arith) (c.loop-i.invariant all same)
    (subst (λ (i : Instr). LeadsToOneOf all i) c.i-item.is here)

pub returns : goal.returns
returns c = λ all same. (
  λ h. All-same (LeadsToOneOf all) c.args.instrs.now (take c.loop-i.i-index c.args.instrs.now)
      (sym (take_all c.loop-i.i-index c.args.instrs.now (omega arith))) (c.loop-i.invariant all same),
  λ h. refl,
)
