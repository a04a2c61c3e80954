-- One more, and at the end all.
use Rattle.std.proofs.Common.{rules, ◌≡◌, true, take, refl, sym, arith}
use Rattle.std.proofs.lemmas.List.{take_all}
use Rattle.std.proofs.lemmas.List.Elements.{All-more, All-same}
use Rattle.un_listing_reader.proofs.Formed.{IsGeneral}
use Rattle.un_listing_reader.proofs.forms.are_general.Goals as goal

pub loop-reg-preserved : goal.loop-reg-preserved
loop-reg-preserved c =
    let passed : c.is_in.result ≡ true = search rules in
    let here = c.is_in.ensures.0 passed in
    All-more IsGeneral c.args.regs.now c.loop-reg.reg-index _ (omega arith) c.loop-reg.invariant here

pub returns : goal.returns
returns c = (
  λ h. All-same IsGeneral c.args.regs.now (take c.loop-reg.reg-index c.args.regs.now)
      (sym (take_all c.loop-reg.reg-index c.args.regs.now (omega arith))) c.loop-reg.invariant,
  λ h. refl,
)
