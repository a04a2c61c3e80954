use Rattle.std.proofs.Common.{◌++◌, ◌∙◌, codes, get_or, ap, refl, append_assoc}
use Rattle.std.specs.List.{flat_map}
use Rattle.un_ir.proofs.TextLoops.{text_step}
use Rattle.un_listing.specs.Listing.{reg_text}
use Rattle.un_listing.proofs.pieces.put_more_regs.Goals as goal

pub loop-reg-preserved : goal.loop-reg-preserved
loop-reg-preserved c =
    let reg = get_or c.args.regs.now c.loop-reg.reg-index (record { 0 = 0 }) in
    let more = c.in_ok-put_reg.ensures ∙ ap (λ out. out ++ reg_text reg) c.in_ok-put_text.ensures.ok
    ∙ append_assoc _ (codes ",") (reg_text reg) in
    text_step (λ rs. flat_map (λ r. codes "," ++ reg_text r) rs) (λ r. codes "," ++ reg_text r) (λ r rs. refl)
    _ _ _ c.args.regs.now c.loop-reg.reg-index (record { 0 = 0 }) reg c.loop-reg-test.true refl more c.loop-reg.invariant
