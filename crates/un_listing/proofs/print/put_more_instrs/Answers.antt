use Rattle.std.proofs.Common.{◌++◌, ◌∙◌, codes, ap, refl, append_assoc}
use Rattle.std.specs.List.{flat_map}
use Rattle.un_ir.proofs.TextLoops.{text_step}
use Rattle.un_listing.specs.Listing.{instr_text}
use Rattle.un_listing.proofs.print.put_more_instrs.Goals as goal

pub loop-instr-preserved : goal.loop-instr-preserved
loop-instr-preserved c =
    let more = c.in_ok-put_instr.ensures ∙ ap (λ out. out ++ instr_text c.instr-item.result) c.in_ok-put_text.ensures.ok
    ∙ append_assoc _ (codes "; ") (instr_text c.instr-item.result) in
    text_step (λ is. flat_map (λ i. codes "; " ++ instr_text i) is) (λ i. codes "; " ++ instr_text i) (λ i is. refl)
    _ _ _ c.args.instrs.now c.loop-instr.instr-index c.instr-item.result c.instr-item.result c.loop-instr-test.true c.instr-item.is more
    c.loop-instr.invariant
