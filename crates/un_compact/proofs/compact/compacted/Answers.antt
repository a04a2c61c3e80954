use Rattle.std.proofs.Common.{◌≡◌, ◌∙◌, ◌<◌, ◌≤◌, List, length, get_or, subst}
use Rattle.un_model.specs.declared.model.BlockVars.{BlockVars}
use Rattle.un_compact.proofs.Retiming.{none_yet, block_more, all_done}
use Rattle.un_compact.proofs.compact.compacted.Goals as goal

pub loop-vars-init : goal.loop-vars-init
loop-vars-init c = c.in_ok-new.ensures ∙ none_yet c.as_slice-old.result.now 0

pub loop-vars-preserved : goal.loop-vars-preserved
loop-vars-preserved c =
    let i = c.loop-vars.vars-index in
    block_more c.as_slice-old.result.now c.loop-vars.new c.move_block.new.new c.args.m.now.blocks i c.vars-item.result
    (subst (λ (bs : List BlockVars). i < length bs) c.as_slice-vars-items.ensures c.loop-vars-test.true)
    (subst (λ (bs : List BlockVars). c.vars-item.result ≡ get_or bs i c.vars-item.result) c.as_slice-vars-items.ensures c.vars-item.is)
    c.loop-vars.invariant c.in_ok-move_block.ensures

pub returns : goal.returns
returns c =
    all_done c.args.m.now c.args.s.now c.as_slice-old.result.now c.loop-vars.new c.loop-vars.vars-index c.loop-vars.invariant
    (subst (λ (bs : List BlockVars). length bs ≤ c.loop-vars.vars-index) c.as_slice-vars-items.ensures c.loop-vars-test.false)
    c.as_slice-old.ensures
