use Rattle.std.proofs.Common.{◌-◌, ◌+◌, length, refl, ap, ◌∙◌, subst}
use Rattle.std.proofs.lemmas.Option.{slice_get_read}
use Rattle.un_ir.specs.Live.{targets_of}
use Rattle.un_ir.specs.Source.{enter}
use Rattle.un_source.specs.declared.blocks.Left.{Left}
use Rattle.un_source.specs.States.{state_of, led, LeadsTo}
use Rattle.un_source.proofs.Steps.{run_step}
use Rattle.un_source.proofs.blocks.run_blocks.Goals as goal

pub pass-requires-clause-ops : goal.pass-requires-clause-ops
pass-requires-clause-ops c =
    let block = c.index-blocks-b.result in
    let here = slice_get_read c.args.blocks.now (length c.args.blocks.now) c.loop-i.b block refl c.loop-i.invariant.place
    c.index-blocks-b.is in
    c.requires.ops c.loop-i.b block here

pub returns-in-Ended : goal.returns-in-Ended
returns-in-Ended c =
    let blocks = c.args.blocks.now in
    let l = c.loop-i in
    let old = state_of c.args.replies.now l.s in
    let new = state_of c.args.replies.now c.pass.new.s in
    let block = c.index-blocks-b.result in
    let here = slice_get_read blocks (length blocks) l.b block refl l.invariant.place c.index-blocks-b.is in
    let step = run_step blocks c.args.n l.i l.b old new block c.in_ok-next.field-0 c.loop-i-test.true here c.in_ok-next.ensures.led in
    record { inside = tt; run = l.invariant.run ∙ step ∙ ap (λ (x : Left). led x new (enter blocks (c.args.n - (l.i + 1)))) c.in-Ended.is }

pub loop-i-preserved : goal.loop-i-preserved
loop-i-preserved c =
    let blocks = c.args.blocks.now in
    let l = c.loop-i in
    let old = state_of c.args.replies.now l.s in
    let new = state_of c.args.replies.now c.pass.new.s in
    let block = c.index-blocks-b.result in
    let here = slice_get_read blocks (length blocks) l.b block refl l.invariant.place c.index-blocks-b.is in
    let step = run_step blocks c.args.n l.i l.b old new block c.in_ok-next.field-0 c.loop-i-test.true here c.in_ok-next.ensures.led in
    record {
      place = c.requires.leads l.b block c.in-To.next here (subst (LeadsTo (targets_of l.b block.term)) c.in-To.is
          c.in_ok-next.ensures.inside);
      run = l.invariant.run ∙ step ∙ ap (λ (x : Left). led x new (enter blocks (c.args.n - (l.i + 1)))) c.in-To.is;
    }
