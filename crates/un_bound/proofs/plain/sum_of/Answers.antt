use Rattle.std.proofs.Common.{◌≡◌, List, Some, ap, sym, ◌∙◌, arith}
use Rattle.std.specs.Prelude.{slice_get}
use Rattle.un_model.specs.declared.model.Arc.{Arc}
use Rattle.un_model.specs.Extended.{IsRarelyRun}
use Rattle.un_bound.specs.Arcs.{IsShort}
use Rattle.un_bound.specs.Plain.{IsPlainBound}
use Rattle.un_bound.proofs.Sums.{lead_here, sum_more, sum_all, block_at, few_cycles}
use Rattle.un_bound.proofs.plain.sum_of.Goals as goal

pub block_bound-packets-requires-clause-arcs : goal.block_bound-packets-requires-clause-arcs
block_bound-packets-requires-clause-arcs c =
    let is : slice_get c.args.m.now.arcs c.loop-k.k ≡ Some c.as_slice.result.now =
    c.get.ensures ∙ ap (λ (x : List Arc). Some x) (sym c.as_slice.ensures) in
    (lead_here c.loop-k.first c.loop-k.k c.args.m.now.ext.blocks c.args.m.now.arcs c.get-block.result.now c.as_slice.result.now
    c.get-block.ensures is c.loop-k.invariant.lead).0

pub overflow_add-first : goal.overflow_add-first
overflow_add-first c =
    let short = block_at IsShort c.args.m.now.ext.blocks c.loop-k.k c.get-block.result.now c.get-block.ensures c.requires.short in
    omega (arith, short, c.requires.orderly.counts.blocks)

pub loop-k-preserved : goal.loop-k-preserved
loop-k-preserved c =
    let m = c.args.m.now in
    let k = c.loop-k.k in
    let block = c.get-block.result.now in
    let here = c.as_slice.result.now in
    let packets = c.block_bound-packets.result in
    let is : slice_get m.arcs k ≡ Some here = c.get.ensures ∙ ap (λ (x : List Arc). Some x) (sym c.as_slice.ensures) in
    let short = block_at IsShort m.ext.blocks k block c.get-block.ensures c.requires.short in
    let rare = block_at IsRarelyRun m.ext.blocks k block c.get-block.ensures c.requires.orderly.counts.frequencies in
    let few = few_cycles c.from.result packets (omega (arith, rare, c.from.ensures)) c.block_bound-packets.ensures.few in
    let lead = (lead_here c.loop-k.first k m.ext.blocks m.arcs block here c.get-block.ensures is c.loop-k.invariant.lead).1 in
    let more = sum_more c.loop-k.first k m.ext.blocks m.arcs block here (IsPlainBound m) c.loop-k.sum packets
    c.get-block.ensures is c.block_bound-packets.ensures.value c.loop-k.invariant.plain in
    record {
      plain = rw (c.len-first.ensures, c.from.ensures) more;
      lead = rw c.len-first.ensures lead;
      first = omega (arith, short, c.loop-k.invariant.first, c.len-first.ensures);
      sum = omega (arith, few, c.loop-k.invariant.sum);
    }

pub returns : goal.returns
returns c =
    let m = c.args.m.now in
    sum_all c.loop-k.first c.loop-k.k m.ext.blocks m.arcs (IsPlainBound m) c.loop-k.sum c.loop-k.invariant.plain
    (omega (arith, c.min-k-end.ensures, c.len.ensures, c.len-2.ensures, c.loop-k-test.false))
