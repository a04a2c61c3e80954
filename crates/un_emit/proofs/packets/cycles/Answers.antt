use Rattle.std.proofs.Common.{◌∙◌, ◌-◌, ap, length, arith}
use Rattle.un_emit.proofs.BodyPackets.{length-own, none_yet, one_more, all_issued}
use Rattle.un_emit.proofs.packets.cycles.Goals as goal

pub get-op-requires : goal.get-op-requires
get-op-requires c =
    let (b, n, are) = c.requires.issues in
    let own = length-own c.args.m.now c.args.values.now c.args.block.now c.args.vars.now b n in
    let long = ap length are in
    omega arith

pub get-requires : goal.get-requires
get-requires c =
    let (b, n, are) = c.requires.issues in
    let own = length-own c.args.m.now c.args.values.now c.args.block.now c.args.vars.now b n in
    let long = ap length are in
    omega arith

pub loop-k-init : goal.loop-k-init
loop-k-init c =
    none_yet c.args.m.now c.args.values.now c.args.block.now c.args.vars.now c.saturating_sub.result c.in_ok-cycles.cycles.items
    (c.saturating_sub.ensures ∙ ap (λ n. n - 1) c.value.ensures) c.in_ok-cycles.ensures

pub loop-k-preserved : goal.loop-k-preserved
loop-k-preserved c =
    let (b, n, are) = c.requires.issues in
    one_more c.args.m.now c.args.values.now c.args.block.now c.args.vars.now b n c.loop-k.k c.args.issues.now _ c.get-op.result.now
    c.get.result.now c.in_ok-i.i are c.get-op.ensures c.get.ensures c.in_ok-i.ensures c.loop-k.cycles.items
    c.push_issued.new.cycles.items c.in_ok-push_issued.ensures c.loop-k.invariant

pub returns : goal.returns
returns c =
    let (b, n, are) = c.requires.issues in
    let own = length-own c.args.m.now c.args.values.now c.args.block.now c.args.vars.now b n in
    let long = ap length are in
    c.loop-k.invariant ∙ all_issued c.args.m.now c.args.values.now c.args.block.now c.args.vars.now c.loop-k.k (omega arith)
