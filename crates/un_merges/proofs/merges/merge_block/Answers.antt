use Rattle.std.proofs.Common.{◌≡◌, ℕ, ◌<◌, List, ap, ◌∙◌, arith}
use Rattle.un_model.specs.Cost.{value_of}
use Rattle.un_merges.proofs.Passes.{tried_found, tried_none, merged_smaller}
use Rattle.un_merges.proofs.merges.merge_block.Goals as goal

pub loop-t-preserved-then-branch : goal.loop-t-preserved-then-branch
loop-t-preserved-then-branch c =
    let vars = c.args.vars.now in
    let end : c.value.result ≡ value_of c.loop-t.s.values vars.end =
    c.value.ensures ∙ ap (λ (xs : List ℕ). value_of xs vars.end) c.as_slice.ensures in
    let up : c.loop-t.t < value_of c.loop-t.s.values vars.end = omega (arith, end, c.loop-t-test.true) in
    tried_found c.args.m.now vars c.args.s.now c.loop-t.s c.take_merge.new.s c.loop-t.found c.loop-t.t c.loop-t.invariant
    c.in_ok-take_merge.ensures.solution (c.in_ok-take_merge.ensures.taken c.if-branch.true) up

pub loop-t-preserved : goal.loop-t-preserved
loop-t-preserved c =
    tried_none c.args.m.now c.args.vars.now c.args.s.now c.loop-t.s c.take_merge.new.s c.loop-t.found c.loop-t.t c.loop-t.invariant
    (c.in_ok-take_merge.ensures.same c.if-branch.false) (c.in_ok-take_merge.ensures.none c.if-branch.false)

pub loop-t-smaller-then-branch : goal.loop-t-smaller-then-branch
loop-t-smaller-then-branch c =
    let vars = c.args.vars.now in
    let end : c.value.result ≡ value_of c.loop-t.s.values vars.end =
    c.value.ensures ∙ ap (λ (xs : List ℕ). value_of xs vars.end) c.as_slice.ensures in
    let up : c.loop-t.t < value_of c.loop-t.s.values vars.end = omega (arith, end, c.loop-t-test.true) in
    merged_smaller vars c.loop-t.t c.loop-t.s c.take_merge.new.s (c.in_ok-take_merge.ensures.taken c.if-branch.true) up
