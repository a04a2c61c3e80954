use Rattle.std.proofs.Common.{ℕ, ◌≡◌, ◌<◌, ◌∙◌, List, arith, ap, get_or, slice_get}
use Rattle.std.proofs.lemmas.List.{get_or_default}
use Rattle.un_model.specs.declared.model.TempVars.{TempVars}
use Rattle.un_model.specs.declared.schedule.Issue.{Issue}
use Rattle.un_model.specs.declared.schedule.LiveRange.{LiveRange}
use Rattle.un_model.specs.declared.schedule.Read.{Read}
use Rattle.un_model.specs.Schedules.{HasLastReads}
use Rattle.un_model.specs.Schedules.{range_by, range_of, last_read}
use Rattle.un_model.proofs.Steps.{places_more, places_all}
use Rattle.un_model.proofs.placement.ranges.Goals as goal

range_is : (values : List ℕ) (issues : List Issue) (reads : List Read) (lasts : List ℕ) (n k last : ℕ) (t : TempVars) (h : LiveRange)
    → HasLastReads reads n lasts → k < n → last ≡ get_or lasts k last → h ≡ range_by values t last (slice_get issues t.op.0)
    → h ≡ range_of values issues reads k t
range_is values issues reads lasts n k last t h has lt is made =
    let e : last ≡ last_read reads k = is ∙ get_or_default lasts k last 0 (omega (arith, has.0, lt)) ∙ has.1 k lt in
    made ∙ ap (λ (l : ℕ). range_by values t l (slice_get issues t.op.0)) e

pub loop-k-preserved : goal.loop-k-preserved
loop-k-preserved c =
    places_more (range_of c.args.values.now c.args.issues.now c.args.reads.now) c.loop-k.k c.loop-k.k c.args.temps.now c.get.result.now
    c.loop-k.ranges _ c.push.new.self c.range.result c.loop-k.invariant c.get.ensures
    (range_is c.args.values.now c.args.issues.now c.args.reads.now c.in_ok-lasts.lasts.items _ c.loop-k.k c.index.result.now
    c.get.result.now c.range.result c.in_ok-lasts.ensures (omega arith) c.index.ensures c.range.ensures) c.in_ok-push.ensures.ok

pub returns : goal.returns
returns c =
    places_all (range_of c.args.values.now c.args.issues.now c.args.reads.now) c.loop-k.k c.loop-k.k c.args.temps.now c.loop-k.ranges _
    c.loop-k.invariant (omega arith)
