use Rattle.std.proofs.Common.{ℕ, ◌≡◌, ◌+◌, ◌<◌, List, refl, sym, ap, ◌∙◌, subst, arith, [], ◌∷◌, length}
use Rattle.un_domains.specs.Sets.{Sets, set_at, total, NoneEmpty}
use Rattle.un_steps.specs.Allowed.{after}
use Rattle.un_logs.specs.Rounds.{RunsGo, step_of}
use Rattle.un_logs.proofs.Turning.{run_allowed}
use Rattle.un_logs.proofs.Within.{after_within, after_other, after_fewer, is_there, total_left, on_false_map}
use Rattle.un_logs.proofs.Writing.{writes_then, writes_step}
use Rattle.un_logs.proofs.round.take_runs.Goals as goal

pub take_run-requires : goal.take_run-requires
take_run-requires c =
    let run = c.in-Some.ensures.run in
    let f = run.first in
    is_there c.loop-run.cuts.sets c.args.t.now.var.0 c.in-Some.run'.first f.left

pub loop-run-preserved : goal.loop-run-preserved
loop-run-preserved c =
    let r = c.args.r.now in
    let t = c.args.t.now in
    let s = c.loop-run.cuts.sets in
    let now = c.take_run.new.cuts.sets in
    let run = c.in-Some.run' in
    let step = step_of t run in
    let is_run = c.in-Some.ensures.run in
    let f = is_run.first in
    let i = c.loop-run.invariant in
    let e = c.in_ok-take_run.ensures in
    let within = after_within s step in
    let long : length now ≡ length s = ap length e.sets ∙ within.long in
    let less = after_fewer s step run.first f.left (omega arith) is_run.order in
    let same : total now ≡ total (after s step) = ap total e.sets in
    let least = total_left c.loop-run.went s c.args.cuts.now.sets _ i.went i.stayed in
    let there = is_there s t.var.0 run.first f.left in
    let all = i.long in
    record {
      runs = λ rs new h. i.runs (run ∷ rs) new (
        is_run,
        subst (λ (b : Sets). RunsGo r.m.now r.limit t (run.last + 1) rs b new) e.sets
            (subst (λ (n : ℕ). RunsGo r.m.now r.limit t (n + 1) rs now new) c.from-from.ensures h),
      );
      writes = writes_then r c.args.cuts.now.sets s now c.args.text.now.items c.loop-run.text.items c.take_run.new.text.items i.writes
          (writes_step r s now step c.loop-run.text.items c.take_run.new.text.items (e.fits r.rules c.requires.rule)
          (run_allowed r.m.now r.limit t s c.loop-run.from run is_run) e.sets e.text);
      long = long ∙ all;
      others = λ v other. ap (λ (b : Sets). set_at b v) e.sets ∙ (after_other s step v other ∙ i.others v other);
      went = (omega (arith, there, all), omega (arith, less, same, least));
      stayed = tt;
      marked = e.marked ∙ i.marked;
    }

pub returns-clause-turn : goal.returns-clause-turn
returns-clause-turn c =
    let i = c.loop-run.invariant in
    let k = i.runs [] c.loop-run.cuts.sets (c.in_default.ensures.none, refl) in
    record { runs = k.0; go = k.1 }

pub run_behind-requires-clause-others : goal.run_behind-requires-clause-others
run_behind-requires-clause-others c = λ v other lt.
    let i = c.loop-run.invariant in
    let long = i.long in
    let some = c.requires.full v (omega (arith, lt, long)) in
    subst (λ (xs : List ℕ). 0 < length xs) (sym (i.others v other)) some

pub run_behind-requires-clause-full : goal.run_behind-requires-clause-full
run_behind-requires-clause-full c =
    let i = c.loop-run.invariant in
    on_false_map c.loop-run.went (c.loop-run.cuts.sets ≡ c.args.cuts.now.sets) (NoneEmpty c.loop-run.cuts.sets)
    (λ same. subst NoneEmpty (sym same) c.requires.full) i.stayed
