use Rattle.std.proofs.Common.{ℕ, ◌++◌, take, drop, Bool, true, false, refl, sym, ap, subst, arith, ◌∙◌, ◌≡◌, All, List, [], length}
use Rattle.un_domains.specs.Sets.{Sets}
use Rattle.std.proofs.lemmas.List.{length-replicate}
use Rattle.std.proofs.Math.Seq.{take-append_seam}
use Rattle.un_prop.specs.Pruning.{IsFix}
use Rattle.un_prop.specs.Queues.{IsSizes}
use Rattle.un_prop.specs.Rounds.{fix_of}
use Rattle.un_prop.specs.declared.run.Fix.TheVariants.{Stable, Failed as Lost}
use Rattle.un_engine.specs.Engines.{AllNoted, IsNode}
use Rattle.un_engine.proofs.EngineLaws.{fix_rests, stable_is, failed_is, vars_kept}
use Rattle.un_engine.proofs.engine.Engine.new.Goals as goal

pub returns-in-Stable : goal.returns-in-Stable
returns-in-Stable g c =
    let P = g.P.Propagator in
    let t = c.run_from-fix.new.store.sets in
    let fix : IsFix (fix_of P.cut c.args.props.items c.args.store.sets) t Stable = rw (← c.as_slice-3.ensures.value)
    c.in-Stable.ensures.rounds in
    let left = stable_is (fix_of P.cut c.args.props.items c.args.store.sets) t fix in
    record {
      props = refl;
      fix = left.0;
      long = c.run_from-fix.ensures.long;
      live = left.1;
      fresh = c.run_from-fix.ensures.marked ∙
          c.requires.fresh;
    }

pub returns-in-Failed : goal.returns-in-Failed
returns-in-Failed g c =
    let P = g.P.Propagator in
    let t = c.run_from-fix.new.store.sets in
    let fix : IsFix (fix_of P.cut c.args.props.items c.args.store.sets) t Lost =
    rw (← c.as_slice-3.ensures.value) c.in-Failed.ensures.rounds in
    failed_is (fix_of P.cut c.args.props.items c.args.store.sets) t fix

pub invariant_of-result : goal.invariant_of-result
invariant_of-result g c =
    let P = g.P.Propagator in
    let ps = c.args.props.items in
    let s = c.args.store.sets in
    let t = c.run_from-fix.new.store in
    let fix : IsFix (fix_of P.cut ps s) t.sets Stable = rw (← c.as_slice-3.ensures.value) c.in-Stable.ensures.rounds in
    let rests = fix_rests g.P.Predicate.scope P.cut g.met.P.Propagator.lawful P.span ps s t.sets Stable c.requires.known
    c.requires.live fix in
    let long = c.run_from-fix.ensures.long in
    let vars : length t.sets ≡ c.len-vars.result = long ∙ sym c.len-vars.ensures in
    record {
      known = vars_kept g.P.Predicate.scope P.cut g.met.P.Propagator.lawful P.span ps s t.sets long c.requires.known;
      room = λ i d lt. (let r = c.in_ok-scratch.ensures in let one = c.requires.spans i d lt in record {
        fixed = omega (arith, r.fixed, vars, c.run_from-fix.ensures.fixed);
        cycles = omega (arith, r.cycles, one, c.run_from-fix.ensures.cycles);
      });
      table = rw (vars, ← c.as_slice.ensures.value) c.in_ok-readers.ensures;
      flags = c.run_from-fix.ensures.flags ∙ (c.wake_all.ensures.flags ∙ (ap length c.in_ok-waiting.ensures ∙ (length-replicate _ _
          ∙ ap length c.as_slice-2.ensures.value)));
      sizes = λ full. c.in-Stable.ensures.sizes refl;
      stable = λ full. (rests full).1;
      marks = subst (All (IsNode P.cut ps (length t.sets))) (sym (c.run_from-fix.ensures.marked ∙ c.requires.fresh))
          (λ i d lt. absurd (omega (arith, lt)));
      notes = subst (λ (ms : List Sets). AllNoted c.run_from-fix.new.sizes.marked ms)
          (sym (c.run_from-fix.ensures.marked ∙ c.requires.fresh))
          (subst (λ (ns : List (List ℕ)). AllNoted ns []) (sym (c.run_from-fix.ensures.noted ∙ c.new-sizes.ensures.marked)) tt);
    }

true_or_false : (b : Bool) → b ≡ true → b ≡ false → ⊥
true_or_false true e h = cc h
true_or_false false e h = cc e

pub run_from-fix-requires-clause-ready : goal.run_from-fix-requires-clause-ready
run_from-fix-requires-clause-ready g c i d lt rests =
    let flags = ap length c.in_ok-waiting.ensures ∙ (length-replicate _ _ ∙ ap length c.as_slice-2.ensures.value) in
    let within = rw c.as_slice-3.ensures.value at lt in
    absurd (true_or_false _ (c.wake_all.ensures.wait i (omega (arith, flags, within))) rests)

pub run_from-fix-requires-clause-sizes : goal.run_from-fix-requires-clause-sizes
run_from-fix-requires-clause-sizes g c =
    let s = c.args.store.sets in
    let counts = c.in_ok-counts.counts in
    let after = c.measure.new.sizes in
    let measured : IsSizes after s = c.measure.ensures in
    let long : counts.len ≡ length after = omega (
      arith,
      measured.long,
      c.len-vars.ensures,
      c.in_ok-counts.ensures.len,
    ) in
    subst (λ (ws : List ℕ). IsSizes ws s) (sym c.new-sizes.ensures.words)
    (subst (λ (n : ℕ). IsSizes (take n (after ++ drop (length after) counts.items)) s) (sym long)
    (subst (λ (ws : List ℕ). IsSizes ws s) (sym (take-append_seam after (drop (length after) counts.items))) measured))
