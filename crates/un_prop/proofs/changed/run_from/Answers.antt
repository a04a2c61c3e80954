use Rattle.std.proofs.Common.{List, refl, sym, ap, subst, arith, ◌∙◌, ◌≡◌, ◌<◌, ◌⊎◌, length, get_or}
use Rattle.std.specs.declared.option.Option.{Option}
use Rattle.un_domains.specs.Sets.{Sets}
use Rattle.un_base.specs.declared.ids.VarId.{VarId}
use Rattle.un_prop.specs.Pruning.{IsFix}
use Rattle.un_prop.specs.Rounds.{HasVars}
use Rattle.un_prop.specs.declared.propagator.Pruned.TheVariants.{Tighter}
use Rattle.un_prop.specs.declared.run.Fix.TheVariants.{Stable, Failed as Lost}
use Rattle.un_prop.proofs.RoundLaws.{left_of, none_of}
use Rattle.un_prop.specs.Queues.{AllWait}
use Rattle.un_prop.proofs.RunLaws.{run_first, run_ends, run_fails, run_long, run_tighter, less_work}
use Rattle.un_prop.proofs.WaitLaws.{raised_again}
use Rattle.un_prop.proofs.changed.run_from.Goals as goal

pub loop-i-init : goal.loop-i-init
loop-i-init g c = record {
  so_far = run_first g.P.Predicate.scope g.P.Propagator.cut g.met.P.Propagator.lawful c.args.props.now
      c.args.store.now.sets c.requires.known c.requires.live c.args.store.now.sets c.args.waiting.now c.args.sizes.now.words refl
      c.requires.ready
      c.requires.flags c.requires.sizes;
  marked = refl;
  sizes = refl;
  fixed = refl;
  cycles = refl;
}

pub returns-in-None-clause-rounds : goal.returns-in-None-clause-rounds
returns-in-None-clause-rounds g c =
    let end = run_ends g.P.Predicate.scope g.P.Propagator.cut g.met.P.Propagator.lawful c.args.props.now c.args.store.now.sets
    c.requires.known c.requires.live c.loop-i.store.sets c.loop-i.waiting c.loop-i.sizes.words c.loop-i.invariant.so_far
    c.in-None.ensures.next in
    subst (λ (o : Option Sets). IsFix o c.loop-i.store.sets Stable) (sym end) (refl, refl, c.loop-i.invariant.so_far.full)

pub wake_changed-requires-clause-known : goal.wake_changed-requires-clause-known
wake_changed-requires-clause-known g c =
    let p = c.index-props-i.result in
    let s = c.loop-i.store.sets in
    let t = c.prune.new.store.sets in
    let inv = c.loop-i.invariant.so_far in
    let within : c.in-Some.i < length c.args.props.now = omega (arith, c.in-Some.ensures.next.0, inv.flags) in
    let left = left_of (g.P.Propagator.cut p s) s t Tighter c.in-Tighter.ensures.prune.ends (λ e. cc e) in
    let long = run_long g.P.Predicate.scope g.P.Propagator.cut g.met.P.Propagator.lawful c.args.props.now c.args.store.now.sets
    c.requires.known c.requires.live s c.loop-i.waiting c.loop-i.sizes.words inv c.in-Some.i p within c.index-props-i.is t left.0 in
    subst (λ (vs : List VarId). HasVars vs t) (sym c.reads.ensures) long.2

pub wake_changed-requires-clause-sizes : goal.wake_changed-requires-clause-sizes
wake_changed-requires-clause-sizes g c =
    let p = c.index-props-i.result in
    let s = c.loop-i.store.sets in
    let t = c.prune.new.store.sets in
    let inv = c.loop-i.invariant.so_far in
    let within : c.in-Some.i < length c.args.props.now = omega (arith, c.in-Some.ensures.next.0, inv.flags) in
    let left = left_of (g.P.Propagator.cut p s) s t Tighter c.in-Tighter.ensures.prune.ends (λ e. cc e) in
    let long = run_long g.P.Predicate.scope g.P.Propagator.cut g.met.P.Propagator.lawful c.args.props.now c.args.store.now.sets
    c.requires.known c.requires.live s c.loop-i.waiting c.loop-i.sizes.words inv c.in-Some.i p within c.index-props-i.is t left.0 in
    inv.noted.long ∙ sym long.0

pub wake_changed-requires-clause-table : goal.wake_changed-requires-clause-table
wake_changed-requires-clause-table g c =
    let p = c.index-props-i.result in
    let s = c.loop-i.store.sets in
    let t = c.prune.new.store.sets in
    let inv = c.loop-i.invariant.so_far in
    let within : c.in-Some.i < length c.args.props.now = omega (arith, c.in-Some.ensures.next.0, inv.flags) in
    let left = left_of (g.P.Propagator.cut p s) s t Tighter c.in-Tighter.ensures.prune.ends (λ e. cc e) in
    let long = run_long g.P.Predicate.scope g.P.Propagator.cut g.met.P.Propagator.lawful c.args.props.now c.args.store.now.sets
    c.requires.known c.requires.live s c.loop-i.waiting c.loop-i.sizes.words inv c.in-Some.i p within c.index-props-i.is t left.0 in
    ap length c.as_slice.ensures.value ∙ (c.requires.table.long ∙ sym long.1)

pub returns-in-Failed-clause-rounds : goal.returns-in-Failed-clause-rounds
returns-in-Failed-clause-rounds g c =
    let p = c.index-props-i.result in
    let s = c.loop-i.store.sets in
    let t = c.prune.new.store.sets in
    let inv = c.loop-i.invariant.so_far in
    let within : c.in-Some.i < length c.args.props.now = omega (arith, c.in-Some.ensures.next.0, inv.flags) in
    let none = none_of (g.P.Propagator.cut p s) s t c.in-Failed.ensures.prune.ends in
    let end = run_fails g.P.Predicate.scope g.P.Propagator.cut g.met.P.Propagator.lawful c.args.props.now c.args.store.now.sets
    c.requires.known c.requires.live s c.loop-i.waiting c.loop-i.sizes.words inv c.in-Some.i p within c.index-props-i.is none.0 in
    subst (λ (o : Option Sets). IsFix o t Lost) (sym end) (refl, none.1)

pub loop-i-smaller : goal.loop-i-smaller
loop-i-smaller g c =
    let s = c.loop-i.store.sets in
    let t = c.prune.new.store.sets in
    let left = left_of (g.P.Propagator.cut c.index-props-i.result s) s t Tighter c.in-Tighter.ensures.prune.ends (λ e. cc e) in
    let again = raised_again c.loop-i.waiting c.take.new.self c.raise.new.self c.in-Some.i c.in-Some.ensures.next.0 c.in-Some.ensures.rests
    c.raise.ensures in
    less_work (length c.args.props.now) t s c.loop-i.waiting c.wake_changed.new.waiting left.2
    (c.wake_changed.ensures.flags ∙ (again.0 ∙ c.loop-i.invariant.so_far.flags))

pub loop-i-preserved : goal.loop-i-preserved
loop-i-preserved g c =
    let p = c.index-props-i.result in
    let s = c.loop-i.store.sets in
    let t = c.prune.new.store.sets in
    let inv = c.loop-i.invariant.so_far in
    let within : c.in-Some.i < length c.args.props.now = omega (arith, c.in-Some.ensures.next.0, inv.flags) in
    let left = left_of (g.P.Propagator.cut p s) s t Tighter c.in-Tighter.ensures.prune.ends (λ e. cc e) in
    let again = raised_again c.loop-i.waiting c.take.new.self c.raise.new.self c.in-Some.i c.in-Some.ensures.next.0 c.in-Some.ensures.rests
    c.raise.ensures in
    let e = c.wake_changed.ensures in
    record {
      so_far = run_tighter g.P.Predicate.scope g.P.Propagator.cut g.met.P.Propagator.lawful c.args.props.now c.args.store.now.sets
          c.requires.known c.requires.live s c.loop-i.waiting c.loop-i.sizes.words inv c.in-Some.i p within c.index-props-i.is t
          c.args.readers.now.rows.items c.reads.result.now c.wake_changed.new.waiting c.wake_changed.new.sizes.words left.0 c.requires.table
          c.reads.ensures (e.flags ∙ again.0) e.long (λ j on. e.grows j (again.1 j on)) e.noted e.others
          (λ w. subst (λ (table : Sets). (get_or c.wake_changed.new.sizes.words w 0 ≡ get_or c.loop-i.sizes.words w 0)
          ⊎ AllWait table c.wake_changed.new.waiting w) c.as_slice.ensures.value (e.woken w));
      sizes = e.marked ∙ c.loop-i.invariant.sizes;
      marked = c.prune.ensures.prune.untouched.marked ∙ c.loop-i.invariant.marked;
      fixed = c.prune.ensures.fixed ∙ c.loop-i.invariant.fixed;
      cycles = c.prune.ensures.cycles ∙ c.loop-i.invariant.cycles;
    }
