use Rattle.std.proofs.Common.{length, refl, ◌∙◌, subst, sym}
use Rattle.un_domains.specs.OrderLaws.{Below-refl}
use Rattle.un_prop.specs.Pruning.{HasRoom}
use Rattle.un_prop.proofs.RoundLaws.{item_known, goes_same, goes_tighter, round_lost, round_same, round_tighter, room_kept}
use Rattle.un_prop.proofs.run.run_round.Goals as goal
use Rattle.un_prop.proofs.run.run_round.Goals.{in-Same, in-Tighter}

pub loop-p-init : goal.loop-p-init
loop-p-init g c = record {
  so_far = record { rest = refl; full = c.requires.live; below = Below-refl c.args.store.now.sets; marked = refl; so_far = refl };
  fixed = refl;
  cycles = refl;
}

pub prune-requires-clause-room : goal.prune-requires-clause-room
prune-requires-clause-room g c =
    let inv = c.loop-p.invariant in
    let p = c.p-item.result in
    room_kept _ _ _ c.args.scratch.now c.loop-p.scratch inv.so_far.below.long inv.fixed inv.cycles
    (subst (λ q. HasRoom (length c.args.store.now.sets) (g.P.Propagator.span q) c.args.scratch.now) (sym c.p-item.is)
    (c.requires.room c.loop-p.p-index p c.loop-p-test.true))

pub loop-p-preserved : goal.loop-p-preserved
loop-p-preserved g c =
    let P = g.P in
    let inv = c.loop-p.invariant in
    let sofar = inv.so_far in
    let known = item_known P.Predicate.scope c.args.props.now c.loop-p.p-index c.p-item.result c.args.store.now.sets c.loop-p.store.sets
    c.requires.known c.loop-p-test.true c.p-item.is sofar.below.long in
    record {
      so_far = elim c.match-prune.branch [
        | in-Same w ↦ rw w.changed-is (goes_same P.Predicate.scope P.Propagator.cut g.met.P.Propagator.lawful c.args.props.now
            c.args.store.now
            c.loop-p.p-index c.p-item.result c.loop-p.store c.prune.new.store c.loop-p.changed sofar known c.loop-p-test.true c.p-item.is
            w.in-Same.ensures.prune)
        | in-Tighter w ↦ rw w.changed-is (goes_tighter P.Predicate.scope P.Propagator.cut g.met.P.Propagator.lawful c.args.props.now
            c.args.store.now
            c.loop-p.p-index c.p-item.result c.loop-p.store c.prune.new.store c.loop-p.changed sofar known c.loop-p-test.true c.p-item.is
            w.in-Tighter.ensures.prune)
      ];
      fixed = c.prune.ensures.fixed ∙ inv.fixed;
      cycles = c.prune.ensures.cycles ∙ inv.cycles;
    }

pub returns-in-Failed-clause-ends : goal.returns-in-Failed-clause-ends
returns-in-Failed-clause-ends g c =
    let P = g.P in
    round_lost P.Predicate.scope P.Propagator.cut g.met.P.Propagator.lawful c.args.props.now c.args.store.now c.loop-p.p-index
    c.p-item.result c.loop-p.store c.prune.new.store c.loop-p.changed c.loop-p.invariant.so_far c.loop-p-test.true c.p-item.is
    c.in-Failed.ensures.prune.ends

pub returns-then-changed-clause-ends : goal.returns-then-changed-clause-ends
returns-then-changed-clause-ends g c =
    let P = g.P in
    round_tighter P.Predicate.scope P.Propagator.cut g.met.P.Propagator.lawful c.args.props.now c.args.store.now c.loop-p.p-index
    c.loop-p.store (rw c.if-changed.true at c.loop-p.invariant.so_far) c.loop-p-test.false

pub returns-else-changed-clause-ends : goal.returns-else-changed-clause-ends
returns-else-changed-clause-ends g c =
    let P = g.P in
    round_same P.Predicate.scope P.Propagator.cut g.met.P.Propagator.lawful c.args.props.now c.args.store.now c.loop-p.p-index
    c.loop-p.store (rw c.if-changed.false at c.loop-p.invariant.so_far) c.loop-p-test.false
