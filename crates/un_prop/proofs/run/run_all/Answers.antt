use Rattle.std.proofs.Common.{refl, sym, ap, subst, ◌≡◌, ◌∙◌, Some}
use Rattle.std.specs.declared.option.Option.{Option}
use Rattle.std.proofs.lemmas.List.Elements.{recursion_from_All}
use Rattle.un_domains.specs.Sets.{Sets, IsIn, Kept}
use Rattle.un_domains.specs.OrderLaws.{Below-refl}
use Rattle.un_prop.specs.Rounds.{round, fix_of}
use Rattle.un_prop.specs.Fixes.{IsFixOf, fix_greatest, round_ends, known_long}
use Rattle.un_prop.specs.Pruning.{IsFix}
use Rattle.un_prop.specs.declared.propagator.Pruned.TheVariants.{Same, Tighter}
use Rattle.un_prop.specs.declared.run.Fix.TheVariants.{Stable}
use Rattle.un_prop.specs.KeepLaws.{round_kept}
use Rattle.un_prop.proofs.RoundLaws.{left_of, none_of, fix_goes, room_kept}
use Rattle.un_prop.proofs.run.run_all.Goals as goal

pub loop-init : goal.loop-init
loop-init g c = record {
  so_far = record { full = c.requires.live; below = Below-refl c.args.store.now.sets; rest = refl; kept = λ x h all. h; marked = refl };
  fixed = refl;
  cycles = refl;
}

pub run_round-requires-clause-known : goal.run_round-requires-clause-known
run_round-requires-clause-known g c k d lt i x below = let long = c.loop.invariant.so_far.below.long in
    rw long (c.requires.known k d lt i x below)

pub run_round-requires-clause-room : goal.run_round-requires-clause-room
run_round-requires-clause-room g c k d lt =
    let inv = c.loop.invariant in
    room_kept _ _ _ c.args.scratch.now c.loop.scratch inv.so_far.below.long inv.fixed inv.cycles (c.requires.room k d lt)

pub returns-in-Same-clause-rounds : goal.returns-in-Same-clause-rounds
returns-in-Same-clause-rounds g c =
    let P = g.P.Propagator in
    let ps = c.args.props.now in
    let s = c.loop.store.sets in
    let first = c.args.store.now.sets in
    let t = c.run_round.new.store.sets in
    let left = left_of (round P.cut ps s) s t Same c.in-Same.ensures.ends (λ e. cc e) in
    let all = recursion_from_All _ _ c.requires.known in
    let known = known_long g.P.Predicate.scope P.cut g.met.P.Propagator.lawful ps first s c.loop.invariant.so_far.below.long all in
    let end = round_ends g.P.Predicate.scope P.cut g.met.P.Propagator.lawful ps s known c.loop.invariant.so_far.full
    (left.0 ∙ ap (λ (u : Sets). Some u) left.2) in
    let is : fix_of P.cut ps first ≡ Some t = sym c.loop.invariant.so_far.rest ∙ (end ∙ ap (λ (u : Sets). Some u) (sym left.2)) in
    subst (λ (o : Option Sets). IsFix o t Stable) (sym is) (refl, refl, left.1)

pub returns-in-Same-clause-keeps : goal.returns-in-Same-clause-keeps
returns-in-Same-clause-keeps g c x there all =
    let left = left_of (round g.P.Propagator.cut c.args.props.now c.loop.store.sets) c.loop.store.sets c.run_round.new.store.sets Same
    c.in-Same.ensures.ends (λ e. cc e) in
    (refl, subst (IsIn x) (sym left.2) (c.loop.invariant.so_far.kept x there (recursion_from_All _ _ all)))

pub returns-in-Same-clause-greatest : goal.returns-in-Same-clause-greatest
returns-in-Same-clause-greatest g c h =
    let P = g.P.Propagator in
    let ps = c.args.props.now in
    let s = c.loop.store.sets in
    let first = c.args.store.now.sets in
    let t = c.run_round.new.store.sets in
    let left = left_of (round P.cut ps s) s t Same c.in-Same.ensures.ends (λ e. cc e) in
    let all = recursion_from_All _ _ c.requires.known in
    let known = known_long g.P.Predicate.scope P.cut g.met.P.Propagator.lawful ps first s c.loop.invariant.so_far.below.long all in
    let end = round_ends g.P.Predicate.scope P.cut g.met.P.Propagator.lawful ps s known c.loop.invariant.so_far.full
    (left.0 ∙ ap (λ (u : Sets). Some u) left.2) in
    let is : fix_of P.cut ps first ≡ Some t = sym c.loop.invariant.so_far.rest ∙ (end ∙ ap (λ (u : Sets). Some u) (sym left.2)) in
    subst (IsFixOf P.cut ps first) is (fix_greatest g.P.Predicate.scope P.cut g.met.P.Propagator.lawful ps first all c.requires.live)

pub loop-preserved : goal.loop-preserved
loop-preserved g c =
    let inv = c.loop.invariant in
    let left = left_of (round g.P.Propagator.cut c.args.props.now c.loop.store.sets) c.loop.store.sets c.run_round.new.store.sets Tighter
    c.in-Tighter.ensures.ends (λ e. cc e) in
    record {
      so_far = fix_goes g.P.Predicate.scope g.P.Propagator.cut g.met.P.Propagator.lawful g.P.Predicate.holds g.met.P.Propagator.keeps
          c.args.props.now
          c.args.store.now c.loop.store c.run_round.new.store inv.so_far (recursion_from_All _ _ c.requires.known) left.0
          c.in-Tighter.ensures.marked;
      fixed = c.in-Tighter.ensures.fixed ∙ inv.fixed;
      cycles = c.in-Tighter.ensures.cycles ∙ inv.cycles;
    }

pub returns-in-Failed-clause-keeps : goal.returns-in-Failed-clause-keeps
returns-in-Failed-clause-keeps g c x there all =
    let ps = c.args.props.now in
    let s = c.loop.store.sets in
    let all_hold = recursion_from_All _ _ all in
    let known = known_long g.P.Predicate.scope g.P.Propagator.cut g.met.P.Propagator.lawful ps c.args.store.now.sets s
    c.loop.invariant.so_far.below.long (recursion_from_All _ _ c.requires.known) in
    let none = none_of (round g.P.Propagator.cut ps s) s c.run_round.new.store.sets c.in-Failed.ensures.ends in
    absurd (subst (Kept x) none.0 (round_kept g.P.Predicate.scope g.P.Propagator.cut g.met.P.Propagator.lawful g.P.Predicate.holds
    g.met.P.Propagator.keeps ps s x known (c.loop.invariant.so_far.kept x there all_hold) all_hold))
