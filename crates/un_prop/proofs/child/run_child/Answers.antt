use Rattle.std.proofs.Common.{ℕ, [], ◌∷◌, None, Some, refl, sym, ap, subst, ◌∙◌, ◌≡◌, ◌⊎◌, length, get_or, All}
use Rattle.std.specs.declared.option.Option.{Option}
use Rattle.un_domains.specs.Sets.{Sets, cut_by, set_at}
use Rattle.un_prop.specs.Rounds.{HasVars, fix_of}
use Rattle.un_prop.specs.Pruning.{IsFix}
use Rattle.un_prop.specs.declared.propagator.Pruned.TheVariants.{Same, Tighter}
use Rattle.un_prop.specs.declared.run.Fix.TheVariants.{Stable, Failed as Lost}
use Rattle.un_prop.proofs.RoundLaws.{left_of, none_of, room_kept}
use Rattle.un_domains.specs.Sides.{side_test}
use Rattle.un_prop.specs.Nodes.{decide_by}
use Rattle.un_prop.specs.Queues.{AllWait, IsSizes}
use Rattle.un_prop.proofs.ChildLaws.{has_one, sizes_after, ready_next, fix_stable, child_fix}
use Rattle.un_prop.proofs.child.run_child.Goals as goal

pub returns-in-Same-clause-child : goal.returns-in-Same-clause-child
returns-in-Same-clause-child g c box full known there end =
    let P = g.P.Propagator in
    let f = c.args.store.now.sets in
    let t = c.decide.new.store.sets in
    let q = side_test c.args.side c.args.x in
    let left = left_of (cut_by q c.args.v.0 f) f t Same c.in-Same.ensures.ends (λ e. cc e) in
    let same : t ≡ f = left.2 in
    let own = fix_stable g.P.Predicate.scope P.cut g.met.P.Propagator.lawful c.args.props.now f c.requires.known c.requires.live
    c.requires.stable in
    child_fix g.P.Predicate.scope P.cut g.met.P.Propagator.lawful c.args.props.now c.args.v q box f (Some t) t Stable there known full end
    left.0
    (subst (λ (o : Option Sets). IsFix o t Stable) (sym (ap (fix_of P.cut c.args.props.now) same ∙ own)) (refl, same, c.requires.live))

pub returns-in-Failed-clause-child : goal.returns-in-Failed-clause-child
returns-in-Failed-clause-child g c box full known there end =
    let P = g.P.Propagator in
    let f = c.args.store.now.sets in
    let t = c.decide.new.store.sets in
    let q = side_test c.args.side c.args.x in
    let none = none_of (cut_by q c.args.v.0 f) f t c.in-Failed.ensures.ends in
    child_fix g.P.Predicate.scope P.cut g.met.P.Propagator.lawful c.args.props.now c.args.v q box f None t Lost there known full end none.0
    (refl, none.1)

pub returns-in-Tighter-clause-child : goal.returns-in-Tighter-clause-child
returns-in-Tighter-clause-child g c box full known there end =
    let P = g.P.Propagator in
    let f = c.args.store.now.sets in
    let t = c.decide.new.store.sets in
    let q = side_test c.args.side c.args.x in
    let left = left_of (cut_by q c.args.v.0 f) f t Tighter c.in-Tighter.ensures.ends (λ e. cc e) in
    child_fix g.P.Predicate.scope P.cut g.met.P.Propagator.lawful c.args.props.now c.args.v q box f (Some t) c.run_from.new.store.sets
    c.run_from.result there known full end left.0 c.run_from.ensures.rounds

pub run_from-requires-clause-sizes : goal.run_from-requires-clause-sizes
run_from-requires-clause-sizes g c =
    let P = g.P.Propagator in
    let f = c.args.store.now.sets in
    let t = c.decide.new.store.sets in
    let q = side_test c.args.side c.args.x in
    let vs = c.args.v ∷ [] in
    let left = left_of (cut_by q c.args.v.0 f) f t Tighter c.in-Tighter.ensures.ends (λ e. cc e) in
    let known : HasVars vs f = λ i d lt. has_one c.args.v f c.requires.there i d lt in
    let e = c.wake_changed.ensures in
    let noted = subst (All (λ v. get_or c.wake_changed.new.sizes.words v.0 0 ≡ length (set_at t v.0))) c.as_slice.ensures e.noted in
    let others : (w : ℕ) → All (λ v. (w ≡ v.0) → ⊥) vs → get_or c.wake_changed.new.sizes.words w 0 ≡ get_or c.args.sizes.now.words w 0 =
    λ w all. e.others w (subst (All (λ v. (w ≡ v.0) → ⊥)) (sym c.as_slice.ensures) all) in
    let after = sizes_after vs (cut_by q c.args.v.0) (decide_by c.args.v q).lawful f t known c.requires.live left.0 c.args.sizes.now.words
    c.wake_changed.new.sizes.words c.requires.sizes e.long noted others in
    after

pub run_from-requires-clause-ready : goal.run_from-requires-clause-ready
run_from-requires-clause-ready g c =
    let P = g.P.Propagator in
    let f = c.args.store.now.sets in
    let t = c.decide.new.store.sets in
    let q = side_test c.args.side c.args.x in
    let vs = c.args.v ∷ [] in
    let left = left_of (cut_by q c.args.v.0 f) f t Tighter c.in-Tighter.ensures.ends (λ e. cc e) in
    let known : HasVars vs f = λ i d lt. has_one c.args.v f c.requires.there i d lt in
    let e = c.wake_changed.ensures in
    let noted = subst (All (λ v. get_or c.wake_changed.new.sizes.words v.0 0 ≡ length (set_at t v.0))) c.as_slice.ensures e.noted in
    let others : (w : ℕ) → All (λ v. (w ≡ v.0) → ⊥) vs → get_or c.wake_changed.new.sizes.words w 0 ≡ get_or c.args.sizes.now.words w 0 =
    λ w all. e.others w (subst (All (λ v. (w ≡ v.0) → ⊥)) (sym c.as_slice.ensures) all) in
    let after = sizes_after vs (cut_by q c.args.v.0) (decide_by c.args.v q).lawful f t known c.requires.live left.0 c.args.sizes.now.words
    c.wake_changed.new.sizes.words c.requires.sizes e.long noted others in
    ready_next vs (cut_by q c.args.v.0) (decide_by c.args.v q).lawful f t known c.requires.live left.0 c.args.sizes.now.words
    c.wake_changed.new.sizes.words c.requires.sizes
    g.P.Predicate.scope P.cut g.met.P.Propagator.lawful c.args.props.now (length f) c.args.readers.now.rows.items c.args.waiting.now
    c.wake_changed.new.waiting c.requires.table c.requires.known after e.grows
    (λ w. subst (λ (table : Sets). (get_or c.wake_changed.new.sizes.words w 0 ≡ get_or c.args.sizes.now.words w 0)
    ⊎ AllWait table c.wake_changed.new.waiting w) c.as_slice-in-Tighter.ensures.value (e.woken w))
    (λ i d lt rests. c.requires.stable i d lt)

pub run_from-requires-clause-room : goal.run_from-requires-clause-room
run_from-requires-clause-room g c k d lt = room_kept _ _ _ c.args.scratch.now c.args.scratch.now c.decide.ensures.long refl refl
    (c.requires.room k d lt)

pub returns-in-Same-clause-sizes : goal.returns-in-Same-clause-sizes
returns-in-Same-clause-sizes g c h =
    let f = c.args.store.now.sets in
    let t = c.decide.new.store.sets in
    let left = left_of (cut_by (side_test c.args.side c.args.x) c.args.v.0 f) f t Same c.in-Same.ensures.ends (λ e. cc e) in
    subst (IsSizes c.args.sizes.now.words) (sym left.2) c.requires.sizes
