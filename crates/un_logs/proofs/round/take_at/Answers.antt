use Rattle.std.proofs.Common.{◌+◌, [], ◌∷◌, map, take, get_or, sym, ap, ◌∙◌}
use Rattle.std.proofs.lemmas.List.{map-append}
use Rattle.un_base.specs.declared.ids.VarId.{VarId}
use Rattle.un_steps.specs.Words.{number_of}
use Rattle.un_logs.specs.Rounds.{turn}
use Rattle.un_logs.proofs.Listing.{map_take, list_rest, map_rest}
use Rattle.un_logs.proofs.Passing.{does_next, does_ended, goes_on}
use Rattle.un_logs.proofs.Writing.{writes_then}
use Rattle.un_logs.proofs.round.take_at.Goals as goal

pub loop-var-preserved : goal.loop-var-preserved
loop-var-preserved c =
    let g = turn c.args.rule c.args.place in
    let xs = c.deref-var-items.result.now in
    let k = c.loop-var.var-index in
    let v : VarId = get_or xs k (record { 0 = 0 }) in
    let i = c.loop-var.invariant in
    let e = c.in_ok-next.ensures in
    record {
      on = goes_on c.joined-pass.result c.in_default.not-Emptied;
      does = does_next c.args.r.now (map g (map number_of (take k xs))) (g (number_of v) ∷ []) (map g (map number_of (take (k + 1) xs)))
          c.args.cuts.now.sets c.loop-var.cuts.sets c.take_turn.new.cuts.sets c.loop-var.pass c.in_ok-next.next c.joined-pass.result i.on
          i.does e.does c.joined-pass.ensures
          (ap (map g) (map_take number_of xs k (record { 0 = 0 }) c.loop-var-test.true)
          ∙ map-append g (map number_of (take k xs)) (number_of v ∷ []));
      writes = writes_then c.args.r.now c.args.cuts.now.sets c.loop-var.cuts.sets c.take_turn.new.cuts.sets c.args.text.now.items
          c.loop-var.text.items c.take_turn.new.text.items i.writes e.writes;
      marked = e.marked ∙ i.marked;
    }

pub returns-in-Emptied-clause-does : goal.returns-in-Emptied-clause-does
returns-in-Emptied-clause-does c =
    let g = turn c.args.rule c.args.place in
    let xs = c.deref-var-items.result.now in
    let k = c.loop-var.var-index in
    let v : VarId = get_or xs k (record { 0 = 0 }) in
    let i = c.loop-var.invariant in
    let e = c.in_ok-next.ensures in
    let r = map_rest g (map number_of (take (k + 1) xs)) (map number_of xs) (map_rest number_of (take (k + 1) xs) xs (list_rest (k + 1) xs)) in
    does_ended c.args.r.now (map g (map number_of (take k xs))) (g (number_of v) ∷ []) (map g (map number_of (take (k + 1) xs))) r.behind
    _ c.args.cuts.now.sets c.loop-var.cuts.sets c.take_turn.new.cuts.sets c.loop-var.pass c.in_ok-next.next c.joined-pass.result i.on
    i.does e.does c.joined-pass.ensures
    (ap (map g) (map_take number_of xs k (record { 0 = 0 }) c.loop-var-test.true)
    ∙ map-append g (map number_of (take k xs)) (number_of v ∷ []))
    (ap (map g) (sym c.in_ok-vars_at.ensures ∙ ap (map number_of) (sym c.deref-var-items.ensures.value)) ∙ r.whole) c.in-Emptied.is

pub returns-in-Emptied-clause-writes : goal.returns-in-Emptied-clause-writes
returns-in-Emptied-clause-writes c =
    let i = c.loop-var.invariant in
    let e = c.in_ok-next.ensures in
    writes_then c.args.r.now c.args.cuts.now.sets c.loop-var.cuts.sets c.take_turn.new.cuts.sets c.args.text.now.items
    c.loop-var.text.items c.take_turn.new.text.items i.writes e.writes
