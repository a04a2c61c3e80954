use Rattle.std.proofs.Common.{◌≡◌, ◌∙◌, ℕ, false, true, List, sym, subst, All}
use Rattle.un_model.specs.declared.model.OpVars.{OpVars}
use Rattle.un_model.specs.Cost.{value_of}
use Rattle.un_model.specs.Schedules.{value_by}
use Rattle.un_lists.proofs.Lists.{each_of}
use Rattle.un_violations.specs.Loose.{is_cycle, is_time_in}
use Rattle.un_compact.specs.Squeezes.{is_in, squeezed}
use Rattle.un_compact.specs.Retimed.{AreMoved}
use Rattle.un_compact.proofs.Clauses.{all_of}
use Rattle.un_compact.proofs.Retiming.{none_moved, block_moved, same_use}
use Rattle.un_compact.proofs.Times.{start_in_use, cycle_in_use, end_in_use}
use Rattle.un_compact.proofs.compact.move_block.Goals as goal

pub move_cycles-requires-clause-start : goal.move_cycles-requires-clause-start
move_cycles-requires-clause-start c =
    subst (λ (ts : List ℕ). is_in ts 0 ≡ true) (sym c.as_slice-2.ensures.value)
    (same_use c.args.old.now c.args.vars.now c.in_ok-times.times.items c.in_ok-times.ensures.permutation 0
    ∙ start_in_use c.args.old.now c.args.vars.now)

pub move_cycles-requires-clause-inside : goal.move_cycles-requires-clause-inside
move_cycles-requires-clause-inside c =
    let old = c.args.old.now in
    let vars = c.args.vars.now in
    subst (λ (ops : List OpVars). All (λ (o : OpVars). is_in c.as_slice-2.result.now (value_by old o.cycle) ≡ true) ops)
    (sym c.as_slice.ensures)
    (all_of (λ (o : OpVars). is_in c.as_slice-2.result.now (value_by old o.cycle) ≡ true) vars.ops
    (each_of (λ (o : OpVars). is_in c.as_slice-2.result.now (value_by old o.cycle) ≡ true) vars.ops (λ o m.
    subst (λ (ts : List ℕ). is_in ts (value_by old o.cycle) ≡ true) (sym c.as_slice-2.ensures.value)
    (same_use old vars c.in_ok-times.times.items c.in_ok-times.ensures.permutation (value_by old o.cycle) ∙ cycle_in_use old vars o m))))

pub move_time-requires-clause-start : goal.move_time-requires-clause-start
move_time-requires-clause-start c =
    subst (λ (ts : List ℕ). is_in ts 0 ≡ true) (sym c.as_slice-3.ensures.value)
    (same_use c.args.old.now c.args.vars.now c.in_ok-times.times.items c.in_ok-times.ensures.permutation 0
    ∙ start_in_use c.args.old.now c.args.vars.now)

pub move_time-requires-clause-inside : goal.move_time-requires-clause-inside
move_time-requires-clause-inside c =
    let old = c.args.old.now in
    let vars = c.args.vars.now in
    subst (λ (ts : List ℕ). is_in ts (value_of old vars.end) ≡ true) (sym c.as_slice-3.ensures.value)
    (same_use old vars c.in_ok-times.times.items c.in_ok-times.ensures.permutation (value_of old vars.end) ∙ end_in_use old vars)

pub returns : goal.returns
returns c =
    let old = c.args.old.now in
    let before = c.args.new.now in
    let vars = c.args.vars.now in
    let times = c.in_ok-times.times.items in
    let cycles = c.move_cycles.ensures (λ (k : ℕ). false) before (none_moved (squeezed (is_in c.as_slice-2.result.now)) old before) in
    let all = subst (λ (ops : List OpVars). AreMoved (λ (k : ℕ). is_cycle ops k) (squeezed (is_in c.as_slice-2.result.now)) old before
    c.move_cycles.new.new) c.as_slice.ensures cycles in
    let by_times = subst (λ (ts : List ℕ). AreMoved (λ (k : ℕ). is_cycle vars.ops k) (squeezed (is_in ts)) old before c.move_cycles.new.new)
    (c.as_slice-2.ensures.value ∙ sym c.as_slice-3.ensures.value) all in
    let end = c.move_time.ensures (λ (k : ℕ). is_cycle vars.ops k) before by_times in
    block_moved old before c.move_time.new.new vars times c.in_ok-times.ensures.permutation
    (subst (λ (ts : List ℕ). AreMoved (is_time_in vars) (squeezed (is_in ts)) old before c.move_time.new.new) c.as_slice-3.ensures.value
    end)
