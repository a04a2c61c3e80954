use Rattle.std.proofs.Common.{List, length, ap, arith, lit<}
use Rattle.serde_json.specs.declared.value.Value.{Value}
use Rattle.serde_json.specs.View.{view}
use Rattle.un_target.proofs.UseLaws.{IsNoneAbove, four_items, item_of_four, some_number}
use Rattle.un_target.proofs.Verdicts.{if_none}
use Rattle.un_target.proofs.uses.needs_above.Goals as goal

pub returns-in_default-clause-none : goal.returns-in_default-clause-none
returns-in_default-clause-none c = λ n e fit. absurd (omega (
  arith,
  c.in_default.len_below,
  ap (λ (vs : List Value). length vs) c.as_slice.ensures.value,
  four_items (view c.args.value.now) c.in_ok-as_array.field-0.now.items n c.in_ok-as_array.ensures e,
))

pub returns-in_default-2-clause-none : goal.returns-in_default-2-clause-none
returns-in_default-2-clause-none c = λ n e fit. absurd (omega (
  arith,
  c.in_default.len_at_least,
  ap (λ (vs : List Value). length vs) c.as_slice.ensures.value,
  four_items (view c.args.value.now) c.in_ok-as_array.field-0.now.items n c.in_ok-as_array.ensures e,
))

pub returns-in_err-number_within-clause-none : goal.returns-in_err-number_within-clause-none
returns-in_err-number_within-clause-none c = if_none _ (IsNoneAbove c.args.value.now c.args.least.now) (λ n e fit.
    c.in_err-number_within.ensures.none n.mem fit.mem.0 fit.mem.1 (some_number (view c.mem-item.result) n.mem
    (item_of_four (view c.args.value.now) c.in_ok-as_array.field-0.now.items c.as_slice.result.now n c.mem-item.result 0
    c.in_ok-as_array.ensures e c.as_slice.ensures.value c.mem-item.is (lit< tt))))

pub returns-in_err-number_within-2-clause-none : goal.returns-in_err-number_within-2-clause-none
returns-in_err-number_within-2-clause-none c = if_none _ (IsNoneAbove c.args.value.now c.args.least.now) (λ n e fit.
    c.in_err-number_within-2.ensures.none n.store fit.store.0 fit.store.1 (some_number (view c.store-item.result) n.store
    (item_of_four (view c.args.value.now) c.in_ok-as_array.field-0.now.items c.as_slice.result.now n c.store-item.result 1
    c.in_ok-as_array.ensures e c.as_slice.ensures.value c.store-item.is (lit< tt))))

pub returns-in_err-number_within-3-clause-none : goal.returns-in_err-number_within-3-clause-none
returns-in_err-number_within-3-clause-none c = if_none _ (IsNoneAbove c.args.value.now c.args.least.now) (λ n e fit.
    c.in_err-number_within-3.ensures.none n.xc fit.xc.0 fit.xc.1 (some_number (view c.xc-item.result) n.xc
    (item_of_four (view c.args.value.now) c.in_ok-as_array.field-0.now.items c.as_slice.result.now n c.xc-item.result 2
    c.in_ok-as_array.ensures e c.as_slice.ensures.value c.xc-item.is (lit< tt))))

pub returns-in_err-number_within-4-clause-none : goal.returns-in_err-number_within-4-clause-none
returns-in_err-number_within-4-clause-none c = if_none _ (IsNoneAbove c.args.value.now c.args.least.now) (λ n e fit.
    c.in_err-number_within-4.ensures.none n.control fit.control.0 fit.control.1 (some_number (view c.control-item.result) n.control
    (item_of_four (view c.args.value.now) c.in_ok-as_array.field-0.now.items c.as_slice.result.now n c.control-item.result 3
    c.in_ok-as_array.ensures e c.as_slice.ensures.value c.control-item.is (lit< tt))))
