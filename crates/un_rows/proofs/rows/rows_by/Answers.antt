use Rattle.std.proofs.Common.{ℕ, ◌≡◌, ◌+◌, ◌-◌, ◌++◌, ◌∙◌, List, ap, map, arith}
use Rattle.std.specs.Prelude.{Option}
use Rattle.std.specs.List.{range_with_len}
use Rattle.std.specs.Option.{option_to_list}
use Rattle.un_model.specs.Pairs.{joined}
use Rattle.un_counted.specs.declared.counted.LeastEnd.{LeastEnd}
use Rattle.un_rows.specs.Rows.{row_by}
use Rattle.un_rows.proofs.Walks.{range_more, range_done}
use Rattle.un_rows.proofs.rows.rows_by.Goals as goal

pub loop-s-init : goal.loop-s-init
loop-s-init c =
    let f = λ (s : ℕ). option_to_list (row_by c.args.t.now c.args.basis c.args.knowns.now s) in
    let whole : c.args.basis.saved + 1 - 0 ≡ c.args.basis.saved + 1 = omega arith in
    ap (λ (rows : List (List LeastEnd)). rows ++ joined (map f (range_with_len 0 (c.args.basis.saved + 1 - 0)))) c.new-rows.ensures
    ∙ ap (λ (n : ℕ). joined (map f (range_with_len 0 n))) whole

pub loop-s-preserved : goal.loop-s-preserved
loop-s-preserved c =
    let f = λ (s : ℕ). option_to_list (row_by c.args.t.now c.args.basis c.args.knowns.now s) in
    range_more f c.loop-s.s (c.args.basis.saved + 1) c.loop-s.rows c.add_row.new.rows _
    (omega (arith, c.loop-s-test.true, c.in_ok-past.ensures.later)) c.loop-s.invariant
    (c.in_ok-add_row.ensures
    ∙ ap (λ (row : Option (List LeastEnd)). c.loop-s.rows ++ option_to_list row) c.in_ok-row.ensures)

pub returns : goal.returns
returns c =
    range_done (λ (s : ℕ). option_to_list (row_by c.args.t.now c.args.basis c.args.knowns.now s)) c.loop-s.s (c.args.basis.saved + 1)
    c.loop-s.rows _ (omega (arith, c.loop-s-test.false, c.in_ok-past.ensures.later)) c.loop-s.invariant
