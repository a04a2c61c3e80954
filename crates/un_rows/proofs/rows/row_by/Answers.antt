use Rattle.std.proofs.Common.{◌++◌, ◌∙◌, List, ap, arith, map}
use Rattle.std.specs.Option.{option_map}
use Rattle.un_counted.specs.declared.counted.LeastEnd.{LeastEnd}
use Rattle.un_rows.specs.Rows.{all_there, end_by_count}
use Rattle.un_rows.proofs.Walks.{all_first, all_done}
use Rattle.un_rows.proofs.rows.row_by.Goals as goal

pub loop-known-init : goal.loop-known-init
loop-known-init c =
    let f = end_by_count c.args.t.now c.args.basis c.args.s in
    ap (λ (row : List LeastEnd). option_map (λ (ys : List LeastEnd). row ++ ys) (all_there (map f c.args.knowns.now))) c.new-row.ensures
    ∙ all_first f c.args.knowns.now

pub returns : goal.returns
returns c = all_done (end_by_count c.args.t.now c.args.basis c.args.s) c.loop-known.known-index c.args.knowns.now c.loop-known.row _
    (omega (arith, c.loop-known-test.false)) c.loop-known.invariant
