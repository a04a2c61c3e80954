use Rattle.std.proofs.Common.{ℕ, ◌++◌, List, map, take, append_assoc, sym, ap, ◌∙◌, arith}
use Rattle.std.specs.Prelude.{slice_get}
use Rattle.std.specs.List.{flat_map}
use Rattle.un_steps.specs.Full.{operations_of}
use Rattle.un_steps.specs.Words.{number_of}
use Rattle.un_logs.specs.Vars.{vars_of, time_vars}
use Rattle.un_logs.proofs.Listing.{flat_next, take_all}
use Rattle.un_logs.proofs.vars.push_times_of.Goals as goal

pub loop-i-preserved : goal.loop-i-preserved
loop-i-preserved c =
    let ps = operations_of c.args.b.now in
    let old = map number_of c.args.vars.now.items in
    let i = c.loop-i.i in
    let here = vars_of time_vars (slice_get ps i) in
    c.in_ok-push_time_in.ensures
    ∙ (ap (λ (ys : List ℕ). ys ++ here) c.loop-i.invariant
    ∙ (append_assoc old (flat_map time_vars (take i ps)) here ∙ ap (λ (ys : List ℕ). old ++ ys) (sym (flat_next time_vars ps i))))

pub returns : goal.returns
returns c =
    let ps = operations_of c.args.b.now in
    let n = c.count-i-end.ensures in let t = c.loop-i-test.false in
    c.loop-i.invariant
    ∙ ap (λ (xs : List _). map number_of c.args.vars.now.items ++ flat_map time_vars xs) (take_all ps c.loop-i.i (omega (arith, n, t)))
