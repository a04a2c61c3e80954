use Rattle.std.proofs.Common.{ℕ, ◌++◌, List, map, take, append_assoc, sym, ap, ◌∙◌}
use Rattle.std.specs.Prelude.{slice_get}
use Rattle.std.specs.List.{flat_map}
use Rattle.un_base.specs.declared.ids.TempId.{TempId}
use Rattle.un_steps.specs.Words.{number_of, reg_numbers}
use Rattle.un_logs.proofs.Listing.{flat_take}
use Rattle.un_logs.proofs.vars.push_results.Goals as goal

pub loop-j-preserved : goal.loop-j-preserved
loop-j-preserved c =
    let m = c.args.m.now in
    let f = λ (x : TempId). reg_numbers (slice_get m.temps x.0) in
    let xs = c.args.p.now.op.now.results in
    c.in_ok-push_register.ensures
    ∙ (ap (λ (ys : List ℕ). ys ++ f c.get-x.result.now) c.loop-j.invariant
    ∙ (append_assoc (map number_of c.args.vars.now.items) (flat_map f (take c.loop-j.j xs)) (f c.get-x.result.now)
    ∙ ap (λ (ys : List ℕ). map number_of c.args.vars.now.items ++ ys) (sym (flat_take f xs c.loop-j.j c.get-x.result.now c.get-x.ensures))))
