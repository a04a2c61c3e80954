use Rattle.std.proofs.Common.{ℕ, ◌≡◌, ◌++◌, List, map, append-nil, sym, ap, ◌∙◌, subst}
use Rattle.std.specs.Prelude.{OnOk}
use Rattle.std.specs.Option.{option_map}
use Rattle.un_steps.specs.Found.{operation_of}
use Rattle.un_steps.specs.Words.{number_of}
use Rattle.un_logs.specs.Vars.{vars_of, time_vars, one_var}
use Rattle.un_logs.proofs.vars.push_time_in.Goals as goal

pub returns-in-None : goal.returns-in-None
returns-in-None c =
    let old = map number_of c.args.vars.now.items in
    sym (append-nil old)
    ∙ ap (λ o. old ++ vars_of time_vars o) (sym (ap (option_map operation_of) c.in-None.is) ∙ c.at.ensures)

pub returns-in-Some : goal.returns-in-Some
returns-in-Some c =
    let old = map number_of c.args.vars.now.items in
    subst (λ (xs : List ℕ). OnOk c.push_some.result (map number_of c.push_some.new.vars.items ≡ xs))
    (ap (λ w. old ++ one_var w) c.time.ensures
    ∙ ap (λ o. old ++ vars_of time_vars o) (sym (ap (option_map operation_of) c.in-Some.is) ∙ c.at.ensures)) c.push_some.ensures
