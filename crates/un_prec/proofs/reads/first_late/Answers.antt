use Rattle.std.proofs.Common.{ℕ, ◌∙◌, ◌+◌, nat_le, ap}
use Rattle.std.specs.List.{list_any}
use Rattle.un_prop.specs.Acts.{at_vars}
use Rattle.un_prop.specs.Choices.{passes_at}
use Rattle.un_prop.specs.LookLaws.{known_of}
use Rattle.un_prop.specs.Looks.{act_set}
use Rattle.un_prec.proofs.reads.first_late.Goals as goal

pub least_time-least-requires-clause-known : goal.least_time-least-requires-clause-known
least_time-least-requires-clause-known c = known_of c.args.w.now.vars.now (at_vars c.args.a.now.at) c.args.w.now.store.now.sets
    c.requires.vars.of_at c.requires.known

pub returns : goal.returns
returns c t =
    let a = c.args.a.now in
    c.first_from.ensures t
    ∙ ap (λ (m : ℕ). list_any (λ n. passes_at (λ g. nat_le (m + g) t) a.gaps n) (act_set a.on c.args.w.now.store.now.sets))
    c.least_time-least.ensures
