use Rattle.std.proofs.Common.{List, sym, subst, All}
use Rattle.un_prop.specs.Acts.{at_vars}
use Rattle.un_prop.specs.LookLaws.{known_of}
use Rattle.un_prop.specs.declared.act.UserOf.{UserOf}
use Rattle.un_rect.specs.Spans.{UserVars}
use Rattle.un_rect.proofs.spans.greatest_end.Goals as goal

pub greatest_time-requires-clause-known : goal.greatest_time-requires-clause-known
greatest_time-requires-clause-known c = known_of c.args.w.now.vars.now (at_vars c.args.a.now.at) c.args.w.now.store.now.sets
    c.requires.vars.of_at c.requires.known

pub last_possible_use-requires-clause-vars : goal.last_possible_use-requires-clause-vars
last_possible_use-requires-clause-vars c = subst (λ (us : List UserOf). All (UserVars c.args.w.now.vars.now) us) (sym c.as_slice.ensures)
    c.requires.vars.of_users
