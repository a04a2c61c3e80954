use Rattle.std.proofs.Common.{List, sym, subst, All}
use Rattle.un_prop.specs.Acts.{act_vars, at_vars}
use Rattle.un_prop.specs.AmongLaws.{has_among}
use Rattle.un_prop.specs.LookLaws.{known_of}
use Rattle.un_prop.specs.declared.act.UserOf.{UserOf}
use Rattle.un_rect.specs.Spans.{UserVars}
use Rattle.un_rect.proofs.extents.extent_of.Goals as goal

pub greatest_time-start-requires-clause-known : goal.greatest_time-start-requires-clause-known
greatest_time-start-requires-clause-known c = known_of c.args.w.now.vars.now (at_vars c.args.a.now.at) c.args.w.now.store.now.sets
    c.requires.vars.of_at c.requires.known

pub min-reg-requires-clause-there : goal.min-reg-requires-clause-there
min-reg-requires-clause-there c = has_among c.args.w.now.vars.now c.args.a.now.reg c.args.w.now.store.now.sets c.requires.vars.of_reg
    c.requires.known

pub min-reg-requires-clause-some : goal.min-reg-requires-clause-some
min-reg-requires-clause-some c = c.requires.live c.args.a.now.reg.0
    (has_among c.args.w.now.vars.now c.args.a.now.reg c.args.w.now.store.now.sets c.requires.vars.of_reg c.requires.known)

pub is_on-requires-clause-known : goal.is_on-requires-clause-known
is_on-requires-clause-known c = known_of c.args.w.now.vars.now (act_vars c.args.a.now.on) c.args.w.now.store.now.sets c.requires.vars.of_on
    c.requires.known

pub is_single-one-requires : goal.is_single-one-requires
is_single-one-requires c = has_among c.args.w.now.vars.now c.args.a.now.reg c.args.w.now.store.now.sets c.requires.vars.of_reg
    c.requires.known

pub least_time-first-requires-clause-known : goal.least_time-first-requires-clause-known
least_time-first-requires-clause-known c = known_of c.args.w.now.vars.now (at_vars c.args.a.now.at) c.args.w.now.store.now.sets
    c.requires.vars.of_at c.requires.known

pub last_reading-last-requires-clause-vars : goal.last_reading-last-requires-clause-vars
last_reading-last-requires-clause-vars c = subst (λ (us : List UserOf). All (UserVars c.args.w.now.vars.now) us) (sym c.as_slice.ensures)
    c.requires.vars.of_users
