use Rattle.std.proofs.Common.{List, sym, subst}
use Rattle.std.specs.Prelude.{All}
use Rattle.un_prop.specs.declared.act.UserOf.{UserOf}
use Rattle.un_rect.specs.Spans.{UserVars}
use Rattle.un_rect.proofs.clobber.is_read_behind.Goals as goal

pub any_sure-requires-clause-vars : goal.any_sure-requires-clause-vars
any_sure-requires-clause-vars c = subst (λ (us : List UserOf). All (UserVars c.args.w.now.vars.now) us) (sym c.as_slice.ensures)
    c.requires.of_call.of_behind

pub any_sure-requires-clause-known : goal.any_sure-requires-clause-known
any_sure-requires-clause-known c = c.requires.known

pub any_sure-requires-clause-live : goal.any_sure-requires-clause-live
any_sure-requires-clause-live c = c.requires.live
