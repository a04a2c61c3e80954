use Rattle.un_rect.proofs.Rows.{same_known, same_temp, same_user}
use Rattle.std.proofs.Common.{ap}
use Rattle.un_rect.proofs.orders.keep_both.Goals as goal

pub keep_user-first-requires-clause-of_b : goal.keep_user-first-requires-clause-of_b
keep_user-first-requires-clause-of_b c = c.requires.of_b

pub keep_user-first-requires-clause-of_u : goal.keep_user-first-requires-clause-of_u
keep_user-first-requires-clause-of_u c = c.requires.of_u

pub keep_user-first-requires-clause-known : goal.keep_user-first-requires-clause-known
keep_user-first-requires-clause-known c = c.requires.known

pub keep_user-first-requires-clause-live : goal.keep_user-first-requires-clause-live
keep_user-first-requires-clause-live c = c.requires.live

pub keep_reader-requires-clause-of_b : goal.keep_reader-requires-clause-of_b
keep_reader-requires-clause-of_b c = same_temp c.args.w.now.vars.now c.keep_user-first.new.w.vars.now c.args.b.now
    (ap (λ r. r.now) c.keep_user-first.ensures.vars) c.requires.of_b

pub keep_reader-requires-clause-of_u : goal.keep_reader-requires-clause-of_u
keep_reader-requires-clause-of_u c = same_user c.args.w.now.vars.now c.keep_user-first.new.w.vars.now c.args.u.now
    (ap (λ r. r.now) c.keep_user-first.ensures.vars) c.requires.of_u

pub keep_reader-requires-clause-known : goal.keep_reader-requires-clause-known
keep_reader-requires-clause-known c = same_known c.args.w.now.vars.now c.keep_user-first.new.w.vars.now c.args.w.now.store.now.sets
    c.keep_user-first.new.w.store.now.sets (ap (λ r. r.now) c.keep_user-first.ensures.vars)
    (c.keep_user-first.ensures.step.long) c.requires.known

pub keep_reader-requires-clause-live : goal.keep_reader-requires-clause-live
keep_reader-requires-clause-live c = c.keep_user-first.ensures.step.live c.requires.live
