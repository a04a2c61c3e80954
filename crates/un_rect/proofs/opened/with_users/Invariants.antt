-- the users so far, and the rest
use Rattle.std.proofs.Common.{◌≡◌, drop}
use Rattle.un_rect.specs.Apart.{users_vars}
use Rattle.un_rect.specs.Opened.{opened_after}
use Rattle.un_rect.proofs.opened.with_users.Given as goal

abbrev pub invariant-loop-u : goal.invariant-loop-u
invariant-loop-u l = opened_after l.w.store.now.sets (users_vars (drop l.u-index l.users)) l.so_far ≡ opened_after l.w.store.now.sets
    (users_vars l.users) l.fn.before
