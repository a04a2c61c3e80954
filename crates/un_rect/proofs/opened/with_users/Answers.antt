use Rattle.std.proofs.Common.{◌∙◌, drop, sym, ap}
use Rattle.un_rect.specs.Apart.{users_vars}
use Rattle.un_rect.specs.Opened.{opened_after}
use Rattle.un_rect.specs.OpenedLaws.{after_more, more_is}
use Rattle.un_rect.specs.declared.opened.Opened.{Opened}
use Rattle.un_rect.proofs.opened.with_users.Goals as goal

pub returns-then-is_more : goal.returns-then-is_more
returns-then-is_more c =
    let s = c.args.w.now.store.now.sets in
    let rest = users_vars (drop c.loop-u.u-index c.args.users.now) in
    sym (after_more s rest) ∙ (ap (λ (o : Opened). opened_after s rest o)
    (sym (more_is c.loop-u.so_far (sym c.is_more.ensures ∙ c.if-is_more.true))) ∙ c.loop-u.invariant)
