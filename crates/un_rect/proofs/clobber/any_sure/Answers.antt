use Rattle.un_rect.proofs.clobber.any_sure.Goals as goal

pub is_sure_user-requires-clause-known : goal.is_sure_user-requires-clause-known
is_sure_user-requires-clause-known c = c.requires.known

pub is_sure_user-requires-clause-live : goal.is_sure_user-requires-clause-live
is_sure_user-requires-clause-live c = c.requires.live
