use Rattle.un_rect.proofs.Going.{tighter}
use Rattle.un_rect.proofs.extents.before_again.Goals as goal

pub note_before-requires-clause-live : goal.note_before-requires-clause-live
note_before-requires-clause-live c = c.requires.live (tighter c.args.did c.if-eq.ensures)
