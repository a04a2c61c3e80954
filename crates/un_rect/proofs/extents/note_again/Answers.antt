use Rattle.un_rect.proofs.Going.{tighter}
use Rattle.un_rect.proofs.extents.note_again.Goals as goal

pub note-requires-clause-live : goal.note-requires-clause-live
note-requires-clause-live c = c.requires.live (tighter c.args.did c.if-eq.ensures)
