use Rattle.un_rect.proofs.Going.{tighter}
use Rattle.un_rect.proofs.left.left_again.Goals as goal

pub note_left-requires-clause-live : goal.note_left-requires-clause-live
note_left-requires-clause-live c = c.requires.live (tighter c.args.did c.if-eq.ensures)
