use Rattle.un_search.proofs.RoundLemmas.{all_room}
use Rattle.un_search.proofs.look.relaxed.Goals as goal

pub relax_bound-requires-clause-room : goal.relax_bound-requires-clause-room
relax_bound-requires-clause-room c = all_room _ _ _ c.args.m.now.ext.blocks c.requires.room c.requires.long
