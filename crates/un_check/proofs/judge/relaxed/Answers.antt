use Rattle.un_check.proofs.JudgeLemmas.{known_long, room_at, scratch_kept}
use Rattle.un_check.proofs.judge.relaxed.Goals as goal

pub relax_bound-requires-clause-known : goal.relax_bound-requires-clause-known
relax_bound-requires-clause-known c = known_long c.args.rules.now.m.now c.args.cuts.now.sets c.requires.long

pub relax_bound-requires-clause-room : goal.relax_bound-requires-clause-room
relax_bound-requires-clause-room c = room_at c.args.rules.now.m.now c.args.cuts.now.sets _ c.requires.long c.requires.room

pub returns-clause-room : goal.returns-clause-room
returns-clause-room c = scratch_kept c.args.rules.now.m.now _ _ c.requires.room c.relax_bound.ensures.fixed c.relax_bound.ensures.cycles
