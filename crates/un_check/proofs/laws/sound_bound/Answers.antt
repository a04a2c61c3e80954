use Rattle.un_check.proofs.SoundBounds.{sound_bounds}
use Rattle.un_check.proofs.laws.sound_bound.Goals as goal

pub returns : goal.returns
returns c = sound_bounds c.args.f.now c.args.m.now c.args.r.now.tree.nodes.items c.args.r.now.answer c.requires.problem c.requires.sound.answer
