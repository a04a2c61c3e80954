use Rattle.un_check.proofs.SoundCodes.{sound_codes}
use Rattle.un_check.proofs.laws.sound_code.Goals as goal

pub returns : goal.returns
returns c = sound_codes c.args.f.now c.args.m.now c.args.r.now.tree.nodes.items c.args.r.now.answer c.requires.problem c.requires.sound.answer
