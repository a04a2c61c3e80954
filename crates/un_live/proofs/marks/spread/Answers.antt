use Rattle.std.proofs.Common.{◌∙◌}
use Rattle.un_live.specs.Marks.{name_of}
use Rattle.un_live.proofs.LiveLaws.{is_column}
use Rattle.un_live.proofs.marks.spread.Goals as goal

pub returns : goal.returns
returns c =
    is_column c.args.blocks.now (name_of c.args.name) c.sweep.new.marks (c.sweep.auto.marks ∙ c.sweeps.invariant.long) c.sweep.ensures.sound
    (c.sweep.ensures.no c.sweeps-test.false)
