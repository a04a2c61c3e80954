-- A label that is not the last line is looked up in the set.
use Rattle.std.proofs.Common.{arith}
use Rattle.un_listing_reader.proofs.Judged.{block_decides}
use Rattle.un_listing_reader.proofs.judge.block_stands.Goals as goal

pub returns : goal.returns
returns c = λ lines after known ends.
    block_decides c.args.before.now c.args.is_last lines after c.args.label.now known ends c.if-is_last.false
    (omega arith) c.has.result c.has.ensures
