use Rattle.std.proofs.Common.{arith}
use Rattle.un_outside.proofs.Pieces.{front_read}
use Rattle.un_outside.proofs.memory.copy_front.Goals as goal

pub returns-clause-front : goal.returns-clause-front
returns-clause-front c = front_read c.args.bytes.now c.args.buf.now c.copy_from_slice.new.self c.args.at c.min-count.result (omega arith)
    (cc c.copy_from_slice.ensures.after)
