use Rattle.un_top.proofs.Answered.{too_long_by}
use Rattle.un_top.proofs.produce.input_of.Goals as goal

pub returns-in-Err-TooLong-clause-refused : goal.returns-in-Err-TooLong-clause-refused
returns-in-Err-TooLong-clause-refused g c =
    too_long_by (g.S.Source.left c.args.src.now) c.args.command _ c.most_bytes.ensures (c.in-Err-TooLong.ensures.too_long
    (cc c.in-Err-TooLong.field-0-is))
