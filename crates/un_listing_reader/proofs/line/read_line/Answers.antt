-- A line that is no label's is what it is as a packet's.
use Rattle.std.proofs.Common.{Option, subst, sym}
use Rattle.un_listing_reader.specs.declared.line.Line.{Line}
use Rattle.un_listing_reader.specs.Reading.{IsReadAs}
use Rattle.un_listing_reader.proofs.LineReads.{HasNoLabel, line_read}
use Rattle.un_listing_reader.proofs.LinesBack.{one_reading}
use Rattle.un_listing_reader.proofs.line.read_line.Goals as goal

pub returns : goal.returns
returns c =
    let none : HasNoLabel c.args.text.now = λ label name e. absurd (cc (c.block_label.ensures.whole label name e, c.in_default.is)) in
    let read = subst (λ (o : Option Line). IsReadAs c.args.frame c.args.text.now o) (sym c.line_of.ensures)
    (line_read c.args.frame c.args.text.now none c.in_ok-read.read c.in_ok-read.ensures.read) in
    record { read = read; whole = λ line spells. one_reading c.args.frame c.requires c.args.text.now _ line read spells }
