-- Each line that is read comes to the blocks.
use Rattle.un_listing_reader.proofs.Standing.{line_goes, none_goes}
use Rattle.un_listing_reader.proofs.read.assemble.Goals as goal

pub loop-line-preserved-in-Continue-1 : goal.loop-line-preserved-in-Continue-1
loop-line-preserved-in-Continue-1 c = λ all.
    line_goes c.loop-line.blocks.items c.add_line.new.blocks.items c.in-Some-line.line c.in-Some.line
    c.loop-line.line-iterator.rest.items c.next.new.self.rest.items c.args.lines
    all (c.loop-line.invariant all) c.in-Some.ensures.steps.0 c.in-Some-line.is c.in_ok-add_line.ensures

pub loop-line-preserved : goal.loop-line-preserved
loop-line-preserved c = λ all.
    none_goes c.loop-line.blocks.items c.in-Some.line c.loop-line.line-iterator.rest.items c.next.new.self.rest.items c.args.lines
    all (c.loop-line.invariant all) c.in-Some.ensures.steps.0 c.in_default.is
