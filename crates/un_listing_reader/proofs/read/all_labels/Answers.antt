-- The label of one line more.
use Rattle.std.proofs.Common.{List, Option, take, subst, arith}
use Rattle.std.proofs.lemmas.List.{take_all}
use Rattle.un_listing_reader.specs.declared.line.Line.{Line}
use Rattle.un_listing_reader.specs.Reading.{labels_in}
use Rattle.un_listing_reader.specs.LabelSets.{SameLabels}
use Rattle.un_listing_reader.proofs.Standing.{got, take_here}
use Rattle.un_listing_reader.proofs.read.all_labels.Goals as goal

pub loop-line-preserved : goal.loop-line-preserved
loop-line-preserved c =
    rw (take_here c.args.lines.now c.loop-line.line-index c.line-item.result
    (got c.args.lines.now c.loop-line.line-index c.line-item.result (omega arith) c.line-item.is))
    (c.in_ok-add_label_of.ensures (take c.loop-line.line-index c.args.lines.now) c.loop-line.invariant)

pub returns : goal.returns
returns c =
    subst (λ (ls : List (Option Line)). SameLabels c.loop-line.labels (labels_in ls))
    (take_all c.loop-line.line-index c.args.lines.now (omega arith)) c.loop-line.invariant
