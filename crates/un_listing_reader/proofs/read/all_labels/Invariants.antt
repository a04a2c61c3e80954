-- the labels of the lines so far
use Rattle.std.proofs.Common.{take}
use Rattle.un_listing_reader.specs.Reading.{labels_in}
use Rattle.un_listing_reader.specs.LabelSets.{SameLabels}
use Rattle.un_listing_reader.proofs.read.all_labels.Given as goal

abbrev pub invariant-loop-line : goal.invariant-loop-line
invariant-loop-line l = SameLabels l.labels (labels_in (take l.line-index l.lines))
