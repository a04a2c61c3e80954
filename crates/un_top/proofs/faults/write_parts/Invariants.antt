-- the parts so far were appended, and the count has not fallen
use Rattle.std.proofs.Common.{◌≤◌, take}
use Rattle.std.specs.List.{concat}
use Rattle.std.specs.Io.KnownBytes.{Appends}
use Rattle.un_top.proofs.Parts.{texts_of}
use Rattle.un_top.proofs.faults.write_parts.Given as goal

abbrev pub invariant-loop-part : goal.invariant-loop-part
invariant-loop-part g l = record {
  later : g.K.Sink.faults l.fn.sink ≤ g.K.Sink.faults l.sink;
  front : Appends (g.K.Sink.held l.fn.sink) (g.K.Sink.held l.sink) (concat (take l.part-index (texts_of l.parts)));
}
