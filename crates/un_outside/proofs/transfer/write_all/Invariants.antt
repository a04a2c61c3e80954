-- the front was appended, by at most a call for each of its bytes and for each piece of a sink that tells it, and no
-- call has failed
use Rattle.std.proofs.Common.{◌≡◌, ◌-◌, ◌+◌, ◌≤◌, length, take, IfSome}
use Rattle.std.specs.Io.KnownBytes.{Appends}
use Rattle.un_outside.proofs.Paces.{IsPaced}
use Rattle.un_outside.proofs.transfer.write_all.Given as goal

abbrev pub invariant-loop-at : goal.invariant-loop-at
invariant-loop-at g l = record {
  quiet : g.K.Sink.faults l.sink ≡ g.K.Sink.faults l.fn.sink;
  calls : g.K.Sink.calls l.sink ≤ g.K.Sink.calls l.fn.sink + l.at;
  within : l.at ≤ length l.bytes;
  front : Appends (g.K.Sink.held l.fn.sink) (g.K.Sink.held l.sink) (take l.at l.bytes);
  same_piece : g.K.Sink.piece l.sink ≡ g.K.Sink.piece l.fn.sink;
  paced : IfSome (g.K.Sink.piece l.fn.sink) (IsPaced l.at (length l.bytes) (g.K.Sink.calls l.fn.sink) (g.K.Sink.calls l.sink)
      (g.K.Sink.is_full l.sink));
}

abbrev pub decreases-loop-at : goal.decreases-loop-at
decreases-loop-at g l = length l.bytes - l.at
