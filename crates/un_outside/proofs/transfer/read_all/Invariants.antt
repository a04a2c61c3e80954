-- what was read is what the source lost, and no call has failed
use Rattle.std.proofs.Common.{◌≡◌, ◌-◌, ◌+◌, ◌≤◌, vec_len}
use Rattle.std.specs.Io.KnownBytes.{Consumes}
use Rattle.un_outside.proofs.transfer.read_all.Given as goal

abbrev pub invariant-loop-bytes : goal.invariant-loop-bytes
invariant-loop-bytes g l = record {
  quiet : g.S.Source.faults l.src ≡ g.S.Source.faults l.fn.src;
  room : vec_len l.bytes ≤ l.max + 1;
  calls : g.S.Source.calls l.src ≤ g.S.Source.calls l.fn.src + vec_len l.bytes;
  taken : Consumes (g.S.Source.left l.fn.src) (g.S.Source.left l.src) l.bytes.items;
}

abbrev pub decreases-loop-bytes : goal.decreases-loop-bytes
decreases-loop-bytes g l = l.max + 1 - vec_len l.bytes
