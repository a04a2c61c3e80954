-- those below r are written, and the others stand as they were
use Rattle.std.proofs.Common.{◌≡◌, ℕ, ◌<◌, ◌≤◌, length, get_or}
use Rattle.un_packet.specs.Step.{call_ready}
use Rattle.un_packet.proofs.writes.wait_for_call.Given as goal

abbrev pub invariant-loop-r : goal.invariant-loop-r
invariant-loop-r l = record {
  long : length l.ready ≡ length l.fn.ready;
  below : (k : ℕ) → k < l.r → get_or l.ready k 0 ≡ call_ready l.t l.cycle k (get_or l.fn.ready k 0);
  above : (k : ℕ) → l.r ≤ k → get_or l.ready k 0 ≡ get_or l.fn.ready k 0;
}
