-- those below r are written, and the others stand as they were
use Rattle.std.proofs.Common.{◌≡◌, ℕ, ◌<◌, ◌≤◌, length, get_or}
use Rattle.un_packet.specs.Step.{replied}
use Rattle.un_packet.proofs.writes.take_reply.Given as goal

abbrev pub invariant-loop-r : goal.invariant-loop-r
invariant-loop-r l = record {
  long : length l.regs ≡ length l.fn.regs;
  below : (k : ℕ) → k < l.r → get_or l.regs k 0 ≡ replied l.t l.reply k (get_or l.fn.regs k 0);
  above : (k : ℕ) → l.r ≤ k → get_or l.regs k 0 ≡ get_or l.fn.regs k 0;
}
