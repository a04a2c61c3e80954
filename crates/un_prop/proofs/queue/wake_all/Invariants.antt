-- those so far wait
use Rattle.std.proofs.Common.{◌≡◌, ℕ, ◌<◌, length, true}
use Rattle.un_prop.specs.Queues.{waits}
use Rattle.un_prop.proofs.queue.wake_all.Given as goal

abbrev pub invariant-loop-i : goal.invariant-loop-i
invariant-loop-i l = record {
  long : length l.waiting ≡ length l.fn.waiting;
  wait : (k : ℕ) → k < l.i → waits l.waiting k ≡ true;
}
