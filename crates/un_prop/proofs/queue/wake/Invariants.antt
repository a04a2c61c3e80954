-- those so far wait
use Rattle.std.proofs.Common.{◌≡◌, ℕ, ◌⊎◌, true, length, drop}
use Rattle.un_domains.specs.Sets.{has}
use Rattle.un_prop.specs.Queues.{waits, Grows}
use Rattle.un_prop.proofs.queue.wake.Given as goal

abbrev pub invariant-loop-i : goal.invariant-loop-i
invariant-loop-i l = record {
  long : length l.waiting ≡ length l.initial.waiting;
  there : (j : ℕ) → has l.places j ≡ true → (waits l.waiting j ≡ true) ⊎ (has (drop l.i-index l.places) j ≡ true);
  grows : Grows l.initial.waiting l.waiting;
}
