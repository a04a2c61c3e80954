-- as many propagators
use Rattle.std.proofs.Common.{◌≡◌, length}
use Rattle.std.specs.List.{sum_by}
use Rattle.un_prop.specs.Queues.{flag}
use Rattle.un_prop.proofs.queue.rest_all.Given as goal

abbrev pub invariant-loop : goal.invariant-loop
invariant-loop l = length l.waiting ≡ length l.fn.waiting

abbrev pub decreases-loop : goal.decreases-loop
decreases-loop l = sum_by flag l.waiting
