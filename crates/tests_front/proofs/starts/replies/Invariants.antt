-- each reply so far is one to a call that runs on the memory
use Rattle.std.proofs.Common.{◌≡◌, true}
use Rattle.std.specs.List.{list_all}
use Rattle.un_isa.specs.Starts.{is_reply}
use Rattle.tests_front.proofs.starts.replies.Given as goal

abbrev pub invariant-loop-answer : goal.invariant-loop-answer
invariant-loop-answer l = list_all (is_reply l.memory) l.list ≡ true
