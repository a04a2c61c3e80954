-- the words so far
use Rattle.std.proofs.Common.{◌≡◌, ◌++◌, ◌-◌, ◌^◌, replicate}
use Rattle.un_domains.proofs.store.fill.Given as goal

abbrev pub invariant-loop : goal.invariant-loop
invariant-loop l = l.words.items ≡ l.fn.words.items ++ replicate l.counter (2 ^ 64 - 1)
