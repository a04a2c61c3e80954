use Rattle.std.proofs.Common.{◌≡◌, ◌++◌, drop}
use Rattle.un_sites.specs.Postings.{ends_by}
use Rattle.un_single.proofs.post_limit.ends_of.Given as goal

abbrev pub invariant-loop-k : goal.invariant-loop-k
invariant-loop-k l = l.ends ++ ends_by (drop l.k l.blocks) (drop l.k l.vars) ≡ ends_by l.blocks l.vars
