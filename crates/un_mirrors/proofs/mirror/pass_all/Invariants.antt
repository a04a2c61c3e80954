-- the decisions so far are passed
use Rattle.std.proofs.Common.{take, All}
use Rattle.un_mirrors.specs.Exchanged.{PassesExchanged}
use Rattle.un_mirrors.proofs.mirror.pass_all.Given as goal

abbrev pub invariant-loop-k : goal.invariant-loop-k
invariant-loop-k l = All (PassesExchanged l.m.temps l.a.0 l.b.0 l.stand.cuts.sets) (take l.k l.stand.path.items)
