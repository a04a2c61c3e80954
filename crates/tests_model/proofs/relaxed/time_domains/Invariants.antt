use Rattle.std.proofs.Common.{◌≡◌, length}
use Rattle.std.specs.Prelude.{All}
use Rattle.un_domains.specs.Domains.{IsDomain}
use Rattle.tests_model.proofs.relaxed.time_domains.Given as goal

abbrev pub invariant-loop-i : goal.invariant-loop-i
invariant-loop-i l = record {
  each : All IsDomain l.all.items;
  long : length l.all.items ≡ l.i;
}
