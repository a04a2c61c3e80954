-- so many domains so far
use Rattle.std.proofs.Common.{◌≡◌, length, All}
use Rattle.un_domains.specs.Domains.{IsDomain}
use Rattle.inspect.proofs.chains.ranges.Given as goal

abbrev pub invariant-loop : goal.invariant-loop
invariant-loop l = record { each : All IsDomain l.domains.items; long : length l.domains.items ≡ l.counter }
