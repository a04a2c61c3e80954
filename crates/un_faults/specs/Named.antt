-- Lines that have a block line have a `func` line.
use Rattle.std.specs.Prelude.{◌≡◌, None, []}
use Rattle.un_faults.specs.declared.before.Before.{Before}

-- without a `func` line there is no label
abbrev pub IsNamed : Before → Type 0
IsNamed before = before.name ≡ None → before.labels ≡ []
