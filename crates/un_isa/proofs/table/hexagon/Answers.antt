use Rattle.un_isa.proofs.HexagonTable.{hexagon_entries, hexagon_fit}
use Rattle.un_isa.proofs.table.hexagon.Goals as goal

pub returns-clause-entries : goal.returns-clause-entries
returns-clause-entries c = rw (c.latencies.ensures, c.shares.ensures) hexagon_entries

pub returns-clause-fit : goal.returns-clause-fit
returns-clause-fit c = rw (c.latencies.ensures, c.shares.ensures) hexagon_fit
