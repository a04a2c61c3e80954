use Rattle.un_target.proofs.TableLaws.{no_json}
use Rattle.un_target.proofs.Verdicts.{not_so}
use Rattle.un_target.proofs.reading.json.Goals as goal

pub returns-else-is_memory-clause-bad : goal.returns-else-is_memory-clause-bad
returns-else-is_memory-clause-bad c = no_json c.args.text.now
    (λ u. c.in-Err.ensures.err (not_so c.is_memory.ensures c.if-is_memory.false) u)
