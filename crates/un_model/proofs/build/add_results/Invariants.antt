use Rattle.std.proofs.Common.{◌≡◌, ◌++◌, drop, length}
use Rattle.un_model.specs.Pairs.{places_from}
use Rattle.un_model.specs.Variables.{result_domain, op_temps, temp_of}
use Rattle.un_model.proofs.build.add_results.Given as goal

abbrev pub invariant-loop-j : goal.invariant-loop-j
invariant-loop-j l =
    let s = l.scope in
    record {
      domains : l.domains ++ places_from (result_domain s.ext.now s.options.now s.is_entry s.block.now l.op) l.j (drop l.j l.op.results)
          ≡ l.initial.domains ++ places_from (result_domain s.ext.now s.options.now s.is_entry s.block.now l.op) 0 l.op.results;
      temps : l.temps ++ places_from (temp_of l.n l.op) (length l.domains) (drop l.j l.op.results) ≡ l.initial.temps ++ op_temps l.n
          (length l.initial.domains) l.op;
    }
