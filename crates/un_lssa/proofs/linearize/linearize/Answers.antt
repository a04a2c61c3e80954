use Rattle.std.proofs.Common.{◌≡◌, ◌∙◌, List, map, ap}
use Rattle.un_ir.specs.declared.extended.ExtBlock.{ExtBlock}
use Rattle.un_ir.specs.Linear.{linear_run}
use Rattle.un_ir.specs.LinearOf.{kind_of_pair}
use Rattle.un_lssa.proofs.FunctionRuns.{linear_runs}
use Rattle.un_lssa.proofs.KeptFunctions.{made_kept}
use Rattle.un_lssa.proofs.linearize.linearize.Goals as goal

pub returns-clause-runs : goal.returns-clause-runs
returns-clause-runs c = λ start n regs.
    let f = c.args.f.now in
    let t = c.args.t.now in
    ap (λ (bs : List ExtBlock). linear_run t bs start n) c.in_ok-blocks.ensures
    ∙ linear_runs f c.args.live.now.at_start t start n c.requires regs

pub returns-clause-kept : goal.returns-clause-kept
returns-clause-kept c = λ fit.
    let f = c.args.f.now in
    let names : c.in_ok-names.names ≡ map kind_of_pair f.names = c.in_ok-names.ensures ∙ ap (map kind_of_pair) c.as_slice.ensures in
    made_kept f c.args.live.now.at_start c.args.t.now c.requires fit c.in_ok-names.names c.in_ok-blocks.blocks names c.in_ok-blocks.ensures
