use Rattle.std.proofs.Common.{ap, ◌∙◌, ◌++◌, refl, ℕ}
use Rattle.un_model.specs.Variables.{op_temps}
use Rattle.un_model.proofs.Numbering.{op_made, cycle_at, choice_at, register_at}
use Rattle.un_model.proofs.build.add_op.Goals as goal

pub returns-clause-domains : goal.returns-clause-domains
returns-clause-domains c =
    let s = c.args.scope.now in
    let b = s.block.now in
    let h1 = rw (c.instructions.ensures.domain, c.carries_truth.ensures) at c.in_ok-instr.ensures.domains in
    let h2 = rw c.cycles.ensures.domain at c.in_ok-cycle.ensures.domains in
    let h3 = rw c.chosen_operands.ensures at c.in_ok-choices.ensures.domains in
    op_made s.ext.now s.options.now s.is_entry b b.horizon c.args.op.now c.args.domains.now c.add_some.new.domains
    c.add_some-2.new.domains c.add_choices.new.domains c.add_results.new.domains h1 h2 h3 c.in_ok-add_results.ensures.domains

pub returns-clause-temps : goal.returns-clause-temps
returns-clause-temps c =
    let s = c.args.scope.now in
    let b = s.block.now in
    let h1 = rw (c.instructions.ensures.domain, c.carries_truth.ensures) at c.in_ok-instr.ensures.domains in
    let h2 = rw c.cycles.ensures.domain at c.in_ok-cycle.ensures.domains in
    let h3 = rw c.chosen_operands.ensures at c.in_ok-choices.ensures.domains in
    let at = register_at s.ext.now s.options.now s.is_entry b b.horizon c.args.op.now c.args.domains.now c.add_some.new.domains
    c.add_some-2.new.domains c.add_choices.new.domains h1 h2 h3 in
    c.in_ok-add_results.ensures.temps ∙ ap (λ (k : ℕ). c.args.temps.now ++ op_temps c.args.n k c.args.op.now) at

pub returns-clause-vars : goal.returns-clause-vars
returns-clause-vars c =
    let s = c.args.scope.now in
    let b = s.block.now in
    let h1 = rw (c.instructions.ensures.domain, c.carries_truth.ensures) at c.in_ok-instr.ensures.domains in
    let h2 = rw c.cycles.ensures.domain at c.in_ok-cycle.ensures.domains in
    let cycle = cycle_at s.ext.now s.options.now s.is_entry b b.horizon c.args.op.now c.args.domains.now c.add_some.new.domains h1 in
    let choice = choice_at s.ext.now s.options.now s.is_entry b b.horizon c.args.op.now c.args.domains.now c.add_some.new.domains
    c.add_some-2.new.domains h1 h2 in
    rw (
      c.in_ok-instr.ensures.var,
      c.in_ok-cycle.ensures.var,
      c.in_ok-choices.ensures.vars,
      c.instructions.ensures.some,
      c.cycles.ensures.some,
      c.chosen_operands.ensures,
      cycle,
      choice,
    ) refl
