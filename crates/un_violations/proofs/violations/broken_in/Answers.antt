use Rattle.std.proofs.Common.{ℕ, ap, ◌∙◌, sym, map}
use Rattle.un_model.specs.declared.verdict.Broken.{Broken}
use Rattle.un_model.specs.Schedules.{schedule_of}
use Rattle.un_model.specs.Solutions.{latency_gap}
use Rattle.un_violations.proofs.Verdicts.{solves, unbroken, map_empty}
use Rattle.un_violations.proofs.violations.broken_in.Goals as goal

pub returns-clause-lists : goal.returns-clause-lists
returns-clause-lists c =
    let h = rw (c.as_slice.ensures, c.in_ok-t.ensures) at c.in_ok-found.ensures in
    (c.in_ok-found.found, (h, c.in_ok-list.ensures))

pub returns-clause-solves : goal.returns-clause-solves
returns-clause-solves c =
    let h = rw (c.as_slice.ensures, c.in_ok-t.ensures) at c.in_ok-found.ensures in
    let m = c.args.m.now in
    let domains = c.args.domains.now in
    let values = c.args.s.now.values in
    let t = schedule_of m values in
    let clause_of : Broken → ℕ = λ b. b.clause in (
      λ e. solves (latency_gap m.ext.table) domains m values t c.in_ok-found.found h (sym c.in_ok-list.ensures ∙ ap (map clause_of) e),
      λ s. map_empty clause_of c.in_ok-list.list.items
          (c.in_ok-list.ensures ∙ unbroken (latency_gap m.ext.table) domains m values t c.in_ok-found.found h s),
    )
