use Rattle.std.proofs.Common.{sym, ◌∙◌, arith}
use Rattle.un_domains.specs.Sets.{set_at}
use Rattle.un_steps.proofs.Looks.{none_in}
use Rattle.un_logs.proofs.Within.{on_false, full_by}
use Rattle.un_logs.proofs.run.run_behind.Goals as goal

pub next_run-requires : goal.next_run-requires
next_run-requires c = on_false c.args.went _ c.if-not-went.true c.requires.full

pub next_run-requires-2 : goal.next_run-requires-2
next_run-requires-2 c =
    let n = c.size.ensures.value in
    let some = c.if-size-eq0.false in
    full_by c.args.s.now.sets c.args.t.now.var.0 c.requires.others (omega (arith, n, some))

pub returns-then-size-eq0-clause-none : goal.returns-then-size-eq0-clause-none
returns-then-size-eq0-clause-none c = λ y lo leaves.
    none_in (set_at c.args.s.now.sets c.args.t.now.var.0) y (sym c.size.ensures.value ∙ c.if-size-eq0.true) leaves.left
