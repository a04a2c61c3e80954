use Rattle.std.proofs.Common.{sym, ◌∙◌, subst, arith}
use Rattle.un_judge.specs.Judged.{HasEmpty}
use Rattle.un_judge.proofs.Takings.{empty_at}
use Rattle.un_logs.proofs.Turning.{turn_once}
use Rattle.un_logs.proofs.Within.{on_true}
use Rattle.un_logs.proofs.round.take_turn.Goals as goal

pub returns-then-size-eq0-clause-does : goal.returns-then-size-eq0-clause-does
returns-then-size-eq0-clause-does c =
    let r = c.args.r.now in
    let t = c.args.t.now in
    let now = c.take_runs.new.cuts.sets in
    let went = on_true c.in_ok-went.went _ c.if-not-went.false c.in_ok-went.ensures.went in
    let there = went.0 in
    let long = c.in_ok-went.ensures.long in
    let empty = empty_at now t.var.0 (omega (arith, there, long)) (sym c.size.ensures.value ∙ c.if-size-eq0.true) in (
      empty,
      λ new k. subst HasEmpty
          (sym (k.2 ∙ turn_once r.m.now r.limit t c.args.cuts.now.sets k.0 now k.1 c.in_ok-went.ensures.turn)) empty,
    )
