use Rattle.std.proofs.Common.{refl}
use Rattle.un_logs.specs.Vars.{vars_at}
use Rattle.un_logs.proofs.Turning.{quiet_turns}
use Rattle.un_logs.proofs.Within.{on_true}
use Rattle.un_logs.proofs.round.take_place.Goals as goal

pub returns-then-is_quiet-clause-does : goal.returns-then-is_quiet-clause-does
returns-then-is_quiet-clause-does c =
    let r = c.args.r.now in (
      quiet_turns r.m.now r.limit c.args.rule c.args.place c.args.cuts.now.sets
          (on_true c.is_quiet.result _ c.if-is_quiet.true c.is_quiet.ensures) (vars_at c.args.rule r.m.now c.args.place),
      refl,
    )
