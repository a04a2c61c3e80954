use Rattle.un_logs.proofs.Turning.{on_not, quiet_full}
use Rattle.un_logs.proofs.round.is_quiet.Goals as goal

pub returns-in-TooFull : goal.returns-in-TooFull
returns-in-TooFull c =
    let r = c.args.r.now in
    on_not c.is_full_at.result _ _ c.is_full_at.ensures
    (quiet_full r.m.now r.limit c.args.rule c.args.place c.args.s.now.sets c.in-TooFull.is)
