use Rattle.un_saved.proofs.CallOwes.{call_counted}
use Rattle.un_saved.proofs.laws.reloaded_behind_call.Goals as goal

pub returns : goal.returns
returns c solved call vs n m keeps is_call names few =
    call_counted c.args.m.now.ext c.args.m.now.options c.args.s.now.values solved call vs n m keeps is_call names few
