use Rattle.std.proofs.Common.{◌≡◌, false, [], sym, append-nil}
use Rattle.un_runs.specs.Shown.{has_room}
use Rattle.un_runs.proofs.RunLaws.{for_room}
use Rattle.un_runs.proofs.runs.roomy_start.Goals as goal

pub returns-else-has_room-clause-refused : goal.returns-else-has_room-clause-refused
returns-else-has_room-clause-refused c =
    let text = c.args.text.now in
    let tight : has_room c.args.frame c.in-Ok.start.regs ≡ false = cc in
    for_room c.args.frame text text [] c.in-Ok.start c.in-Ok.count c.no_room.result (sym (append-nil text)) c.in-Ok.ensures.ok tight
    c.no_room.ensures.tight
