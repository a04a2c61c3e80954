use Rattle.std.proofs.Common.{◌≡◌, true, false}
use Rattle.un_runs.specs.Shown.{has_room}
use Rattle.un_runs.proofs.FrontLaws.{front_before, front_whole}
use Rattle.un_runs.proofs.RunLaws.{for_line, for_room}
use Rattle.un_runs.proofs.StartLaws.{roomy_none, roomy_start}
use Rattle.un_runs.proofs.runs.refused_at.Goals as goal

pub returns-then-has_room : goal.returns-then-has_room
returns-then-has_room c =
    let front = c.first_lines-front.result.now in
    let room : has_room c.args.frame c.in-Ok.start.regs ≡ true = cc in
    let whole = front_whole c.args.text.now front c.args.line c.requires c.first_lines-front.ensures in
    for_line c.args.frame c.args.text.now c.args.line
    (roomy_start c.args.frame c.args.text.now front c.requires.rest c.in-Ok.start c.in-Ok.field-0-1 whole c.in-Ok.ensures.ok room) c.requires

pub returns-in-Ok : goal.returns-in-Ok
returns-in-Ok c =
    let front = c.first_lines-front.result.now in
    let tight : has_room c.args.frame c.in-Ok.start.regs ≡ false = cc in
    let whole = front_whole c.args.text.now front c.args.line c.requires c.first_lines-front.ensures in
    for_room c.args.frame c.args.text.now front c.requires.rest c.in-Ok.start c.in-Ok.field-0-1 c.no_room.result whole c.in-Ok.ensures.ok tight
    c.no_room.ensures.tight

pub returns : goal.returns
returns c =
    let front = c.first_lines-front.result.now in
    let lines = front_before c.args.text.now front c.args.line c.requires c.first_lines-front.ensures in
    let bad = rw c.in-Err-BadStart.field-0-is at c.in-Err-BadStart.ensures.bad in
    for_line c.args.frame c.args.text.now c.args.line
    (roomy_none c.args.frame c.args.text.now front c.args.line c.in-Err-BadStart.field-0-0 c.requires lines bad) c.requires
