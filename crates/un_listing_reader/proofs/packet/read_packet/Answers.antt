-- A line is read by its instructions, its form and its rules.
use Rattle.std.proofs.Common.{rules, ◌≡◌, Some, None}
use Rattle.un_listing_reader.specs.PacketWords.{parts_of, instrs_in}
use Rattle.un_listing_reader.proofs.Formed.{other, not_formed, by_its_rules, whole}
use Rattle.un_listing_reader.proofs.packet.read_packet.Goals as goal

pub returns-in_default : goal.returns-in_default
returns-in_default c =
    let none : instrs_in (parts_of c.args.line.now) ≡ None = search rules in
    let read = other c.args.frame c.requires c.args.line.now none in
    record { read = read; whole = whole c.args.frame c.requires c.args.line.now _ read }

pub returns-in_ok-read : goal.returns-in_ok-read
returns-in_ok-read c =
    let found : instrs_in (parts_of c.args.line.now) ≡ Some c.in-Some.instrs = search rules in
    let read = by_its_rules c.args.frame c.requires c.args.line.now c.in-Some.instrs found _ c.if-branch.true
    c.in_ok-is_form_of.ensures c.in_ok-read.read c.in_ok-read.ensures in
    record { read = read; whole = whole c.args.frame c.requires c.args.line.now _ read }

pub returns-else-branch : goal.returns-else-branch
returns-else-branch c =
    let found : instrs_in (parts_of c.args.line.now) ≡ Some c.in-Some.instrs = search rules in
    let read = not_formed c.args.frame c.requires c.args.line.now c.in-Some.instrs found _ c.if-branch.false
    c.in_ok-is_form_of.ensures in
    record { read = read; whole = whole c.args.frame c.requires c.args.line.now _ read }
