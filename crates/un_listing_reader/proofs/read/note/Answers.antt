-- One label or one packet more.
use Rattle.std.proofs.Common.{◌≡◌, ◌+◌, ◌-◌, ◌^◌, min, arith}
use Rattle.un_listing_reader.proofs.Noting.{block_noted, packet_noted, broken_noted}
use Rattle.un_listing_reader.proofs.read.note.Goals as goal

pub returns-in_ok-add-in-Block : goal.returns-in_ok-add-in-Block
returns-in_ok-add-in-Block c = λ lines known.
    let count : c.saturating_add-before.result ≡ min (c.args.before.now.blocks + 1) (2 ^ 32 - 1) = omega arith in
    rw (c.in-Block.is, c.in_ok-add-in-Block.ensures, count)
    (block_noted lines c.args.before.now.labels c.args.before.now.blocks c.args.before.now.packets c.args.before.now.some known
    c.in-Block.label)

pub returns-in-Packet : goal.returns-in-Packet
returns-in-Packet c = λ lines known.
    let count : c.saturating_add-before-in-Packet.result ≡ min (c.args.before.now.packets + 1) (2 ^ 32 - 1) = omega arith in
    rw (c.in-Packet.is, count)
    (packet_noted lines c.args.before.now.labels c.args.before.now.blocks c.args.before.now.packets c.args.before.now.some known
    c.in-Packet.field-0)

pub returns-in-Broken : goal.returns-in-Broken
returns-in-Broken c = λ lines known.
    rw c.in-Broken.is
    (broken_noted lines c.args.before.now.labels c.args.before.now.blocks c.args.before.now.packets c.args.before.now.some known)
