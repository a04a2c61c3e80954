-- A block more, or a packet more in the last block.
use Rattle.std.proofs.Common.{refl}
use Rattle.std.proofs.lemmas.Result.{on_ok_weaker}
use Rattle.un_listing_reader.proofs.Standing.{block_pushed_to, packet_pushed_to}
use Rattle.un_listing_reader.proofs.read.add_line.Goals as goal

pub returns-in-Block : goal.returns-in-Block
returns-in-Block c =
    on_ok_weaker c.push_block.result
    (λ e under. block_pushed_to c.args.blocks.now.items c.push_block.new.blocks.items c.in-Block.label c.new-packets.result c.args.line
    c.in-Block.is c.new-packets.ensures e)
    c.push_block.ensures

pub returns-in_ok-push-in-Some : goal.returns-in_ok-push-in-Some
returns-in_ok-push-in-Some c =
    on_ok_weaker c.push_block-in-Some.result
    (λ e under. packet_pushed_to c.args.blocks.now.items c.pop.new.self.items c.push_block-in-Some.new.blocks.items
    c.in-Some.label-1-given.0.0 c.in-Some.label-1-given.0.0.label c.in-Some.label-1-given.0.0.packets c.push.new.self
    c.in-Packet.packet c.args.line c.in-Some.ensures.items refl c.in_ok-push-in-Some.ensures.ok e c.in-Packet.is)
    c.push_block-in-Some.ensures

pub returns-in-Broken : goal.returns-in-Broken
returns-in-Broken c = λ under. absurd (rw c.in-Broken.is at under)
