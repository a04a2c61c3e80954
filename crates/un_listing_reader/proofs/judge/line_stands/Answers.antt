-- The line of a label is the last where nothing comes after it.
use Rattle.std.proofs.Common.{refl}
use Rattle.un_listing_reader.proofs.Judged.{empty_decides, stands_block, stands_packet, stands_broken}
use Rattle.un_listing_reader.proofs.judge.line_stands.Goals as goal

pub returns-in-Block : goal.returns-in-Block
returns-in-Block c = λ all lines same known.
    stands_block all lines c.args.after.now c.args.line.now c.in-Block.label c.in-Block.is c.block_stands.result
    (c.block_stands.ensures lines c.args.after.now known (empty_decides c.args.after.now c.is_empty.result c.is_empty.ensures))

pub returns-in-Packet : goal.returns-in-Packet
returns-in-Packet c = λ all lines same known.
    stands_packet all lines c.args.after.now c.args.line.now c.in-Packet.packet c.in-Packet.is c.packet_stands.result
    (c.packet_stands.ensures all lines same known)

pub returns-in-Broken : goal.returns-in-Broken
returns-in-Broken c = λ all lines same known. stands_broken all lines c.args.after.now c.args.line.now c.in-Broken.is _ refl
