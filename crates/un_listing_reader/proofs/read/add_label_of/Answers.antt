-- A label comes to the set, and nothing else does.
use Rattle.std.proofs.Common.{rules, ◌≡◌, Some}
use Rattle.std.proofs.lemmas.Result.{on_ok_weaker}
use Rattle.un_listing_reader.specs.declared.line.Line.TheVariants.{Block as BlockLine, Packet as PacketLine, Broken}
use Rattle.un_listing_reader.proofs.Standing.{label_added_to, none_added, packet_added, broken_added}
use Rattle.un_listing_reader.proofs.read.add_label_of.Goals as goal

pub returns-in-Some-Block : goal.returns-in-Some-Block
returns-in-Some-Block c =
    let is : c.args.line.now ≡ Some (BlockLine c.in-Some-Block.label) = search rules in
    on_ok_weaker c.add.result
    (λ e lines same. label_added_to c.args.labels.now lines same c.in-Some-Block.label c.add.new.self c.args.line.now e is) c.add.ensures

pub returns-in-Some-Packet : goal.returns-in-Some-Packet
returns-in-Some-Packet c = λ lines same.
    let is : c.args.line.now ≡ Some (PacketLine c.in-Some-Packet.field-0-0) = search rules in
    rw is (packet_added c.args.labels.now lines same c.in-Some-Packet.field-0-0)

pub returns-in-None : goal.returns-in-None
returns-in-None c = λ lines same. rw c.in-None.is (none_added c.args.labels.now lines same)

pub returns-in-Some-Broken : goal.returns-in-Some-Broken
returns-in-Some-Broken c = λ lines same.
    let is : c.args.line.now ≡ Some Broken = search rules in
    rw is (broken_added c.args.labels.now lines same)
