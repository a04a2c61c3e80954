use Rattle.std.proofs.Common.{map}
use Rattle.un_sites.specs.Places.{block_places}
use Rattle.un_sites.specs.Sites.{place_of}
use Rattle.un_rooms.proofs.Saving.{block_listed, length_made}
use Rattle.un_rooms.proofs.post_lengths.block_at.Goals as goal

pub returns : goal.returns
returns c =
    let block = c.args.block.now in
    let vars = c.args.vars.now in
    let ps = block_places c.args.b c.args.first block vars in
    let these = block_listed c.new-spots.result c.add_block.new.spots c.as_slice.result.now ps c.new-spots.ensures
    c.in_ok-add_block.ensures c.as_slice.ensures in
    let room = block_listed c.new-spots.result c.add_block.new.spots c.as_slice-2.result.now ps c.new-spots.ensures
    c.in_ok-add_block.ensures c.as_slice-2.ensures in
    let those = block_listed c.new-spots.result c.add_block.new.spots c.as_slice-3.result.now ps c.new-spots.ensures
    c.in_ok-add_block.ensures c.as_slice-3.ensures in
    length_made c.args.m.now c.args.b c.args.first block vars _ c.owed_by-owed.result c.args.crowds.now.crowded c.args.crowds.now.edges
    c.in_ok-registers.registers (map place_of c.as_slice.result.now) (map place_of c.as_slice-2.result.now)
    (map place_of c.as_slice-3.result.now) c.requires.crowded c.requires.edges these room those c.owed_by-owed.ensures
    c.in_ok-registers.ensures c.in_ok-made.ensures
