use Rattle.std.proofs.Common.{◌∙◌, ap, List, map}
use Rattle.std.specs.Prelude.{slice_get}
use Rattle.un_length.specs.declared.block.Task.{Task}
use Rattle.un_model.specs.declared.model.Arc.{Arc}
use Rattle.un_rows.specs.Rows.{crossed_in}
use Rattle.un_sites.specs.Places.{Place, block_places}
use Rattle.un_sites.specs.Rooms.{arcs_or}
use Rattle.un_sites.specs.Shares.{has_leave}
use Rattle.un_sites.specs.Sites.{place_of}
use Rattle.un_rooms.proofs.Saving.{block_listed}
use Rattle.un_rooms.proofs.knowns.calls_of.Goals as goal

pub returns : goal.returns
returns c =
    let block = c.args.block.now in
    let ops : List Task = c.args.known.now.ops in
    let arcs : List Arc = arcs_or (slice_get c.args.m.now.arcs c.args.b) in
    let ps : List Place = block_places c.args.b c.args.first block c.args.vars.now in
    let these = block_listed c.new-spots.result c.add_block.new.spots c.as_slice-2.result.now ps c.new-spots.ensures
    c.in_ok-add_block.ensures c.as_slice-2.ensures in
    let those = block_listed c.new-spots.result c.add_block.new.spots c.as_slice-3.result.now ps c.new-spots.ensures
    c.in_ok-add_block.ensures c.as_slice-3.ensures in
    record {
      leaves = c.has_leave.ensures ∙ ap (λ (qs : List Place). has_leave qs) those;
      calls = c.in_ok-calls.ensures
          ∙ ap (λ (xs : List Arc). crossed_in xs block c.as_slice.result.now (map place_of c.as_slice-2.result.now)) c.arcs_at.ensures
          ∙ ap (λ (ts : List Task). crossed_in arcs block ts (map place_of c.as_slice-2.result.now)) c.as_slice.ensures
          ∙ ap (λ (qs : List Place). crossed_in arcs block ops qs) these;
    }
