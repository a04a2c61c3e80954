use Rattle.std.proofs.Common.{◌<◌, ℕ, length}
use Rattle.un_base.specs.declared.ids.NameId.{NameId}
use Rattle.un_ir.specs.Live.{IsLive}
use Rattle.un_ir.proofs.NameBounds.{live_name_small}
use Rattle.un_live.proofs.LiveLists.{live_lists_at}
use Rattle.un_live.proofs.live.live_in.Goals as goal

pub returns : goal.returns
returns c =
    let f = c.args.f.now in
    let small : (name : NameId) (b : ℕ) → IsLive f.blocks name b 0
    → name.0 < length f.names = λ name b live. live_name_small f name b 0 live in
    live_lists_at c.as_slice-blocks.result.now f.blocks c.len-names.result (length f.names) c.in_ok-columns.columns
    c.in_ok-at_start.at_start
    c.as_slice-blocks.ensures c.len-names.ensures c.in_ok-columns.ensures c.in_ok-at_start.ensures small
