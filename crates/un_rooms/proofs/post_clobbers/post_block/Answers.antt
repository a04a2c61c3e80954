use Rattle.std.proofs.Common.{◌++◌, ◌∙◌, ap, sym, subst, All, List, map}
use Rattle.un_base.specs.declared.ids.TempId.{TempId}
use Rattle.un_rooms.specs.Gathered.{IsAmong}
use Rattle.un_sites.specs.Rooms.{spared_at}
use Rattle.un_sites.specs.Sites.{place_of, definers_in}
use Rattle.un_rooms.proofs.post_clobbers.post_block.Goals as goal

pub post_span-requires : goal.post_span-requires
post_span-requires c =
    subst (λ (ts : List TempId). All (IsAmong c.span_of-span.result.first c.span_of-span.result.count) ts)
    (c.as_slice.ensures ∙ sym c.as_slice-2.ensures) c.span_of-span.ensures

pub returns : goal.returns
returns c =
    c.in_ok-post_span.ensures ∙ ap (λ (ts : List TempId). c.args.props.now ++ map
    (spared_at c.args.mask c.args.arcs.now (definers_in c.args.sites.now) (map place_of c.args.spots.now)) ts)
    (c.as_slice-2.ensures ∙ c.in_ok-temps.ensures)
