use Rattle.std.proofs.Common.{◌++◌, ap, sym, ◌∙◌}
use Rattle.un_model.proofs.Steps.{append-nil}
use Rattle.un_sites.specs.Sites.{place_of, definers_in}
use Rattle.un_rooms.proofs.Pairing.{twos_none}
use Rattle.un_rooms.proofs.post_twos.post_twos_in.Goals as goal

pub returns-else-is_source : goal.returns-else-is_source
returns-else-is_source c =
    sym (append-nil c.args.props.now) ∙ ap (λ zs. c.args.props.now ++ zs) (sym (twos_none c.args.slots (definers_in c.args.sites.now)
    (place_of c.args.p.now) (sym c.is_source.ensures ∙ c.if-is_source.false)))
