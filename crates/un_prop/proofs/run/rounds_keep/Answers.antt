use Rattle.std.proofs.lemmas.List.Elements.{recursion_from_All}
use Rattle.un_prop.specs.KeepLaws.{fix_keeps}
use Rattle.un_prop.proofs.run.rounds_keep.Goals as goal

pub returns : goal.returns
returns g c s x known there all =
    fix_keeps g.P.Predicate.scope g.P.Propagator.cut g.met.P.Propagator.lawful g.P.Predicate.holds g.met.P.Propagator.keeps c.args.props.now
    s x (recursion_from_All _ _ known) there (recursion_from_All _ _ all)
