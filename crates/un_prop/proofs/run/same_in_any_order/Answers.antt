use Rattle.std.proofs.lemmas.List.Elements.{recursion_from_All}
use Rattle.un_prop.specs.Fixes.{same_ends}
use Rattle.un_prop.proofs.run.same_in_any_order.Goals as goal

pub returns : goal.returns
returns g c s kp kq full to from =
    same_ends g.P.Predicate.scope g.P.Propagator.cut g.met.P.Propagator.lawful c.args.props.now c.args.others.now s
    (recursion_from_All _ _ kp)
    (recursion_from_All _ _ kq) full (recursion_from_All _ _ to) (recursion_from_All _ _ from)
