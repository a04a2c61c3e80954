use Rattle.un_certificate.specs.Joints.{visits_in}
use Rattle.un_certificate.proofs.bound.bound_of.Goals as goal

pub returns : goal.returns
returns c t h = record {
  plain = c.plain_bound.result;
  low = c.lowest_under.result;
  is_plain = c.plain_bound.ensures;
  is_lowest = c.lowest_under.ensures c.args.m.now (visits_in c.args.m.now t) h;
  greatest = c.max.ensures;
}
