use Rattle.un_kinds.proofs.Scoped.{clobber_calls, clobber_temp}
use Rattle.un_kinds.proofs.make_rect.make_clobber.Goals as goal

pub invariant_of-made : goal.invariant_of-made
invariant_of-made c = record {
  ascend = c.in_ok-vars.ensures.rises;
  of_temp = clobber_temp _ c.args.temp c.args.calls c.in_ok-vars.ensures;
  of_calls = clobber_calls _ c.args.temp c.args.calls c.in_ok-vars.ensures;
}
