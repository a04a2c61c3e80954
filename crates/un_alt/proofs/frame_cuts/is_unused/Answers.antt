use Rattle.std.proofs.Common.{◌-◌}
use Rattle.un_prop.specs.Among.{among}
use Rattle.un_prop.specs.AmongLaws.{has_among}
use Rattle.un_alt.proofs.frame_cuts.is_unused.Goals as goal

pub has-requires : goal.has-requires
has-requires c = let p = c.args.p.now in has_among p.vars p.flag c.args.w.now.store.now.sets p.among.of_flag c.requires
