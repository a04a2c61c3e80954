use Rattle.un_prop.specs.AmongLaws.{has_among}
use Rattle.un_rect.proofs.opened.with_var.Goals as goal

pub is_single-requires : goal.is_single-requires
is_single-requires c = has_among c.args.w.now.vars.now c.args.v c.args.w.now.store.now.sets c.requires.vars c.requires.known
