use Rattle.un_prop.specs.Acts.{act_vars}
use Rattle.un_prop.specs.LookLaws.{known_of}
use Rattle.un_slots.proofs.issue.is_free.Goals as goal

pub fits_some-requires-clause-known : goal.fits_some-requires-clause-known
fits_some-requires-clause-known c = known_of c.args.w.now.vars.now (act_vars c.args.item.now.on) c.args.w.now.store.now.sets
    c.requires.of_item.of_on c.requires.known
