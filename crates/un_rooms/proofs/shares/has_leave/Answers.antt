use Rattle.std.proofs.Common.{◌∙◌}
use Rattle.un_ir.specs.Extended.{is_leave}
use Rattle.un_sites.specs.Places.{Place}
use Rattle.un_sites.specs.Sites.{place_of}
use Rattle.un_rooms.proofs.CallWalks.{any_mapped}
use Rattle.un_rooms.proofs.shares.has_leave.Goals as goal

pub returns : goal.returns
returns c = c.any_leave.ensures ∙ any_mapped (λ (p : Place). is_leave p.it.kind) place_of c.args.spots.now
