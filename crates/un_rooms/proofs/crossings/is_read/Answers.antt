use Rattle.std.proofs.Common.{◌∙◌}
use Rattle.un_sites.specs.Crossings.{reads_value}
use Rattle.un_sites.specs.Sites.{place_of}
use Rattle.un_rooms.proofs.CallWalks.{any_mapped}
use Rattle.un_rooms.proofs.crossings.is_read.Goals as goal

pub returns : goal.returns
returns c = c.any_reads_value.ensures ∙ any_mapped (reads_value c.args.in_register c.args.n) place_of c.args.behind.now
