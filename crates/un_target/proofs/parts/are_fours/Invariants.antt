use Rattle.std.proofs.Common.{◌<◌, IfSome}
use Rattle.un_isa.specs.declared.op.Op.{Op}
use Rattle.un_isa.specs.Tables.{number_of}
use Rattle.serde_json.specs.Find.{get_member}
use Rattle.serde_json.specs.View.{members_view}
use Rattle.un_target.specs.Names.{name_of}
use Rattle.un_target.specs.Parts.{IsFour}
use Rattle.un_target.proofs.parts.are_fours.Given as goal

abbrev pub invariant-loop-number : goal.invariant-loop-number
invariant-loop-number l = (op : Op) → number_of op < l.number → IfSome (get_member (name_of op) (members_view l.entries.entries)) IsFour
