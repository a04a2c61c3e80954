-- all so far lead to labels
use Rattle.std.proofs.Common.{ℕ, List, All, take}
use Rattle.un_packet.specs.CodeRules.{LeadsToOneOf}
use Rattle.un_listing_reader.specs.LabelSets.{SameLabels}
use Rattle.un_listing_reader.proofs.judge.all_lead.Given as goal

abbrev pub invariant-loop-i : goal.invariant-loop-i
invariant-loop-i l = (all : List (List ℕ)) → SameLabels l.labels all → All (LeadsToOneOf all) (take l.i-index l.instrs)
