-- What is so of the tree of a report that is right: its branches have both sides, and where it has no Split it has no parts.
use Rattle.std.proofs.Common.{ℕ, List, All}
use Rattle.std.proofs.lemmas.List.Elements.{All-weaker}
use Rattle.un_certificate.specs.Joints.{blocks_of, visits_in, IsTreeIn, IsOwn, AreJoined}
use Rattle.un_check.specs.Causes.{IsRight, claim_of, limit_of}
use Rattle.un_check.specs.Verdicts.{Keeps}
use Rattle.un_model.specs.Boxes.{root_of}
use Rattle.un_model.specs.declared.model.Model.{Model}
use Rattle.un_report.specs.declared.report.Report.{Report}
use Rattle.un_tree.proofs.PlainLaws.{plain_without, strict_sides}
use Rattle.un_tree.specs.Parts.{IsRight as IsRightIn}
use Rattle.un_tree.specs.Waits.{HasSides, IsPlain}
use Rattle.un_top.specs.Steps.{HasNoSplit}

module _ (name : List ℕ) (m : Model) (r : Report) (right : IsRight name m (claim_of r)) where
  pub right_whole : IsTreeIn m r.tree.nodes.items
  right_whole = right.body.tree.yes.whole

  pub right_sides : All HasSides (visits_in m r.tree.nodes.items)
  right_sides = All-weaker (Keeps m (limit_of r.answer)) HasSides (λ p keeps. strict_sides (IsOwn m) p keeps.strict)
      (visits_in m r.tree.nodes.items) right.body.tree.yes.kept

  pub right_plain : HasNoSplit r.tree.nodes.items → All IsPlain r.tree.nodes.items
  right_plain none = plain_without (blocks_of m) (AreJoined m) (limit_of r.answer) (root_of m) r.tree.nodes.items right_whole
      (All-weaker (Keeps m (limit_of r.answer)) (IsRightIn (AreJoined m) (blocks_of m) (limit_of r.answer)) (λ p keeps. keeps.right)
      (visits_in m r.tree.nodes.items) right.body.tree.yes.kept) none
