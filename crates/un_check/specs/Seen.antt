-- What is seen of a tree: the verdict; and where all is well, that it stands, and how many nodes are in no part.
use Rattle.std.specs.Prelude.{ℕ, ◌≡◌, List}
use Rattle.std.specs.declared.option.Option.{Option}
use Rattle.un_model.specs.declared.model.Model.{Model}
use Rattle.un_tree.specs.Waits.{outer_count}
use Rattle.un_tree.specs.declared.node.Node.{Node}
use Rattle.un_certificate.specs.Certificates.{IsStanding}
use Rattle.un_certificate.specs.Joints.{visits_in}
use Rattle.un_check.specs.Verdicts.{IsVerdict, OnYes}
use Rattle.un_check.specs.declared.tree.Seen.{Seen}

pub record IsSeen (m : Model) (limit : Option ℕ) (nodes : List Node) (seen : Seen) : Type 0 where
  pub verdict : IsVerdict m limit nodes seen.verdict
  pub standing : OnYes (IsStanding m limit nodes) seen.verdict
  pub outer : OnYes (seen.outer_nodes ≡ outer_count (visits_in m nodes)) seen.verdict
