-- What the check of a tree answers: the first node that breaks a point; else that the list is not one whole tree; else what its open
-- leaves cost at least, and how many they are.
use Rattle.std.specs.Prelude.{ℕ, ◌≡◌, List, ◌∷◌, ◌++◌, ⊤, All, None}
use Rattle.std.specs.declared.option.Option.{Option}
use Rattle.un_model.specs.declared.model.Model.{Model}
use Rattle.un_post.specs.PartPosts.{fix_part}
use Rattle.un_post.specs.Posts.{fix_at}
use Rattle.un_tree.specs.Parts.{IsRightIn}
use Rattle.un_tree.specs.Waits.{Waiting, Whole, Inside, Visit, IsStrictIn, open_count}
use Rattle.un_tree.specs.declared.node.Node.{Node}
use Rattle.un_tree.specs.declared.node.Node.TheVariants.{Closed, Split}
use Rattle.un_certificate.specs.Bounds.{IsLeastOpen}
use Rattle.un_certificate.specs.Certificates.{IsAliveIn}
use Rattle.un_certificate.specs.Joints.{blocks_of, visits_in, IsTreeIn, IsOwn, AreJoined}
use Rattle.un_check.specs.declared.verdict.TreeVerdict.{TreeVerdict}
use Rattle.un_check.specs.declared.verdict.TreeVerdict.TheVariants.{Yes, NotStrict, NotSplit, NotAlive, NotClosed, Short}

-- the rounds fail on the box of a closed leaf: outside of parts those of the model under the limit, in a part those of its block under the
-- part's number
abbrev pub IsLostIn : Model → Option ℕ → Node → Waiting → Type 0
IsLostIn m limit Closed (Whole b) = fix_at m limit b ≡ None
IsLostIn m limit Closed (Inside k number b) = fix_part m k number b ≡ None
IsLostIn m limit _ _ = ⊤

-- a node may stand where it does, before these nodes; at a Split what joins the blocks is single, and its parts come to the limit where
-- they can be read to their end
abbrev pub IsRightNode : Model → Option ℕ → Node → Waiting → List Node → Type 0
IsRightNode m limit n w rest = IsRightIn (AreJoined m) (blocks_of m) limit n w rest

-- a node keeps all points where it stands, before these nodes: a branch has both sides, and in a part it is on a variable of the block; it
-- may stand there; the box of a branch or an open leaf outside of parts has a relaxation under the limit; and the rounds fail on that of a
-- closed leaf
pub record KeepsIn (m : Model) (limit : Option ℕ) (n : Node) (w : Waiting) (rest : List Node) : Type 0 where
  pub strict : IsStrictIn (IsOwn m) n w
  pub right : IsRightNode m limit n w rest
  pub alive : IsAliveIn m limit n w
  pub lost : IsLostIn m limit n w

abbrev pub Keeps : Model → Option ℕ → Visit → Type 0
Keeps m limit p = KeepsIn m limit p.node p.waiting p.rest

-- a node breaks the point that is named, with its place. Of a branch its two sides are asked for first
abbrev pub BreaksIn : Model → Option ℕ → ℕ → Node → Waiting → List Node → TreeVerdict → Type 0
BreaksIn m limit place n w rest (NotStrict i) = (i ≡ place) × (IsStrictIn (IsOwn m) n w → ⊥)
BreaksIn m limit place n w rest (NotSplit i) = (i ≡ place) × IsStrictIn (IsOwn m) n w × (IsRightNode m limit n w rest → ⊥)
BreaksIn m limit place n w rest (NotAlive i) = (i ≡ place) × IsStrictIn (IsOwn m) n w × (IsAliveIn m limit n w → ⊥)
BreaksIn m limit place n w rest (NotClosed i) = (i ≡ place) × (IsLostIn m limit n w → ⊥)
BreaksIn m limit place n w rest (Yes least count) = ⊥
BreaksIn m limit place n w rest Short = ⊥

abbrev pub Breaks : Model → Option ℕ → Visit → TreeVerdict → Type 0
Breaks m limit p v = BreaksIn m limit p.place p.node p.waiting p.rest v

-- the first node that breaks a point
pub record IsFirstBreak (m : Model) (limit : Option ℕ) (ps : List Visit) (v : TreeVerdict) : Type 0 where
  pub before : List Visit
  pub at : Visit
  pub behind : List Visit
  pub split : ps ≡ before ++ at ∷ behind
  pub kept : All (Keeps m limit) before
  pub breaks : Breaks m limit at v

-- one whole tree that keeps all points
pub record IsYes (m : Model) (limit : Option ℕ) (nodes : List Node) (least : Option ℕ) (count : ℕ) : Type 0 where
  pub whole : IsTreeIn m nodes
  pub kept : All (Keeps m limit) (visits_in m nodes)
  pub lowest : IsLeastOpen m (visits_in m nodes) least
  pub counted : count ≡ open_count nodes

-- no node breaks a point, and the list ends inside the tree or goes on after it
pub record IsShort (m : Model) (limit : Option ℕ) (nodes : List Node) : Type 0 where
  pub torn : IsTreeIn m nodes → ⊥
  pub kept : All (Keeps m limit) (visits_in m nodes)

-- the answer of the check of a list of nodes. Nodes past the end of the tree stand nowhere and break no point
abbrev pub IsVerdict : Model → Option ℕ → List Node → TreeVerdict → Type 0
IsVerdict m limit nodes (Yes least count) = IsYes m limit nodes least count
IsVerdict m limit nodes (NotStrict i) = IsFirstBreak m limit (visits_in m nodes) (NotStrict i)
IsVerdict m limit nodes (NotSplit i) = IsFirstBreak m limit (visits_in m nodes) (NotSplit i)
IsVerdict m limit nodes (NotAlive i) = IsFirstBreak m limit (visits_in m nodes) (NotAlive i)
IsVerdict m limit nodes (NotClosed i) = IsFirstBreak m limit (visits_in m nodes) (NotClosed i)
IsVerdict m limit nodes Short = IsShort m limit nodes

-- what is so where all is well
abbrev pub OnYes : Type 0 → TreeVerdict → Type 0
OnYes P (Yes least count) = P
OnYes P (NotStrict i) = ⊤
OnYes P (NotSplit i) = ⊤
OnYes P (NotAlive i) = ⊤
OnYes P (NotClosed i) = ⊤
OnYes P Short = ⊤

-- the answer, where it is that not all is well
abbrev pub IsNo : Model → Option ℕ → List Node → TreeVerdict → Type 0
IsNo m limit nodes v = IsVerdict m limit nodes v × OnYes ⊥ v
