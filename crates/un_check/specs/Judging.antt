-- What is found of a node, the least cost of a relaxation below a limit, room for relaxations, and what is told of a Split's parts.
use Rattle.std.specs.Prelude.{ℕ, ◌≡◌, ◌≢◌, ◌+◌, ◌<◌, ◌≤◌, List, None, Some, All, length}
use Rattle.std.specs.declared.option.Option.{Option}
use Rattle.un_domains.specs.Sets.{Sets}
use Rattle.un_ir.specs.declared.extended.ExtBlock.{ExtBlock}
use Rattle.un_model.specs.declared.model.Model.{Model}
use Rattle.un_prop.specs.Pruning.{HasRoom}
use Rattle.un_prop.specs.declared.propagator.Scratch.{Scratch}
use Rattle.un_bound.specs.Relaxations.{IsLeast}
use Rattle.un_bound.specs.declared.relax.RelaxAnswer.{RelaxAnswer}
use Rattle.un_bound.specs.declared.relax.RelaxAnswer.TheVariants.{Empty, Least}
use Rattle.un_post.specs.PartPosts.{IsPartBelow}
use Rattle.un_tree.specs.Boxes.{reached}
use Rattle.un_tree.specs.Covered.{StandsIn}
use Rattle.un_tree.specs.Parts.{part_numbers, told}
use Rattle.un_tree.specs.Searched.{HasLeast}
use Rattle.un_tree.specs.Waits.{Waiting, Whole, Begins, Inside}
use Rattle.un_tree.specs.declared.node.Node.{Node}
use Rattle.un_tree.specs.declared.node.Node.TheVariants.{Open, Split}
use Rattle.un_tree.specs.declared.parts.Parts.{Parts}
use Rattle.un_certificate.specs.Certificates.{IsEmptyUnder}
use Rattle.un_certificate.specs.Joints.{blocks_of}
use Rattle.un_model.specs.Boxes.{root_of, IsBelow}
use Rattle.un_stand.specs.Rooms.{path_of}
use Rattle.un_check.specs.Verdicts.{KeepsIn, BreaksIn}
use Rattle.un_check.specs.declared.judge.Judged.{Judged}
use Rattle.un_check.specs.declared.judge.Judged.TheVariants.{Broken, Kept, Leaf}
use Rattle.un_check.specs.declared.stage.Stage.{Stage}
use Rattle.un_check.specs.declared.stage.Stage.TheVariants.{AtBox, AtPart, InPart, AtEnd}
use Rattle.un_check.specs.declared.verdict.TreeVerdict.TheVariants.{Short}

-- room for the relaxation of each block
abbrev pub HasScratch : Model → Scratch → Type 0
HasScratch m scratch = All (λ (block : ExtBlock). HasRoom (length (root_of m)) (block.horizon + 1) scratch) m.ext.blocks

-- the least cost that a relaxation answers, where it is below the limit
abbrev pub IsUnder : Option ℕ → RelaxAnswer → Option ℕ → Type 0
IsUnder limit Empty r = r ≡ None
IsUnder None (Least n) r = r ≡ Some n
IsUnder (Some c) (Least n) None = c ≤ n
IsUnder (Some c) (Least n) (Some k) = (k ≡ n) × (n < c)

-- the least cost of the relaxation of a box, or that it has no member under the limit
abbrev pub IsLeastUnder : Model → Option ℕ → Sets → Option ℕ → Type 0
IsLeastUnder m limit b None = IsEmptyUnder m limit b
IsLeastUnder m limit b (Some n) = IsLeast m b n × (IsEmptyUnder m limit b → ⊥)

-- what is told of the parts behind a node, where it is a Split before these nodes
abbrev pub IsBehind : Model → Node → List Node → Parts → Type 0
IsBehind m n rest parts = n ≡ Split → parts ≡ told (part_numbers (blocks_of m) rest)

-- before some nodes
pub record HasBehind (m : Model) (n : Node) (parts : Parts) : Type 0 where
  pub rest : List Node
  pub is : IsBehind m n rest parts

-- what was found of a node before these nodes: the point that it breaks, that it keeps all, or that it is an open leaf that does, with its
-- least cost. One that keeps all stands
abbrev pub IsJudged : Model → Option ℕ → ℕ → Node → Waiting → List Node → Judged → Type 0
IsJudged m limit place n w rest (Broken v) = BreaksIn m limit place n w rest v
IsJudged m limit place n w rest Kept = KeepsIn m limit n w rest × (n ≢ Open) × StandsIn (IsBelow m limit) (IsPartBelow m) n w
IsJudged m limit place n w rest (Leaf least) = KeepsIn m limit n w rest × HasLeast (IsLeast m) least n w

-- the same where the check stands; behind the end of the tree each node is one too many
abbrev pub IsFound : Model → Option ℕ → ℕ → Node → List Node → Sets → Stage → Judged → Type 0
IsFound m limit place n rest b AtBox j = IsJudged m limit place n (Whole b) rest j
IsFound m limit place n rest b (AtPart k) j = IsJudged m limit place n (Begins k b) rest j
IsFound m limit place n rest b (InPart k number room) j = IsJudged m limit place n (Inside k number (reached b (path_of room))) rest j
IsFound m limit place n rest b AtEnd j = j ≡ Broken Short
