-- How far the check of a tree's text has come.
use Rattle.std.proofs.Common.{length, length-append, ◌<◌, ◌≤◌, ◌+◌, arith, ℕ, ◌≡◌, ◌⊎◌, List, [], ◌∷◌, ◌++◌, All, inl, inr, refl, sym, ap, ◌∙◌, subst, append_assoc}
use Rattle.std.specs.declared.option.Option.{Option}
use Rattle.std.proofs.lemmas.List.Elements.{recursion_from_All, All-tail, All-head, All-push, All-nil}
use Rattle.un_model.specs.declared.model.Model.{Model}
use Rattle.un_tree.specs.Texts.{Fits, node_line, tree_text, BeginsNoNode, BeginsWith}
use Rattle.un_tree.specs.declared.node.Node.{Node}
use Rattle.un_tree.proofs.TreeTexts.{all_read, first_once, read_more, read_whole, text_end}
use Rattle.un_tree.specs.Parts.{part_numbers, told}
use Rattle.un_tree.specs.declared.node.Node.TheVariants.{Split}
use Rattle.un_tree.specs.declared.parts.Parts.{Parts}
use Rattle.un_certificate.specs.Joints.{blocks_of}
use Rattle.un_check.specs.Causes.{AreLines}
use Rattle.un_check.specs.Judging.{IsBehind}
use Rattle.un_check.specs.Walks.{IsWalk}
use Rattle.un_check.specs.declared.walk.Walk.{Walk}

-- the lines that are left are those of the nodes that the walk has not come to
pub record IsLeft (m : Model) (limit : Option ℕ) (nodes : List Node) (left : List ℕ) (w : Walk) : Type 0 where
  pub rest : List Node
  pub fit : All Fits rest
  pub text : left ≡ tree_text rest
  pub walk : IsWalk m limit nodes rest w

module _ (m : Model) (limit : Option ℕ) (nodes : List Node) (left : List ℕ) (w : Walk) (h : IsLeft m limit nodes left w) where
  none_left : (left ≡ []) ⊎ BeginsNoNode left → (left ≡ []) × ([] ≡ h.rest)
  none_left end = read_whole [] h.rest left tt (recursion_from_All Fits h.rest h.fit) h.text end

  pub lines_end : left ≡ [] → IsWalk m limit nodes [] w
  lines_end none = subst (λ (ns : List Node). IsWalk m limit nodes ns w) (sym (none_left (inl none)).1) h.walk

  pub lines_good : (left ≡ [] → ⊥) → BeginsNoNode left → ⊥
  lines_good some bad = some (none_left (inr bad)).0

-- a node more
pub record IsNext (m : Model) (limit : Option ℕ) (nodes : List Node) (n : Node) (rest : List ℕ) (w : Walk) : Type 0 where
  pub behind : List Node
  pub fit : All Fits behind
  pub text : rest ≡ tree_text behind
  pub walk : IsWalk m limit nodes (n ∷ behind) w

pub next_line : (m : Model) (limit : Option ℕ) (nodes : List Node) (left : List ℕ) (w : Walk) → IsLeft m limit nodes left w
    → (n : Node) (line rest : List ℕ) → BeginsWith left n line rest → IsNext m limit nodes n rest w
next_line m limit nodes left w h n line rest b = by h.rest h.fit h.text h.walk
  where
    starts : left ≡ node_line n ++ 10 ∷ rest
    starts = b.whole ∙ ap (λ (t : List ℕ). t ++ 10 ∷ rest) b.spelled

    some : (t : List ℕ) → t ++ 10 ∷ rest ≡ [] → ⊥
    some [] e = cc e
    some (x ∷ xs) e = cc e

    by : (ns : List Node) → All Fits ns → left ≡ tree_text ns → IsWalk m limit nodes ns w → IsNext m limit nodes n rest w
    by [] fit text walk = absurd (some (node_line n) (sym starts ∙ text))
    by (k ∷ ks) fit text walk =
        let one = first_once k n (tree_text ks) rest (All-head Fits k ks fit) b.fits
        (sym (append_assoc (node_line k) (10 ∷ []) (tree_text ks)) ∙ (sym text ∙ starts)) in
        record {
          behind = ks;
          fit = All-tail Fits k ks fit;
          text = sym one.1;
          walk = subst (λ (j : Node). IsWalk m limit nodes (j ∷ ks) w) one.0 walk;
        }

pub shorter : (left line rest : List ℕ) → left ≡ line ++ 10 ∷ rest → length rest < length left
shorter left line rest e = omega (arith, ap length e, length-append line (10 ∷ rest))

-- so many lines before what is left are nodes'
pub record AreCounted (text : List ℕ) (count : ℕ) (left : List ℕ) : Type 0 where
  pub before : List Node
  pub fit : All Fits before
  pub whole : text ≡ tree_text before ++ left
  pub counted : count ≡ length before
  pub few : count + length left ≤ length text

pub counted_first : (text : List ℕ) → AreCounted text 0 text
counted_first text = record { before = []; fit = All-nil Fits; whole = refl; counted = refl; few = omega arith }

pub counted_more : (text : List ℕ) (count : ℕ) (left : List ℕ) (n : Node) (line rest : List ℕ) → AreCounted text count left
    → BeginsWith left n line rest → AreCounted text (count + 1) rest
counted_more text count left n line rest h b = record {
  before = h.before ++ n ∷ [];
  fit = All-push Fits h.before n h.fit b.fits;
  whole = read_more text h.before (h.before ++ n ∷ []) left n line rest h.whole b.spelled b.whole refl;
  counted = (let e = h.counted in omega (arith, e, length-append h.before (n ∷ [])));
  few = (let few = h.few in let e = shorter left line rest b.whole in omega (arith, few, e));
}

pub counted_all : (text : List ℕ) (count : ℕ) (left : List ℕ) → AreCounted text count left → left ≡ [] → AreLines count text
counted_all text count left h none = record {
  nodes = h.before;
  fit = h.fit;
  spelled = text_end text h.before left h.whole none;
  counted = h.counted;
}

-- no list of nodes has these lines where the first of those left is no node's
pub none_counted : (text : List ℕ) (count : ℕ) (left : List ℕ) → AreCounted text count left → (left ≡ [] → ⊥) → BeginsNoNode left
    → (nodes : List Node) → All Fits nodes → text ≡ tree_text nodes → ⊥
none_counted text count left h some bad nodes fit is = some (all_read text h.before nodes left h.whole h.fit fit is (inr bad)).0

-- what is told of the parts in the lines behind a Split, for as many blocks as the model has
pub behind_lines : (m : Model) (n : Node) (rest : List Node) (blocks : ℕ) (parts : Parts) → blocks ≡ blocks_of m
    → (n ≡ Split → parts ≡ told (part_numbers blocks rest)) → IsBehind m n rest parts
behind_lines m n rest blocks parts same h is = h is ∙ ap (λ (k : ℕ). told (part_numbers k rest)) same
