-- The nodes of a tree, read from the front.
use Rattle.std.proofs.Common.{◌≡◌, ◌≢◌, ℕ, ◌+◌, ◌-◌, ◌<◌, List, [], ◌∷◌, ◌++◌, All, length, take, refl, sym, ap, subst, ◌∙◌, arith}
use Rattle.std.proofs.Common.{length-append, Bool, true, false}
use Rattle.std.specs.Prelude.{IsTrue, ◌↔◌}
use Rattle.std.proofs.Math.Seq.{take-append_seam}
use Rattle.std.proofs.lemmas.List.Elements.{All-cons, All-nil, All-append}
use Rattle.un_report_reader.specs.FirstBad.{BeginsNoAllowed, IsBadNode}
use Rattle.un_report_reader.specs.Limits.{IsAllowed}
use Rattle.un_report_reader.specs.Trees.{IsNodeRead}
use Rattle.un_report_reader.specs.declared.limits.Limits.{Limits}
use Rattle.un_tree.proofs.TreeTexts.{first_once, read_more}
use Rattle.un_tree.specs.Texts.{Fits, tree_text, node_line, BeginsWith, BeginsNoNode}
use Rattle.un_tree.specs.Waits.{IsPlain}
use Rattle.un_tree.specs.declared.node.Node.{Node}

-- the nodes so far and what is left are the text
pub record SoFar (l : Limits) (text left : List ℕ) (count : ℕ) : Type 0 where
  pub nodes : List Node
  pub fit : All Fits nodes
  pub allowed : All (IsAllowed l) nodes
  pub counted : length nodes ≡ count
  pub whole : text ≡ tree_text nodes ++ left

pub none_so_far : (l : Limits) (text : List ℕ) → SoFar l text text 0
none_so_far l text = record { nodes = []; fit = All-nil Fits; allowed = All-nil (IsAllowed l); counted = refl; whole = refl }

pub one_more : (l : Limits) (text left : List ℕ) (k next : ℕ) (rest : List ℕ) → SoFar l text left k → IsNodeRead l left rest
    → next ≡ k + 1 → SoFar l text rest next
one_more l text left k next rest s b e =
    let n = b.node in
    let more = length-append s.nodes (n ∷ []) in
    let counted = s.counted in
    record {
      nodes = s.nodes ++ n ∷ [];
      fit = All-append Fits s.nodes (n ∷ []) s.fit (All-cons Fits n [] b.fits (All-nil Fits));
      allowed = All-append (IsAllowed l) s.nodes (n ∷ []) s.allowed (All-cons (IsAllowed l) n [] b.allowed (All-nil (IsAllowed l)));
      counted = omega (arith, more, counted, e);
      whole = read_more text s.nodes (s.nodes ++ n ∷ []) left n (node_line n) rest s.whole refl b.whole refl;
    }

pub bad_node : (l : Limits) (text left : List ℕ) (k count : ℕ) → SoFar l text left k → k < count → BeginsNoAllowed l left
    → IsBadNode l count text (k + 1)
bad_node l text left k count s few none =
    let counted = s.counted in
    record {
      before = s.nodes;
      rest = left;
      fit = s.fit;
      allowed = s.allowed;
      few = omega (arith, counted, few);
      whole = s.whole;
      is_bad = none;
      numbered = omega (arith, counted);
    }

-- an empty text begins with no node
pub none_begins : (text : List ℕ) → text ≡ [] → BeginsNoNode text
none_begins text is n rest fit e = some (node_line n) (sym is ∙ e)
  where
    some : (line : List ℕ) → [] ≢ line ++ 10 ∷ rest
    some [] f = cc f
    some (x ∷ xs) f = cc f

-- ---- the first line

-- a node of a Split is allowed where Splits are
pub split_allowed : (l : Limits) (n : Node) → (IsPlain n → ⊥) → IsTrue l.splits ↔ IsAllowed l n
split_allowed l n part = by l.splits
  where
    by : (b : Bool) → IsTrue b ↔ (b ≡ false → IsPlain n)
    by true = ((λ h no. absurd (cc no)), (λ f. refl))
    by false = ((λ h no. absurd (cc h)), (λ f. absurd (part (f refl))))

pub node_read : (l : Limits) (text : List ℕ) (n : Node) (line rest : List ℕ) → BeginsWith text n line rest → IsAllowed l n
    → IsNodeRead l text rest
node_read l text n line rest b allowed = record {
  node = n;
  fits = b.fits;
  allowed = allowed;
  whole = b.whole ∙ ap (λ (t : List ℕ). t ++ 10 ∷ rest) b.spelled;
}

-- the node there is not allowed, and no other one has that line
pub not_allowed : (l : Limits) (text : List ℕ) (n : Node) (line rest : List ℕ) → BeginsWith text n line rest → (IsAllowed l n → ⊥)
    → BeginsNoAllowed l text
not_allowed l text n line rest b never m behind fit allowed e =
    let same = first_once m n behind rest fit b.fits (sym e ∙ (b.whole ∙ ap (λ (t : List ℕ). t ++ 10 ∷ rest) b.spelled)) in
    never (subst (IsAllowed l) same.0 allowed)

pub none_allowed : (l : Limits) (text : List ℕ) → BeginsNoNode text → BeginsNoAllowed l text
none_allowed l text none n rest fit allowed e = none n rest fit e

-- the lines before what is left
pub lines_taken : (text front left : List ℕ) (n : ℕ) → text ≡ front ++ left → n ≡ length text - length left → take n text ≡ front
lines_taken text front left n is e =
    let all = ap length is ∙ length-append front left in
    let long : n ≡ length front = omega (arith, all, e) in
    ap (λ (k : ℕ). take k text) long ∙ (ap (take (length front)) is ∙ take-append_seam front left)
