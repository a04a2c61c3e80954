-- A list of nodes has one verdict.
use Rattle.std.proofs.Common.{ℕ, ◌≡◌, ◌+◌, List, [], ◌∷◌, ◌++◌, length, get_or, All, refl, sym, ap, subst, ◌∙◌, length-append, arith}
use Rattle.std.specs.declared.option.Option.{Option}
use Rattle.std.specs.List.{AllByRecursion}
use Rattle.std.proofs.lemmas.List.{get_or_at}
use Rattle.std.proofs.lemmas.List.Elements.{recursion_from_All}
use Rattle.un_model.specs.declared.model.Model.{Model}
use Rattle.un_tree.specs.Waits.{Waiting, Whole, Begins, Inside, Visit, IsStrictIn}
use Rattle.un_tree.specs.declared.node.Node.{Node}
use Rattle.un_tree.specs.declared.node.Node.TheVariants.{Branch, Closed, Open, Split, Part}
use Rattle.un_tree.proofs.PlainLaws.{plain_right, plain_strict}
use Rattle.un_post.specs.Posts.{fix_at}
use Rattle.un_tree.specs.Searched.{IsSearchedIn}
use Rattle.un_certificate.specs.Certificates.{IsAliveIn, IsCertificate}
use Rattle.un_certificate.specs.Joints.{blocks_of, visits_in, IsTreeIn, IsOwn, AreJoined}
use Rattle.un_model.specs.Boxes.{root_of}
use Rattle.un_check.specs.Laws.{IsAccepting}
use Rattle.un_check.specs.Verdicts.{Keeps, KeepsIn, IsLostIn, IsRightNode, BreaksIn, IsFirstBreak, IsVerdict}
use Rattle.un_check.specs.declared.verdict.TreeVerdict.{TreeVerdict}
use Rattle.un_check.specs.declared.verdict.TreeVerdict.TheVariants.{Yes, NotStrict, NotSplit, NotAlive, NotClosed, Short}

module _ (m : Model) (limit : Option ℕ) where
  -- no node keeps all points and breaks one
  breaks_not : (place : ℕ) (n : Node) (w : Waiting) (rest : List Node) (v : TreeVerdict) → BreaksIn m limit place n w rest v
      → KeepsIn m limit n w rest → ⊥
  breaks_not place n w rest (NotStrict i) b k = b.1 k.strict
  breaks_not place n w rest (NotSplit i) b k = b.2 k.right
  breaks_not place n w rest (NotAlive i) b k = b.2 k.alive
  breaks_not place n w rest (NotClosed i) b k = b.1 k.lost
  breaks_not place n w rest (Yes least count) b k = b
  breaks_not place n w rest Short b k = b

  -- of the points none but the first two are asked of one node
  strict_or_lost : (n : Node) (w : Waiting) → (IsStrictIn (IsOwn m) n w → ⊥) → (IsLostIn m limit n w → ⊥) → ⊥
  strict_or_lost (Branch v x) w s l = l tt
  strict_or_lost Closed w s l = s tt
  strict_or_lost Open w s l = s tt
  strict_or_lost Split w s l = s tt
  strict_or_lost (Part number) w s l = s tt

  alive_or_lost : (n : Node) (w : Waiting) → (IsAliveIn m limit n w → ⊥) → (IsLostIn m limit n w → ⊥) → ⊥
  alive_or_lost (Branch v x) w a l = l tt
  alive_or_lost Closed w a l = a tt
  alive_or_lost Open w a l = l tt
  alive_or_lost Split w a l = a tt
  alive_or_lost (Part number) w a l = a tt

  right_or_alive : (n : Node) (w : Waiting) (rest : List Node) → (IsRightNode m limit n w rest → ⊥) → (IsAliveIn m limit n w → ⊥) → ⊥
  right_or_alive (Branch v x) (Whole b) rest r a = r tt
  right_or_alive (Branch v x) (Begins k b) rest r a = a tt
  right_or_alive (Branch v x) (Inside k number b) rest r a = r tt
  right_or_alive Closed w rest r a = a tt
  right_or_alive Open (Whole b) rest r a = r tt
  right_or_alive Open (Begins k b) rest r a = a tt
  right_or_alive Open (Inside k number b) rest r a = a tt
  right_or_alive Split w rest r a = a tt
  right_or_alive (Part number) w rest r a = a tt

  right_or_lost : (n : Node) (w : Waiting) (rest : List Node) → (IsRightNode m limit n w rest → ⊥) → (IsLostIn m limit n w → ⊥) → ⊥
  right_or_lost (Branch v x) w rest r l = l tt
  right_or_lost Closed (Whole b) rest r l = r tt
  right_or_lost Closed (Begins k b) rest r l = l tt
  right_or_lost Closed (Inside k number b) rest r l = r tt
  right_or_lost Open w rest r l = l tt
  right_or_lost Split w rest r l = l tt
  right_or_lost (Part number) w rest r l = l tt

  -- a node breaks one point, where it stands
  break_one : (place : ℕ) (n : Node) (w : Waiting) (rest : List Node) (u v : TreeVerdict) → BreaksIn m limit place n w rest u
      → BreaksIn m limit place n w rest v → u ≡ v
  break_one place n w rest (NotStrict i) (NotStrict j) x y = ap NotStrict (x.0 ∙ sym y.0)
  break_one place n w rest (NotStrict i) (NotSplit j) x y = absurd (x.1 y.1)
  break_one place n w rest (NotStrict i) (NotAlive j) x y = absurd (x.1 y.1)
  break_one place n w rest (NotStrict i) (NotClosed j) x y = absurd (strict_or_lost n w x.1 y.1)
  break_one place n w rest (NotSplit i) (NotStrict j) x y = absurd (y.1 x.1)
  break_one place n w rest (NotSplit i) (NotSplit j) x y = ap NotSplit (x.0 ∙ sym y.0)
  break_one place n w rest (NotSplit i) (NotAlive j) x y = absurd (right_or_alive n w rest x.2 y.2)
  break_one place n w rest (NotSplit i) (NotClosed j) x y = absurd (right_or_lost n w rest x.2 y.1)
  break_one place n w rest (NotAlive i) (NotStrict j) x y = absurd (y.1 x.1)
  break_one place n w rest (NotAlive i) (NotSplit j) x y = absurd (right_or_alive n w rest y.2 x.2)
  break_one place n w rest (NotAlive i) (NotAlive j) x y = ap NotAlive (x.0 ∙ sym y.0)
  break_one place n w rest (NotAlive i) (NotClosed j) x y = absurd (alive_or_lost n w x.2 y.1)
  break_one place n w rest (NotClosed i) (NotStrict j) x y = absurd (strict_or_lost n w y.1 x.1)
  break_one place n w rest (NotClosed i) (NotSplit j) x y = absurd (right_or_lost n w rest y.2 x.1)
  break_one place n w rest (NotClosed i) (NotAlive j) x y = absurd (alive_or_lost n w y.2 x.1)
  break_one place n w rest (NotClosed i) (NotClosed j) x y = ap NotClosed (x.0 ∙ sym y.0)
  break_one place n w rest (NotStrict i) (Yes least count) x y = absurd y
  break_one place n w rest (NotStrict i) Short x y = absurd y
  break_one place n w rest (NotSplit i) (Yes least count) x y = absurd y
  break_one place n w rest (NotSplit i) Short x y = absurd y
  break_one place n w rest (NotAlive i) (Yes least count) x y = absurd y
  break_one place n w rest (NotAlive i) Short x y = absurd y
  break_one place n w rest (NotClosed i) (Yes least count) x y = absurd y
  break_one place n w rest (NotClosed i) Short x y = absurd y
  break_one place n w rest (Yes least count) v x y = absurd x
  break_one place n w rest Short v x y = absurd x

  -- the first that lacks a property stands at one place
  split_one : (xs ys : List Visit) (a b : Visit) (vs bs : List Visit) → xs ++ a ∷ vs ≡ ys ++ b ∷ bs → AllByRecursion (Keeps m limit) xs
      → AllByRecursion (Keeps m limit) ys → (Keeps m limit a → ⊥) → (Keeps m limit b → ⊥) → a ≡ b
  split_one [] [] a b vs bs e p q f g = cc e
  split_one [] (y ∷ ys) a b vs bs e p q f g = let same : y ≡ a = cc e in absurd (f (subst (Keeps m limit) same q.0))
  split_one (x ∷ xs) [] a b vs bs e p q f g = let same : x ≡ b = cc e in absurd (g (subst (Keeps m limit) same p.0))
  split_one (x ∷ xs) (y ∷ ys) a b vs bs e p q f g =
      let rest : xs ++ a ∷ vs ≡ ys ++ b ∷ bs = cc e in split_one xs ys a b vs bs rest p.1 q.1 f g

  -- a list has one first node that breaks a point, and one point that it breaks
  pub first_one : (ps : List Visit) (u v : TreeVerdict) → IsFirstBreak m limit ps u → IsFirstBreak m limit ps v → u ≡ v
  first_one ps u v x y =
      let same : x.at ≡ y.at = split_one x.before y.before x.at y.at x.behind y.behind (sym x.split ∙ y.split)
      (recursion_from_All (Keeps m limit) x.before x.kept) (recursion_from_All (Keeps m limit) y.before y.kept)
      (breaks_not x.at.place x.at.node x.at.waiting x.at.rest u x.breaks) (breaks_not y.at.place y.at.node y.at.waiting y.at.rest v y.breaks) in
      break_one y.at.place y.at.node y.at.waiting y.at.rest u v
      (subst (λ (p : Visit). BreaksIn m limit p.place p.node p.waiting p.rest u) same x.breaks) y.breaks

  kept_at : (before behind : List Visit) (at : Visit) → All (Keeps m limit) (before ++ at ∷ behind) → Keeps m limit at
  kept_at before behind at h =
      subst (Keeps m limit) (get_or_at before at behind at (length before) refl)
      (h (length before) at (omega (arith, length-append before (at ∷ behind))))

  -- no node breaks a point where all keep all
  pub first_not : (ps : List Visit) (v : TreeVerdict) → IsFirstBreak m limit ps v → All (Keeps m limit) ps → ⊥
  first_not ps v x kept =
      breaks_not x.at.place x.at.node x.at.waiting x.at.rest v x.breaks
      (kept_at x.before x.behind x.at (subst (All (Keeps m limit)) x.split kept))

  -- the verdict on one whole tree that keeps all points
  pub kept_accepted : (nodes : List Node) (v : TreeVerdict) → IsVerdict m limit nodes v → All (Keeps m limit) (visits_in m nodes)
      → IsTreeIn m nodes → IsAccepting v
  kept_accepted nodes (Yes least count) is kept whole = tt
  kept_accepted nodes (NotStrict i) is kept whole = first_not (visits_in m nodes) (NotStrict i) is kept
  kept_accepted nodes (NotSplit i) is kept whole = first_not (visits_in m nodes) (NotSplit i) is kept
  kept_accepted nodes (NotAlive i) is kept whole = first_not (visits_in m nodes) (NotAlive i) is kept
  kept_accepted nodes (NotClosed i) is kept whole = first_not (visits_in m nodes) (NotClosed i) is kept
  kept_accepted nodes Short is kept whole = is.torn whole

  lost_of : (n : Node) (w : Waiting) → IsSearchedIn (fix_at m limit) n w → IsLostIn m limit n w
  lost_of (Branch v x) w l = tt
  lost_of Closed (Whole b) l = l
  lost_of Closed (Begins k b) l = tt
  lost_of Closed (Inside k number b) l = absurd l
  lost_of Open w l = tt
  lost_of Split w l = tt
  lost_of (Part number) w l = tt

  -- the nodes of the tree of a search keep all points
  pub searched_keeps : (nodes : List Node) → IsCertificate m limit nodes → All (Keeps m limit) (visits_in m nodes)
  searched_keeps nodes c =
      let strict = plain_strict (blocks_of m) (root_of m) nodes c.tree.plain (IsOwn m) c.tree.strict in
      let right = plain_right (blocks_of m) (root_of m) nodes c.tree.plain (AreJoined m) limit in λ i d lt. (
      let p = get_or (visits_in m nodes) i d in
      record {
        strict = strict i d lt;
        right = right i d lt;
        alive = c.alive i d lt;
        lost = lost_of p.node p.waiting (c.tree.searched i d lt);
      }
      )
