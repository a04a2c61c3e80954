-- What is told of the numbers of parts.
use Rattle.std.proofs.Common.{ℕ, zero, suc, ◌≡◌, ◌≢◌, ◌<◌, ◌≤◌, ◌+◌, ◌-◌, Bool, true, false, ◌||◌, List, [], ◌∷◌, ◌++◌, length, All, refl, sym, ap}
use Rattle.std.proofs.Common.{◌∙◌, ◌⊎◌, inl, inr, append_assoc, subst, arith}
use Rattle.std.specs.Prelude.{Option, Some, None, Contains, MatchOption, slice_index_or, ⊤, ◌↔◌, IsTrue}
use Rattle.std.specs.Option.{option_map}
use Rattle.std.specs.List.{AllByRecursion}
use Rattle.std.proofs.lemmas.List.Elements.{recursion_from_All}
use Rattle.un_tree.specs.Parts.{Slot, PartHere, TreeHere, ComeTo, at_most_64, has_none, numbers, part_numbers, parts_wanted, sum_of, told}
use Rattle.un_tree.specs.Reading.{IsOver, slots_of, told_behind, told_with, trees_wanted, with_number}
use Rattle.un_tree.specs.Texts.{BeginsNoNode, BeginsWith, Fits, node_line, tree_text}
use Rattle.un_tree.proofs.TreeTexts.{first_once, some_line}
use Rattle.un_tree.specs.declared.node.Node.{Node}
use Rattle.un_tree.specs.declared.node.Node.TheVariants.{Part}
use Rattle.un_tree.specs.declared.parts.Parts.TheVariants.{Torn, Numbers}
use Rattle.un_tree.specs.declared.parts.Reading.{Reading}

or_true : (a c : Bool) → a || true ≡ true || c
or_true true c = refl
or_true false c = refl

sum_more : (s n t : ℕ) → at_most_64 (s + (n + t)) ≡ at_most_64 (at_most_64 (s + n) + t)
sum_more s n t = omega arith

-- a part more under no number
none_first : (free : Bool) (sum : ℕ) (o : Option (List (Option ℕ)))
    → told_with free sum (option_map (λ (ps : List (Option ℕ)). None ∷ ps) o) ≡ told_with true sum o
none_first free sum None = refl
none_first free sum (Some ps) = ap (λ (c : Bool). Numbers c (at_most_64 (sum + sum_of ps))) (or_true free (has_none ps))

-- a part more under a number
some_first : (free : Bool) (sum n : ℕ) (o : Option (List (Option ℕ)))
    → told_with free sum (option_map (λ (ps : List (Option ℕ)). Some n ∷ ps) o) ≡ told_with free (at_most_64 (sum + n)) o
some_first free sum n None = refl
some_first free sum n (Some ps) = ap (Numbers (free || has_none ps)) (sum_more sum n (sum_of ps))

module _ (r : Reading) where
  -- behind a node, by what waits
  waiting : (m : Node) (ns : List Node) (ss : List Slot) → slots_of r ≡ ss
      → told_behind r (m ∷ ns) ≡ told_with r.free r.sum (numbers (m ∷ ns) ss)
  waiting m ns ss e = ap (λ (ts : List Slot). told_with r.free r.sum (numbers (m ∷ ns) ts)) e

  tree_waits : 0 < r.trees → slots_of r ≡ TreeHere ∷ trees_wanted (r.trees - 1) (parts_wanted r.parts)
  tree_waits some =
      let e : r.trees ≡ suc (r.trees - 1) = omega (arith, some) in ap (λ (t : ℕ). trees_wanted t (parts_wanted r.parts)) e

  part_waits : r.trees ≡ 0 → 0 < r.parts → slots_of r ≡ PartHere ∷ parts_wanted (r.parts - 1)
  part_waits none some =
      let e : r.parts ≡ suc (r.parts - 1) = omega (arith, some) in
      ap (λ (t : ℕ). trees_wanted t (parts_wanted r.parts)) none ∙ ap parts_wanted e

  -- a tree waits, or a part
  some_waits : (IsOver r → ⊥) → (0 < r.trees) ⊎ ((r.trees ≡ 0) × (0 < r.parts))
  some_waits more = by r.trees r.parts refl refl
    where
      by : (t p : ℕ) → t ≡ r.trees → p ≡ r.parts → (0 < r.trees) ⊎ ((r.trees ≡ 0) × (0 < r.parts))
      by zero zero e f = absurd (more (sym e, sym f))
      by zero (suc p) e f = inr (sym e, omega (arith, f))
      by (suc t) p e f = inl (omega (arith, e))

  -- a part begins where no tree waits
  pub part_told : (number : Option ℕ) (ns : List Node) → (IsOver r → ⊥) → r.trees ≡ 0
      → told_behind r (Part number ∷ ns) ≡ told_behind (with_number r number) ns
  part_told number ns more none = elim (some_waits more) [
    | inl some ↦ absurd (omega (arith, none, some))
    | inr part ↦ by number part.0 part.1
  ]
    where
      by : (number : Option ℕ) → r.trees ≡ 0 → 0 < r.parts → told_behind r (Part number ∷ ns) ≡ told_behind (with_number r number) ns
      by None none some = waiting (Part None) ns _ (part_waits none some)
          ∙ none_first r.free r.sum (numbers ns (TreeHere ∷ parts_wanted (r.parts - 1)))
      by (Some n) none some = waiting (Part (Some n)) ns _ (part_waits none some)
          ∙ some_first r.free r.sum n (numbers ns (TreeHere ∷ parts_wanted (r.parts - 1)))

  -- where the list ends, and something waits
  pub end_torn : (IsOver r → ⊥) → told_behind r [] ≡ Torn
  end_torn more = elim (some_waits more) [
    | inl some ↦ ap (λ (ts : List Slot). told_with r.free r.sum (numbers [] ts)) (tree_waits some)
    | inr part ↦ ap (λ (ts : List Slot). told_with r.free r.sum (numbers [] ts)) (part_waits part.0 part.1)
  ]

-- what is left is the text of nodes, whose numbers with those so far are those of all nodes
pub record IsLeft (blocks : ℕ) (nodes : List Node) (r : Reading) (left : List ℕ) : Type 0 where
  pub rest : List Node
  pub fit : AllByRecursion Fits rest
  pub spelled : left ≡ tree_text rest
  pub same : told_behind r rest ≡ told (part_numbers blocks nodes)

pub first_left : (blocks : ℕ) (nodes : List Node) (r : Reading) (text : List ℕ)
    → ((ns : List Node) → told_behind r ns ≡ told (part_numbers blocks ns)) → All Fits nodes → text ≡ tree_text nodes → IsLeft blocks nodes r text
first_left blocks nodes r text before fit is =
    record { rest = nodes; fit = recursion_from_All Fits nodes fit; spelled = is; same = before nodes }

module _ (blocks : ℕ) (nodes : List Node) (r : Reading) (left : List ℕ) (h : IsLeft blocks nodes r left) where
  -- behind the line of a node the nodes behind it are left
  behind_node : (n : Node) (line rest : List ℕ) → BeginsWith left n line rest
      → (ns : List Node) × AllByRecursion Fits ns × (h.rest ≡ n ∷ ns) × (rest ≡ tree_text ns)
  behind_node n line rest b = by h.rest h.fit (sym (b.whole ∙ ap (λ (l : List ℕ). l ++ 10 ∷ rest) b.spelled) ∙ h.spelled)
    where
      by : (ns : List Node) → AllByRecursion Fits ns → node_line n ++ 10 ∷ rest ≡ tree_text ns
          → (ms : List Node) × AllByRecursion Fits ms × (ns ≡ n ∷ ms) × (rest ≡ tree_text ms)
      by [] fit e = absurd (some_line n rest e)
      by (m ∷ ms) fit e =
          let first = first_once n m rest (tree_text ms) b.fits fit.0 (e ∙ append_assoc (node_line m) (10 ∷ []) (tree_text ms)) in
          (ms, fit.1, ap (λ (k : Node). k ∷ ms) (sym first.0), first.1)

  pub next_left : (n : Node) (line rest : List ℕ) (q : Reading) → BeginsWith left n line rest
      → ((ns : List Node) → told_behind r (n ∷ ns) ≡ told_behind q ns) → IsLeft blocks nodes q rest
  next_left n line rest q b passed =
      let at = behind_node n line rest b in
      record { rest = at.0; fit = at.1; spelled = at.3; same = sym (passed at.0) ∙ (ap (told_behind r) (sym at.2) ∙ h.same) }

  -- a node that may not stand where it does
  pub node_torn : (n : Node) (line rest : List ℕ) → BeginsWith left n line rest → ((ns : List Node) → told_behind r (n ∷ ns) ≡ Torn)
      → Torn ≡ told (part_numbers blocks nodes)
  node_torn n line rest b torn =
      let at = behind_node n line rest b in sym (torn at.0) ∙ (ap (told_behind r) (sym at.2) ∙ h.same)

  -- the text ends, and something waits
  pub none_left : (IsOver r → ⊥) → left ≡ [] → Torn ≡ told (part_numbers blocks nodes)
  none_left more none = by h.rest (sym none ∙ h.spelled) h.same
    where
      by : (ns : List Node) → [] ≡ tree_text ns → told_behind r ns ≡ told (part_numbers blocks nodes) → Torn ≡ told (part_numbers blocks nodes)
      by [] e same = sym (end_torn r more) ∙ same
      by (n ∷ ns) e same = absurd (some_line n (tree_text ns) (sym (e ∙ append_assoc (node_line n) (10 ∷ []) (tree_text ns))))

  -- and a text of nodes begins with a node
  pub no_node : left ≢ [] → BeginsNoNode left → ⊥
  no_node some none = by h.rest h.fit h.spelled
    where
      by : (ns : List Node) → AllByRecursion Fits ns → left ≡ tree_text ns → ⊥
      by [] fit e = some e
      by (n ∷ ns) fit e = none n (tree_text ns) fit.0 (e ∙ append_assoc (node_line n) (10 ∷ []) (tree_text ns))

-- ---- the limit

contains_later : (p : Option ℕ) (ps : List (Option ℕ)) → Contains ps None → Contains (p ∷ ps) None
contains_later p ps h = (suc h.0, omega (arith, h.1), h.2)

pub none_there : (ps : List (Option ℕ)) → has_none ps ≡ true → Contains ps None
none_there [] e = absurd (cc e)
none_there (None ∷ ps) e = (0, omega arith, refl)
none_there (Some n ∷ ps) e = contains_later (Some n) ps (none_there ps e)

pub there_none : (ps : List (Option ℕ)) → Contains ps None → has_none ps ≡ true
there_none ps h = by ps h.0 h.1 h.2
  where
    by : (ps : List (Option ℕ)) (k : ℕ) → k < length ps → slice_index_or ps k None ≡ None → has_none ps ≡ true
    by [] k lt e = absurd (omega (arith, lt))
    by (None ∷ ps) k lt e = refl
    by (Some n ∷ ps) zero lt e = absurd (cc e)
    by (Some n ∷ ps) (suc k) lt e = by ps k (omega (arith, lt)) e

-- what is told of numbers is told of some list of them
numbers_told : (free : Bool) (sum : ℕ) (ps : Option (List (Option ℕ))) → Numbers free sum ≡ told ps
    → (qs : List (Option ℕ)) × (ps ≡ Some qs) × (free ≡ has_none qs) × (sum ≡ at_most_64 (sum_of qs))
numbers_told free sum None e = absurd (cc e)
numbers_told free sum (Some qs) e = (qs, refl, cc e, cc e)

come_in : (b : Bool) (limit : Option ℕ) (ps : Option (List (Option ℕ))) (qs : List (Option ℕ)) → ps ≡ Some qs
    → (IsTrue b ↔ ComeTo limit qs) → IsTrue b ↔ MatchOption ps ⊤ (ComeTo limit)
come_in b limit ps qs e h = subst (λ (o : Option (List (Option ℕ))). IsTrue b ↔ MatchOption o ⊤ (ComeTo limit)) (sym e) h

pub come_never : (free : Bool) (sum : ℕ) (ps : Option (List (Option ℕ))) → Numbers free sum ≡ told ps
    → IsTrue free ↔ MatchOption ps ⊤ (ComeTo None)
come_never free sum ps e =
    let t = numbers_told free sum ps e in
    come_in free None ps t.0 t.1 ((λ is. none_there t.0 (sym t.2 ∙ is)), (λ h. t.2 ∙ there_none t.0 h))

pub come_free : (limit : ℕ) (free : Bool) (sum : ℕ) (ps : Option (List (Option ℕ))) → free ≡ true → Numbers free sum ≡ told ps
    → IsTrue free ↔ MatchOption ps ⊤ (ComeTo (Some limit))
come_free limit free sum ps is e =
    let t = numbers_told free sum ps e in
    come_in free (Some limit) ps t.0 t.1 ((λ h. inl (none_there t.0 (sym t.2 ∙ is))), (λ h. is))

pub come_sum : (limit : ℕ) (free : Bool) (sum : ℕ) (ps : Option (List (Option ℕ))) (b : Bool) → free ≡ false → Numbers free sum ≡ told ps
    → ((all : ℕ) → sum ≡ at_most_64 all → IsTrue b ↔ (limit ≤ all)) → IsTrue b ↔ MatchOption ps ⊤ (ComeTo (Some limit))
come_sum limit free sum ps b is e enough =
    let t = numbers_told free sum ps e in
    let all = enough (sum_of t.0) t.3 in
    come_in b (Some limit) ps t.0 t.1 ((λ h. inr (all.0 h)), (λ h. by t.0 t.2 all.1 h))
  where
    by : (qs : List (Option ℕ)) → free ≡ has_none qs → (limit ≤ sum_of qs → IsTrue b) → ComeTo (Some limit) qs → IsTrue b
    by qs none more (inl h) = (let there = there_none qs h in absurd (cc (is, none, there)))
    by qs none more (inr le) = more le
