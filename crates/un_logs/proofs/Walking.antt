-- The logging of a tree, node after node.
use Rattle.std.proofs.Common.{ℕ, zero, suc, ◌≡◌, ◌+◌, ◌<◌, ◌≤◌, Bool, true, false, List, [], ◌∷◌, ◌++◌, All, length, drop, get_or}
use Rattle.std.proofs.Common.{append_assoc, append-nil, add-one, refl, sym, ap, subst, ◌∙◌, arith}
use Rattle.std.specs.Prelude.{Option, Result, Ok, Err, IfErr, OnOk}
use Rattle.std.specs.Bool.{OnTrue}
use Rattle.std.specs.List.{AllByRecursion, flat_map}
use Rattle.std.proofs.Math.Seq.{drop-cons}
use Rattle.std.proofs.lemmas.List.Elements.{recursion_from_All, All-from_recursion, All-append}
use Rattle.un_base.specs.Lines.{pieces_of}
use Rattle.un_domains.specs.Sets.{Sets}
use Rattle.un_model.specs.Boxes.{root_of}
use Rattle.un_model.specs.declared.model.Model.{Model}
use Rattle.un_tree.specs.Boxes.{reached}
use Rattle.un_tree.specs.Waits.{Waiting, Whole, Visit, IsWhole, IsTreeOf, IsPlain, HasSides, HasSidesIn, after, visits, visits_of}
use Rattle.un_tree.specs.declared.node.Decision.{Decision}
use Rattle.un_tree.specs.declared.node.Node.{Node}
use Rattle.un_tree.specs.declared.node.Node.TheVariants.{Closed}
use Rattle.un_walk.specs.Stands.{IsStandAt}
use Rattle.un_walk.specs.Turns.{waits, waiting_at}
use Rattle.un_judge.specs.Judged.{Comes, IsJudged, closed_by, closed_box, closed_boxes}
use Rattle.un_judge.specs.Walks.{blocks_of}
use Rattle.un_judge.specs.declared.leaf.Rules.{Rules}
use Rattle.un_judge.specs.declared.verdict.StepVerdict.TheVariants.{Yes}
use Rattle.un_logs.specs.Goods.{IsGood, Ends}
use Rattle.un_logs.specs.Stuck.{IsStuck, IsStuckBy, IsStuckAt, IsLost, IsFirstStuck}
use Rattle.un_logs.specs.Walks.{IsWalk, Passes, waits_of}
use Rattle.un_logs.specs.declared.log.Walk.{Walk}

-- ---- the lines of a node

pub passes_branch : (r : Rules) (n : Node) (box : Sets) (text : List ℕ) → closed_by n (Whole box) ≡ []
    → (IsStuckBy r.rules r.m.now r.limit n (Whole box) → ⊥) → Passes r n box text text
passes_branch r n box text none lost = record {
  part = [];
  grown = sym (append-nil text);
  good = λ boxes rest good. subst (λ (bs : List Sets). IsGood r (bs ++ boxes) rest) (sym none) good;
  lost = lost;
}

pub passes_closed : (r : Rules) (box : Sets) (before now : List ℕ) → Ends r box before now
    → (IsStuck r.rules r.m.now r.limit box → ⊥) → Passes r Closed box before now
passes_closed r box before now e lost = record { part = e.part; grown = e.grown; good = e.closes; lost = lost }

-- ---- one node more

module _ (r : Rules) (nodes : List Node) (n : Node) (rest : List Node) (old : Walk) (h : IsWalk r nodes (n ∷ rest) old) where
  abbrev root : Sets
  root = root_of r.m.now

  abbrev path : List Decision
  path = old.stand.path.items

  abbrev now : Waiting
  now = Whole (reached root path)

  abbrev behind : List Waiting
  behind = after (blocks_of r) n now (waits root path)

  abbrev visit : Visit
  visit = record { node = n; waiting = now; place = old.place; rest = rest }

  abbrev visits_behind : List Visit
  visits_behind = visits (blocks_of r) (old.place + 1) rest behind

  -- a box waits
  more : old.more ≡ true
  more = by old.more h.whole
    where
      by : (b : Bool) → IsWhole (blocks_of r) (n ∷ rest) (waiting_at root path b) → b ≡ true
      by true whole = refl
      by false whole = absurd whole

  here : visits (blocks_of r) old.place (n ∷ rest) (waits_of r old) ≡ visit ∷ visits_behind
  here = ap (λ (b : Bool). visits (blocks_of r) old.place (n ∷ rest) (waiting_at root path b)) more

  whole_behind : IsWhole (blocks_of r) rest behind
  whole_behind = subst (λ (b : Bool). IsWhole (blocks_of r) (n ∷ rest) (waiting_at root path b)) more h.whole

  strict_both : AllByRecursion HasSides (visit ∷ visits_behind)
  strict_both = subst (AllByRecursion HasSides) here h.strict

  plain_both : AllByRecursion IsPlain (n ∷ rest)
  plain_both = h.plain

  -- the node is none of a Split or its parts
  pub plain_here : IsPlain n
  plain_here = plain_both.0

  box_is : old.stand.cuts.sets ≡ reached root path
  box_is = let a = h.at in a.sets

  split_here : visits_of (blocks_of r) root nodes ≡ h.done ++ visit ∷ visits_behind
  split_here = h.split ∙ ap (λ (vs : List Visit). h.done ++ vs) here

  -- the node is strict in the stand's box
  pub strict_here : HasSidesIn n (Whole old.stand.cuts.sets)
  strict_here = subst (λ (b : Sets). HasSidesIn n (Whole b)) (sym box_is) strict_both.0

  good_here : (tail : List ℕ) → IsGood r (closed_by n now ++ flat_map closed_box visits_behind) tail
      → IsGood r (closed_boxes (blocks_of r) root nodes) (old.text.items ++ tail)
  good_here tail good = h.good tail (subst (λ (vs : List Visit). IsGood r (flat_map closed_box vs) tail) (sym here) good)

  -- the rules do not empty its box
  pub first_stuck : (i : ℕ) → i ≡ old.place → IsStuckBy r.rules r.m.now r.limit n (Whole old.stand.cuts.sets)
      → IsFirstStuck r.rules r.m.now r.limit nodes i
  first_stuck i is stuck = record {
    before = h.done;
    at = visit;
    behind = visits_behind;
    split = split_here;
    none = h.lost;
    stuck = subst (λ (b : Sets). IsStuckBy r.rules r.m.now r.limit n (Whole b)) box_is stuck;
    place = sym is;
  }

  -- they do: the walk goes on
  pub walk_on : (mid new : Walk) → Passes r n old.stand.cuts.sets old.text.items new.text.items → IsStandAt root new.stand
      → new.place ≡ old.place + 1 → after (blocks_of r) n (Whole mid.stand.cuts.sets) (waits root mid.stand.path.items) ≡ waits_of r new
      → mid.stand.path.items ≡ path → mid.stand.cuts.sets ≡ old.stand.cuts.sets → IsWalk r nodes rest new
  walk_on mid new p at place waits_are same_path same_box =
      let next : behind ≡ waits_of r new =
      ap (λ (b : Sets). after (blocks_of r) n (Whole b) (waits root path)) (sym (same_box ∙ box_is))
      ∙ (ap (λ (ds : List Decision). after (blocks_of r) n (Whole mid.stand.cuts.sets) (waits root ds)) (sym same_path) ∙ waits_are) in
      let ahead : visits_behind ≡ visits (blocks_of r) new.place rest (waits_of r new) =
      ap (λ (ws : List Waiting). visits (blocks_of r) (old.place + 1) rest ws) next
      ∙ ap (λ (i : ℕ). visits (blocks_of r) i rest (waits_of r new)) (sym place) in
      let strict = strict_both.1 in
      record {
        at = at;
        whole = subst (IsWhole (blocks_of r) rest) next whole_behind;
        plain = plain_both.1;
        strict = subst (AllByRecursion HasSides) ahead strict;
        done = h.done ++ visit ∷ [];
        split = split_here ∙ (ap (λ (vs : List Visit). h.done ++ visit ∷ vs) ahead
            ∙ sym (append_assoc h.done (visit ∷ []) (visits (blocks_of r) new.place rest (waits_of r new))));
        lost = All-append (IsLost r.rules r.m.now r.limit) h.done (visit ∷ []) h.lost
            (All-from_recursion (IsLost r.rules r.m.now r.limit) (visit ∷ []) (
              (λ stuck. p.lost (subst (λ (b : Sets). IsStuckBy r.rules r.m.now r.limit n (Whole b)) (sym box_is) stuck)),
              tt,
            ));
        good = λ tail good.
            subst (λ (t : List ℕ). IsGood r (closed_boxes (blocks_of r) root nodes) (t ++ tail)) (sym p.grown)
            (subst (IsGood r (closed_boxes (blocks_of r) root nodes)) (sym (append_assoc old.text.items p.part tail))
            (good_here (p.part ++ tail)
            (subst (λ (b : Sets). IsGood r (closed_by n (Whole b) ++ flat_map closed_box visits_behind) (p.part ++ tail)) box_is
            (p.good (flat_map closed_box visits_behind) tail
            (subst (λ (vs : List Visit). IsGood r (flat_map closed_box vs) tail) (sym ahead) good)))));
      }

-- ---- the first node and the last

pub walk_first : (r : Rules) (nodes : List Node) (w : Walk) → IsStandAt (root_of r.m.now) w.stand → w.stand.path.items ≡ []
    → w.more ≡ true → w.place ≡ 0 → w.text.items ≡ [] → IsTreeOf (blocks_of r) (root_of r.m.now) nodes → All IsPlain nodes
    → All HasSides (visits_of (blocks_of r) (root_of r.m.now) nodes) → IsWalk r nodes nodes w
walk_first r nodes w at path more place text whole plain strict =
    let root = root_of r.m.now in
    let first : waits_of r w ≡ Whole root ∷ [] =
    ap (waiting_at root w.stand.path.items) more ∙ ap (λ (ds : List Decision). waiting_at root ds true) path in
    let all : visits (blocks_of r) w.place nodes (waits_of r w) ≡ visits_of (blocks_of r) root nodes =
    ap (visits (blocks_of r) w.place nodes) first ∙ ap (λ (i : ℕ). visits (blocks_of r) i nodes (Whole root ∷ [])) place in
    record {
      at = at;
      whole = subst (IsWhole (blocks_of r) nodes) (sym first) whole;
      plain = recursion_from_All IsPlain nodes plain;
      strict = subst (AllByRecursion HasSides) (sym all) (recursion_from_All HasSides (visits_of (blocks_of r) root nodes) strict);
      done = [];
      split = sym all;
      lost = All-from_recursion (IsLost r.rules r.m.now r.limit) [] tt;
      good = λ tail good.
          subst (λ (t : List ℕ). IsGood r (closed_boxes (blocks_of r) root nodes) (t ++ tail)) (sym text)
          (subst (λ (vs : List Visit). IsGood r (flat_map closed_box vs) tail) all good);
    }

module _ (r : Rules) (nodes : List Node) (w : Walk) (h : IsWalk r nodes [] w) where
  -- nothing waits
  pub all_gone : visits_of (blocks_of r) (root_of r.m.now) nodes ≡ h.done
  all_gone = h.split ∙ append-nil h.done

  pub log_is : IsJudged r.rules r.m.now r.limit nodes w.text.items Yes
  log_is =
      subst (λ (t : List ℕ). Comes r.rules r.m.now r.limit 1 (closed_boxes (blocks_of r) (root_of r.m.now) nodes) (pieces_of t) Yes)
      (append-nil w.text.items) (h.good [] (λ n. refl) 1)

  pub none_stuck : (i : ℕ) → IsFirstStuck r.rules r.m.now r.limit nodes i → ⊥
  none_stuck i k =
      let lost : AllByRecursion (IsLost r.rules r.m.now r.limit) (k.before ++ k.at ∷ k.behind) =
      recursion_from_All (IsLost r.rules r.m.now r.limit) (k.before ++ k.at ∷ k.behind)
      (subst (All (IsLost r.rules r.m.now r.limit)) (sym all_gone ∙ k.split) h.lost) in
      middle (IsLost r.rules r.m.now r.limit) k.before k.at k.behind lost k.stuck
    where
      middle : (P : Visit → Type 0) (xs : List Visit) (y : Visit) (ys : List Visit) → AllByRecursion P (xs ++ y ∷ ys) → P y
      middle P [] y ys all = all.0
      middle P (x ∷ xs) y ys all = middle P xs y ys all.1

-- ---- the nodes by their places

pub next_walk : (r : Rules) (nodes : List Node) (read : List Node) (i : ℕ) (d : Node) (w : Walk) → read ≡ nodes
    → i < length read → IsWalk r nodes (drop i nodes) w → IsWalk r nodes (get_or read i d ∷ drop (i + 1) nodes) w
next_walk r nodes read i d w same lt h =
    let below : i < length nodes = omega (arith, lt, ap length same) in
    let e : drop i nodes ≡ get_or nodes i d ∷ drop (i + 1) nodes = rw (add-one, drop-cons nodes i d) refl in
    subst (λ (ns : List Node). IsWalk r nodes (get_or ns i d ∷ drop (i + 1) nodes) w) (sym same)
    (subst (λ (ns : List Node). IsWalk r nodes ns w) e h)

pub last_walk : (r : Rules) (nodes read : List Node) (i : ℕ) (w : Walk) → read ≡ nodes → length read ≤ i
    → IsWalk r nodes (drop i nodes) w → IsWalk r nodes [] w
last_walk r nodes read i w same le h =
    subst (λ (ns : List Node). IsWalk r nodes ns w) (none i nodes (omega (arith, le, ap length same))) h
  where
    none : (n : ℕ) (ns : List Node) → length ns ≤ n → drop n ns ≡ []
    none zero [] le = refl
    none zero (k ∷ ks) le = absurd (omega (arith, le))
    none (suc n) [] le = refl
    none (suc n) (k ∷ ks) le = none n ks (omega (arith, le))

-- ---- the first stuck leaf is one

module _ (rules : ℕ) (nodes : List Node) (P : Visit → Type 0) where
  pub first_once : (xs ys zs ws : List Visit) (a b : Visit) → AllByRecursion (λ v. P v → ⊥) xs → AllByRecursion (λ v. P v → ⊥) ys
      → xs ++ a ∷ zs ≡ ys ++ b ∷ ws → P a → P b → a ≡ b
  first_once [] [] zs ws a b none gone e pa pb = ap (λ (vs : List Visit). get_or vs 0 a) e
  first_once [] (y ∷ ys) zs ws a b none gone e pa pb =
      absurd (gone.0 (subst P (ap (λ (vs : List Visit). get_or vs 0 a) e) pa))
  first_once (x ∷ xs) [] zs ws a b none gone e pa pb =
      absurd (none.0 (subst P (sym (ap (λ (vs : List Visit). get_or vs 0 b) e)) pb))
  first_once (x ∷ xs) (y ∷ ys) zs ws a b none gone e pa pb =
      first_once xs ys zs ws a b none.1 gone.1 (ap (drop 1) e) pa pb

pub passes_if : (r : Rules) (n : Node) (box : Sets) (before now : List ℕ) (b : Bool) → n ≡ Closed → OnTrue b (Ends r box before now)
    → OnTrue b (IsStuck r.rules r.m.now r.limit box → ⊥) → OnTrue b (Passes r n box before now)
passes_if r n box before lines true is e lost =
    subst (λ (k : Node). Passes r k box before lines) (sym is) (passes_closed r box before lines e lost)
passes_if r n box before lines false is e lost = tt

-- ---- the answer

pub stuck_once : (rules : ℕ) (m : Model) (limit : Option ℕ) (nodes : List Node) (i j : ℕ) → IsFirstStuck rules m limit nodes i
    → IsFirstStuck rules m limit nodes j → i ≡ j
stuck_once rules m limit nodes i j h k =
    let same : h.at ≡ k.at = first_once rules nodes (IsStuckAt rules m limit) h.before k.before h.behind k.behind h.at k.at
    (recursion_from_All (IsLost rules m limit) h.before h.none) (recursion_from_All (IsLost rules m limit) k.before k.none)
    (sym h.split ∙ k.split) h.stuck k.stuck in
    let a = h.place in
    let b = k.place in
    sym a ∙ (ap (λ (v : Visit). v.place) same ∙ b)

pub exactly_by : {A : Type 0} (rules : ℕ) (m : Model) (limit : Option ℕ) (nodes : List Node) (told : Result A ℕ)
    → IfErr told (IsFirstStuck rules m limit nodes) → OnOk told ((i : ℕ) → IsFirstStuck rules m limit nodes i → ⊥) → (i : ℕ)
    → IsFirstStuck rules m limit nodes i → told ≡ Err i
exactly_by rules m limit nodes (Ok a) stuck none i h = absurd (none i h)
exactly_by rules m limit nodes (Err j) stuck none i h = ap Err (stuck_once rules m limit nodes j i stuck h)
