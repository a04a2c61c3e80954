-- The judging of a log, node after node.
use Rattle.std.proofs.Common.{ℕ, zero, suc, ◌≡◌, ◌+◌, ◌<◌, ◌≤◌, Bool, true, false, List, [], ◌∷◌, ◌++◌, All, IfSome, None, Some}
use Rattle.std.proofs.Common.{MatchOption}
use Rattle.std.proofs.Common.{length, length-append, drop, get_or, add-one, refl, sym, ap, subst, ◌∙◌, arith}
use Rattle.std.specs.Prelude.{Option, if◌then◌else◌}
use Rattle.std.proofs.Math.Seq.{drop-cons}
use Rattle.std.specs.List.{AllByRecursion, flat_map, onto_first}
use Rattle.std.proofs.lemmas.List.Elements.{recursion_from_All, All-from_recursion}
use Rattle.un_base.specs.declared.ids.VarId.{VarId}
use Rattle.un_base.specs.Lines.{is_line_feed, pieces_of}
use Rattle.un_domains.specs.Sets.{Sets, IsIn}
use Rattle.un_model.specs.Boxes.{IsBelow, root_of}
use Rattle.un_tree.specs.Boxes.{Splits, reached}
use Rattle.un_tree.specs.Covered.{OuterStands, OuterStandsIn}
use Rattle.un_tree.specs.Waits.{Waiting, Whole, Visit, IsWhole, IsTreeOf, IsPlain, HasSides, HasSidesIn, after, visits, visits_of}
use Rattle.un_tree.specs.declared.node.Decision.{Decision}
use Rattle.un_tree.specs.declared.node.Node.{Node}
use Rattle.un_tree.specs.declared.node.Node.TheVariants.{Branch, Closed, Open, Split, Part}
use Rattle.un_walk.specs.Finished.{NoneIn}
use Rattle.un_walk.specs.Routes.{branch_at}
use Rattle.un_walk.specs.Stands.{AllSplit, IsStandAt, ways}
use Rattle.un_walk.specs.Turns.{waits, waiting_at}
use Rattle.un_walk.specs.declared.stand.Stand.{Stand}
use Rattle.un_walk.proofs.Paths.{last_once}
use Rattle.un_judge.specs.Judged.{Comes, IsJudged, closed_by, closed_box, closed_boxes, OnYes}
use Rattle.un_judge.specs.Leaves.{LeftComes, EndComes, OnClosed}
use Rattle.un_judge.specs.Walks.{NotYes, TextComes, Passes, waits_of, blocks_of, IsWalk}
use Rattle.un_judge.specs.declared.judge.Walk.{Walk}
use Rattle.un_judge.specs.declared.leaf.Left.{Left}
use Rattle.un_judge.specs.declared.leaf.LeafEnd.{LeafEnd}
use Rattle.un_judge.specs.declared.leaf.LeafEnd.TheVariants.{Closed as Shut}
use Rattle.un_judge.specs.declared.leaf.Rules.{Rules}
use Rattle.un_judge.specs.declared.verdict.StepVerdict.{StepVerdict}
use Rattle.un_judge.specs.declared.verdict.StepVerdict.TheVariants.{Yes, BadStep, Short}

-- ---- the stand

-- a stand whose sets are marked and taken back is where it was
pub stand_back : (root : Sets) (s q : Stand) → IsStandAt root s → q.path.items ≡ s.path.items
    → s.cuts.marked ++ s.cuts.sets ∷ [] ≡ q.cuts.marked ++ q.cuts.sets ∷ [] → IsStandAt root q
stand_back root s q h path marks =
    let same = last_once q.cuts.marked s.cuts.marked q.cuts.sets s.cuts.sets (sym marks) in
    record {
      full = h.full;
      split = subst (AllSplit root) (sym path) h.split;
      sets = same.1 ∙ (h.sets ∙ ap (reached root) (sym path));
      marked = same.0 ∙ (h.marked ∙ ap (ways root) (sym path));
    }

-- stands on one path have one box
pub one_box : (root : Sets) (s q : Stand) → IsStandAt root s → IsStandAt root q → q.path.items ≡ s.path.items → q.cuts.sets ≡ s.cuts.sets
one_box root s q h k path = k.sets ∙ (ap (reached root) path ∙ sym h.sets)

pub splits_by : (n : Node) (b : Sets) (o : Option (VarId × ℕ)) → o ≡ branch_at n → HasSidesIn n (Whole b) → IfSome o (λ x. Splits b x.0 x.1)
splits_by n b o e strict = subst (λ (k : Option (VarId × ℕ)). IfSome k (λ y. Splits b y.0 y.1)) (sym e) (by n strict)
  where
    by : (n : Node) → HasSidesIn n (Whole b) → IfSome (branch_at n) (λ y. Splits b y.0 y.1)
    by (Branch v x) strict = strict
    by Closed strict = tt
    by Open strict = tt
    by Split strict = tt
    by (Part number) strict = tt

-- a mark leaves something to take back
pub some_marked : (old new : List Sets) (b : Sets) → new ≡ old ++ b ∷ [] → 0 < length new
some_marked old new b e = let l : length new ≡ length old + 1 = ap length e ∙ length-append old (b ∷ []) in omega (arith, l)

-- ---- the lines of a leaf

-- from the marked box to that of the leaf
pub end_comes : (r : Rules) (left : Left) (marked box : Sets) (end e : LeafEnd) (boxes : List Sets) (verdict : StepVerdict) → marked ≡ box
    → ((rest : List Sets) (v : StepVerdict) → EndComes r end rest v → LeftComes r left (marked ∷ rest) v) → end ≡ e
    → EndComes r e boxes verdict → LeftComes r left (box ∷ boxes) verdict
end_comes r left marked box end e boxes verdict same comes is c =
    subst (λ (b : Sets). LeftComes r left (b ∷ boxes) verdict) same
    (comes boxes verdict (subst (λ (k : LeafEnd). EndComes r k boxes verdict) (sym is) c))

pub end_refuted : (good : List ℕ → Type 0) (marked box : Sets) (end : LeafEnd) (left : Left) → marked ≡ box → end ≡ Shut left
    → OnClosed ((x : List ℕ) → IsIn x marked → good x → ⊥) end → NoneIn good box
end_refuted good marked box end left same is h =
    subst (NoneIn good) same (subst (OnClosed ((x : List ℕ) → IsIn x marked → good x → ⊥)) is h)

-- ---- one node more

module _ (r : Rules) (nodes : List Node) (log : List ℕ) (n : Node) (rest : List Node) (old : Walk) (h : IsWalk r nodes log (n ∷ rest) old)
  where
    abbrev root : Sets
    root = root_of r.m.now

    abbrev path : List Decision
    path = old.stand.path.items

    abbrev now : Waiting
    now = Whole (reached root path)

    abbrev behind : List Waiting
    behind = after (blocks_of r) n now (waits root path)

    abbrev visit : Visit
    visit = record { node = n; waiting = now; place = h.place; rest = rest }

    abbrev visits_behind : List Visit
    visits_behind = visits (blocks_of r) (h.place + 1) rest behind

    abbrev below : List ℕ → Type 0
    below = IsBelow r.m.now r.limit

    -- a box waits
    more : old.more ≡ true
    more = by old.more h.whole
      where
        by : (b : Bool) → IsWhole (blocks_of r) (n ∷ rest) (waiting_at root path b) → b ≡ true
        by true whole = refl
        by false whole = absurd whole

    here : visits (blocks_of r) h.place (n ∷ rest) (waits_of r old) ≡ visit ∷ visits_behind
    here = ap (λ (b : Bool). visits (blocks_of r) h.place (n ∷ rest) (waiting_at root path b)) more

    whole_behind : IsWhole (blocks_of r) rest behind
    whole_behind = subst (λ (b : Bool). IsWhole (blocks_of r) (n ∷ rest) (waiting_at root path b)) more h.whole

    strict_both : AllByRecursion HasSides (visit ∷ visits_behind)
    strict_both = subst (AllByRecursion HasSides) here h.strict

    plain_both : AllByRecursion IsPlain (n ∷ rest)
    plain_both = h.plain

    -- the node is none of a Split or its parts
    pub plain_here : IsPlain n
    plain_here = plain_both.0

    box_is : old.stand.cuts.sets ≡ reached root path
    box_is = let a = h.at in a.sets

    -- the node is strict in the stand's box
    pub strict_here : HasSidesIn n (Whole old.stand.cuts.sets)
    strict_here = subst (λ (b : Sets). HasSidesIn n (Whole b)) (sym box_is) strict_both.0

    comes_here : (verdict : StepVerdict)
        → LeftComes r old.left (closed_by n (Whole old.stand.cuts.sets) ++ flat_map closed_box visits_behind) verdict
        → IsJudged r.rules r.m.now r.limit nodes log verdict
    comes_here verdict c =
        h.comes verdict (subst (λ (vs : List Visit). LeftComes r old.left (flat_map closed_box vs) verdict) (sym here)
        (subst (λ (b : Sets). LeftComes r old.left (closed_by n (Whole b) ++ flat_map closed_box visits_behind) verdict) box_is c))

    -- a verdict at this node
    pub told_here : (mid : Walk) (told : StepVerdict) → Passes r n old mid (Some told)
        → NotYes told × IsJudged r.rules r.m.now r.limit nodes log told
    told_here mid told p = (p.refuted, comes_here told (p.comes (flat_map closed_box visits_behind) told refl))

    -- none: the walk goes on
    pub walk_on : (mid new : Walk) → Passes r n old mid None → IsStandAt root new.stand → new.left ≡ mid.left
        → after (blocks_of r) n (Whole mid.stand.cuts.sets) (waits root mid.stand.path.items) ≡ waits_of r new → mid.stand.path.items ≡ path
        → mid.stand.cuts.sets ≡ old.stand.cuts.sets → IsWalk r nodes log rest new
    walk_on mid new p at left waits_are same_path same_box =
        let next : behind ≡ waits_of r new =
        ap (λ (b : Sets). after (blocks_of r) n (Whole b) (waits root path)) (sym (same_box ∙ box_is))
        ∙ (ap (λ (ds : List Decision). after (blocks_of r) n (Whole mid.stand.cuts.sets) (waits root ds)) (sym same_path) ∙ waits_are) in
        let strict = strict_both.1 in
        record {
          at = at;
          place = h.place + 1;
          whole = subst (IsWhole (blocks_of r) rest) next whole_behind;
          plain = plain_both.1;
          strict = subst (λ (ws : List Waiting). AllByRecursion HasSides (visits (blocks_of r) (h.place + 1) rest ws)) next strict;
          stands = λ all. h.stands (subst (AllByRecursion (OuterStands below)) (sym here) (
            subst (λ (b : Sets). OuterStandsIn below n (Whole b)) box_is p.refuted,
            subst (λ (ws : List Waiting). AllByRecursion (OuterStands below) (visits (blocks_of r) (h.place + 1) rest ws)) (sym next) all,
          ));
          comes = λ verdict c. comes_here verdict (p.comes (flat_map closed_box visits_behind) verdict
              (subst (λ (ws : List Waiting). LeftComes r mid.left (flat_map closed_box (visits (blocks_of r) (h.place + 1) rest ws)) verdict) (sym next)
              (subst (λ (l : Left). LeftComes r l (flat_map closed_box (visits (blocks_of r) (h.place + 1) rest (waits_of r new))) verdict) left c)));
        }

pub next_walk : (r : Rules) (nodes : List Node) (log : List ℕ) (read : List Node) (i : ℕ) (d : Node) (w : Walk) → read ≡ nodes
    → i < length read → IsWalk r nodes log (drop i nodes) w → IsWalk r nodes log (get_or read i d ∷ drop (i + 1) nodes) w
next_walk r nodes log read i d w same lt h =
    let below : i < length nodes = omega (arith, lt, ap length same) in
    let e : drop i nodes ≡ get_or nodes i d ∷ drop (i + 1) nodes = rw (add-one, drop-cons nodes i d) refl in
    subst (λ (ns : List Node). IsWalk r nodes log (get_or ns i d ∷ drop (i + 1) nodes) w) (sym same)
    (subst (λ (ns : List Node). IsWalk r nodes log ns w) e h)

pub end_walk : (r : Rules) (nodes : List Node) (log : List ℕ) (i : ℕ) (w : Walk) → length nodes ≤ i → IsWalk r nodes log (drop i nodes) w
    → IsWalk r nodes log [] w
end_walk r nodes log i w le h = subst (λ (ns : List Node). IsWalk r nodes log ns w) (none i nodes le) h
  where
    none : (n : ℕ) (ns : List Node) → length ns ≤ n → drop n ns ≡ []
    none zero [] le = refl
    none zero (k ∷ ks) le = absurd (omega (arith, le))
    none (suc n) [] le = refl
    none (suc n) (k ∷ ks) le = none n ks (omega (arith, le))

pub told : {A : Type 0} (P : Type 0) (Q : A → Type 0) (o : Option A) (v : A) → MatchOption o P Q → o ≡ Some v → Q v
told P Q o v h is = subst (λ (k : Option _). MatchOption k P Q) is h

pub silent : {A : Type 0} (P : Type 0) (Q : A → Type 0) (o : Option A) → MatchOption o P Q → o ≡ None → P
silent P Q o h is = subst (λ (k : Option _). MatchOption k P Q) is h

pub not_yes : (A : Type 0) (v : StepVerdict) → NotYes v → OnYes A v
not_yes A Yes h = absurd h
not_yes A (BadStep n) h = tt
not_yes A Short h = tt

pub if_so : (A : Type 0) (v : StepVerdict) → A → OnYes A v
if_so A Yes h = h
if_so A (BadStep n) h = tt
if_so A Short h = tt

-- ---- the first node and the last

pub walk_first : (r : Rules) (nodes : List Node) (log : List ℕ) (w : Walk) → IsStandAt (root_of r.m.now) w.stand → w.stand.path.items ≡ []
    → w.more ≡ true → w.left.text.now ≡ log → w.left.read ≡ 0 → IsTreeOf (blocks_of r) (root_of r.m.now) nodes → All IsPlain nodes
    → All HasSides (visits_of (blocks_of r) (root_of r.m.now) nodes) → IsWalk r nodes log nodes w
walk_first r nodes log w at path more text read whole plain strict =
    let root = root_of r.m.now in
    let first : waits_of r w ≡ Whole root ∷ [] =
    ap (waiting_at root w.stand.path.items) more ∙ ap (λ (ds : List Decision). waiting_at root ds true) path in
    record {
      at = at;
      place = 0;
      whole = subst (IsWhole (blocks_of r) nodes) (sym first) whole;
      plain = recursion_from_All IsPlain nodes plain;
      strict = subst (λ (ws : List Waiting). AllByRecursion HasSides (visits (blocks_of r) 0 nodes ws)) (sym first)
          (recursion_from_All HasSides (visits_of (blocks_of r) root nodes) strict);
      stands = λ all. subst (λ (ws : List Waiting). AllByRecursion (OuterStands (IsBelow r.m.now r.limit)) (visits (blocks_of r) 0 nodes ws)) first all;
      comes = λ verdict c.
          subst (λ (t : List ℕ). Comes r.rules r.m.now r.limit 1 (closed_boxes (blocks_of r) root nodes) (pieces_of t) verdict) text
          (subst (λ (n : ℕ). Comes r.rules r.m.now r.limit (n + 1) (closed_boxes (blocks_of r) root nodes) (pieces_of w.left.text.now) verdict) read
          (subst (λ (ws : List Waiting). LeftComes r w.left (flat_map closed_box (visits (blocks_of r) 0 nodes ws)) verdict) first c));
    }

some_left : (r : Rules) (n b : ℕ) (bs : List ℕ) → Comes r.rules r.m.now r.limit n [] (pieces_of (b ∷ bs)) Short
some_left r n b bs = by (is_line_feed b) (pieces_of bs)
  where
    by : (v : Bool) (pieces : List (List ℕ))
        → Comes r.rules r.m.now r.limit n [] (if v then (b ∷ []) ∷ pieces else onto_first b pieces) Short
    by true pieces = refl
    by false [] = refl
    by false (piece ∷ pieces) = refl

-- the end of the log is the verdict
pub walk_end : (r : Rules) (nodes : List Node) (log : List ℕ) (w : Walk) (verdict : StepVerdict) → IsWalk r nodes log [] w
    → TextComes w.left.text.now verdict → IsJudged r.rules r.m.now r.limit nodes log verdict
walk_end r nodes log w verdict h end = h.comes verdict (by w.left.text.now verdict end)
  where
    by : (text : List ℕ) (v : StepVerdict) → TextComes text v → Comes r.rules r.m.now r.limit (w.left.read + 1) [] (pieces_of text) v
    by [] Yes e = refl
    by (b ∷ bs) Yes e = absurd (cc e)
    by text (BadStep n) e = absurd e
    by [] Short e = absurd e
    by (b ∷ bs) Short e = some_left r (w.left.read + 1) b bs

pub all_stand : (r : Rules) (nodes : List Node) (log : List ℕ) (w : Walk) → IsWalk r nodes log [] w
    → All (OuterStands (IsBelow r.m.now r.limit)) (visits_of (blocks_of r) (root_of r.m.now) nodes)
all_stand r nodes log w h = All-from_recursion (OuterStands (IsBelow r.m.now r.limit)) (visits_of (blocks_of r) (root_of r.m.now) nodes) (h.stands tt)
