-- How far the check of a tree with mirrors has come, node after node.
use Rattle.std.proofs.Common.{ℕ, ◌≡◌, ◌+◌, Bool, true, false, List, [], ◌∷◌, ◌++◌, Some, IfSome, All, refl, sym, ap, subst, ◌∙◌, append_assoc}
use Rattle.std.specs.declared.option.Option.{Option}
use Rattle.std.proofs.lemmas.List.{append-nil}
use Rattle.std.proofs.lemmas.List.Elements.{All-nil, All-push, All-same}
use Rattle.un_base.specs.declared.ids.VarId.{VarId}
use Rattle.un_model.specs.declared.model.Model.{Model}
use Rattle.un_tree.specs.Boxes.{Splits}
use Rattle.un_tree.specs.declared.node.Decision.{Decision}
use Rattle.un_symtree.specs.declared.node.SymNode.{SymNode}
use Rattle.un_symtree.specs.declared.node.SymNode.TheVariants.{Branch, Closed, Mirror}
use Rattle.un_walk.specs.Routes.{IsWholeBy, Route, paths_after, routes}
use Rattle.un_walk.specs.Turns.{paths_at, paths_behind}
use Rattle.un_stand.proofs.ModelRooms.{at_split}
use Rattle.un_stand.specs.Rooms.{IsAt, path_of}
use Rattle.un_stand.specs.declared.room.Room.{Room}
use Rattle.un_mirrors.specs.Mirrors.{sym_branch_at}
use Rattle.un_refutes.specs.SymVerdicts.{Breaks, IsFirstBreak, IsVerdict, Keeps, KeepsAt, point_of, routes_of}
use Rattle.un_refutes.specs.SymWalks.{IsJudged, IsWalk}
use Rattle.un_refutes.specs.declared.verdict.SymVerdict.{SymVerdict}
use Rattle.un_refutes.specs.declared.verdict.SymVerdict.TheVariants.{Yes, NotStrict, NotClosed, NotMirror, Short}
use Rattle.un_refutes.specs.declared.walk.Walk.{Walk}

-- a walk with nothing behind it
pub first_walk : (m : Model) (limit : Option ℕ) (nodes : List SymNode) (w : Walk) → path_of w.room ≡ [] → w.more ≡ true → w.place ≡ 0
    → IsWalk m limit nodes nodes w
first_walk m limit nodes w path more place =
    let one : paths_at (path_of w.room) w.more ≡ [] ∷ [] =
    ap (paths_at (path_of w.room)) more ∙ ap (λ (ds : List Decision). ds ∷ paths_behind [] ds) path in
    record {
      done = [];
      split = ap (λ (i : ℕ). routes sym_branch_at i nodes ([] ∷ [])) (sym place)
          ∙ ap (λ (ps : List (List Decision)). routes sym_branch_at w.place nodes ps) (sym one);
      kept = All-nil (Keeps m limit);
      forth = λ h. subst (IsWholeBy sym_branch_at nodes) (sym one) h;
      back = λ h. subst (IsWholeBy sym_branch_at nodes) one h;
    }

-- what splits the box of a room where a node that keeps its point branches
pub strict_at : (m : Model) (limit : Option ℕ) (r : Room) → IsAt m limit r → (n : SymNode) (b : Option (VarId × ℕ)) → b ≡ sym_branch_at n
    → KeepsAt m limit n (path_of r) → IfSome b (λ (x : VarId × ℕ). Splits r.stand.cuts.sets x.0 x.1)
strict_at m limit r h n b is keeps =
    subst (λ (o : Option (VarId × ℕ)). IfSome o (λ (x : VarId × ℕ). Splits r.stand.cuts.sets x.0 x.1)) (sym is) (by n keeps)
  where
    by : (n : SymNode) → KeepsAt m limit n (path_of r) → IfSome (sym_branch_at n) (λ (x : VarId × ℕ). Splits r.stand.cuts.sets x.0 x.1)
    by (Branch v x) keeps = at_split m limit r h v x keeps
    by Closed keeps = tt
    by (Mirror a b depth) keeps = tt

-- ---- a node more

never_yes : (n : SymNode) (place : ℕ) → Yes ≡ point_of n place → ⊥
never_yes (Branch v x) place e = cc e
never_yes Closed place e = cc e
never_yes (Mirror a b depth) place e = cc e

never_short : (n : SymNode) (place : ℕ) → Short ≡ point_of n place → ⊥
never_short (Branch v x) place e = cc e
never_short Closed place e = cc e
never_short (Mirror a b depth) place e = cc e

module _ (m : Model) (limit : Option ℕ) (nodes rest : List SymNode) (n : SymNode) (w : Walk) (h : IsWalk m limit nodes (n ∷ rest) w)
    (more : w.more ≡ true) where
  abbrev here : List Decision
  here = path_of w.room

  abbrev next : List (List Decision)
  next = paths_after (sym_branch_at n) here (paths_behind [] here)

  abbrev route : Route SymNode
  route = record { node = n; path = here; place = w.place; rest = rest }

  split_here : routes_of nodes ≡ h.done ++ route ∷ routes sym_branch_at (w.place + 1) rest next
  split_here = h.split ∙ ap (λ (b : Bool). h.done ++ routes sym_branch_at w.place (n ∷ rest) (paths_at here b)) more

  first_break : (v : SymVerdict) → Breaks m limit route v → IsFirstBreak m limit (routes_of nodes) v
  first_break v breaks = record {
    before = h.done;
    at = route;
    behind = routes sym_branch_at (w.place + 1) rest next;
    split = split_here;
    kept = h.kept;
    breaks = breaks;
  }

  by_point : (v : SymVerdict) → Breaks m limit route v → IsVerdict m limit nodes v
  by_point Yes breaks = absurd (never_yes n w.place breaks.0)
  by_point Short breaks = absurd (never_short n w.place breaks.0)
  by_point (NotStrict i) breaks = first_break (NotStrict i) breaks
  by_point (NotClosed i) breaks = first_break (NotClosed i) breaks
  by_point (NotMirror i) breaks = first_break (NotMirror i) breaks

  -- a node that breaks its point is the first one
  pub broken : (o : Option SymVerdict) (v : SymVerdict) → o ≡ Some v → IsJudged m limit w.place n here o → IsVerdict m limit nodes v
  broken o v is judged = by_point v (subst (IsJudged m limit w.place n here) is judged)

  -- a node that keeps it
  pub walk_on : (q : Walk) → KeepsAt m limit n here → next ≡ paths_at (path_of q.room) q.more → q.place ≡ w.place + 1
      → IsWalk m limit nodes rest q
  walk_on q keeps waits place = record {
    done = h.done ++ route ∷ [];
    split = split_here ∙ (sym (append_assoc h.done (route ∷ []) (routes sym_branch_at (w.place + 1) rest next))
        ∙ (ap (λ (i : ℕ). (h.done ++ route ∷ []) ++ routes sym_branch_at i rest next) (sym place)
        ∙ ap (λ (ps : List (List Decision)). (h.done ++ route ∷ []) ++ routes sym_branch_at q.place rest ps) waits));
    kept = All-push (Keeps m limit) h.done route h.kept keeps;
    forth = λ whole. subst (IsWholeBy sym_branch_at rest) waits
        (subst (λ (b : Bool). IsWholeBy sym_branch_at (n ∷ rest) (paths_at here b)) more (h.forth whole));
    back = λ whole. h.back (subst (λ (b : Bool). IsWholeBy sym_branch_at (n ∷ rest) (paths_at here b)) (sym more)
        (subst (IsWholeBy sym_branch_at rest) (sym waits) whole));
  }

-- ---- the end

module _ (m : Model) (limit : Option ℕ) (nodes : List SymNode) (w : Walk) where
  -- a node behind the end of the tree
  pub past_end : (n : SymNode) (rest : List SymNode) → IsWalk m limit nodes (n ∷ rest) w → w.more ≡ false → IsVerdict m limit nodes Short
  past_end n rest h over = record {
    torn = λ whole. subst (λ (b : Bool). IsWholeBy sym_branch_at (n ∷ rest) (paths_at (path_of w.room) b)) over (h.forth whole);
    kept = All-same (Keeps m limit) (routes_of nodes) h.done
        (h.split ∙ (ap (λ (b : Bool). h.done ++ routes sym_branch_at w.place (n ∷ rest) (paths_at (path_of w.room) b)) over
        ∙ append-nil h.done)) h.kept;
  }

  all_kept : IsWalk m limit nodes [] w → All (Keeps m limit) (routes_of nodes)
  all_kept h = All-same (Keeps m limit) (routes_of nodes) h.done (h.split ∙ append-nil h.done) h.kept

  -- the nodes end inside the tree
  pub ends_inside : IsWalk m limit nodes [] w → w.more ≡ true → IsVerdict m limit nodes Short
  ends_inside h more = record {
    torn = λ whole. absurd (let e : path_of w.room ∷ paths_behind [] (path_of w.room) ≡ [] =
        subst (λ (b : Bool). IsWholeBy sym_branch_at [] (paths_at (path_of w.room) b)) more (h.forth whole) in cc e);
    kept = all_kept h;
  }

  -- they end with it
  pub ends_well : IsWalk m limit nodes [] w → w.more ≡ false → IsVerdict m limit nodes Yes
  ends_well h over = record {
    whole = h.back (subst (λ (b : Bool). IsWholeBy sym_branch_at [] (paths_at (path_of w.room) b)) (sym over) refl);
    kept = all_kept h;
  }
