-- The boxes of the paths that wait are what waits, and the routes over a search's tree are its visits.
use Rattle.std.proofs.Common.{ℕ, ◌≡◌, ◌+◌, Bool, true, false, List, [], ◌∷◌, ◌++◌, map, IfSome, Some, refl, sym, ap, subst, ◌∙◌}
use Rattle.std.proofs.lemmas.List.{map-append}
use Rattle.std.specs.List.{AllByRecursion}
use Rattle.std.specs.declared.option.Option.{Option}
use Rattle.un_base.specs.declared.ids.VarId.{VarId}
use Rattle.un_domains.specs.Sets.{Sets}
use Rattle.un_domains.specs.declared.side.Side.{Side}
use Rattle.un_domains.specs.declared.side.Side.TheVariants.{AtMost, Above}
use Rattle.un_tree.specs.Boxes.{half, reached, Splits}
use Rattle.un_tree.specs.Waits.{Waiting, Whole, Visit, after, visits, IsPlain, IsWhole, HasSidesIn}
use Rattle.un_tree.specs.declared.node.Decision.{Decision}
use Rattle.un_tree.specs.declared.node.Node.{Node}
use Rattle.un_tree.specs.declared.node.Node.TheVariants.{Branch, Closed, Open, Split, Part}
use Rattle.un_walk.proofs.Paths.{behind_snoc, reached-push}
use Rattle.un_walk.specs.Routes.{IsWholeBy, box_at, branch_at, paths_after, routes, visit_at}
use Rattle.un_walk.specs.Turns.{other_path, other_side, paths_at, paths_behind, waiting_at, waits}

-- behind a branch, the side above waits behind the side below
pub branch_waits : (old new : List Decision) (v : VarId) (x : ℕ) → new ≡ old ++ record { var = v; val = x; side = AtMost } ∷ []
    → paths_after (Some (v, x)) old (paths_behind [] old) ≡ paths_at new true
branch_waits old new v x e =
    let d : Decision = record { var = v; val = x; side = AtMost } in
    ap (λ (p : List Decision). p ∷ (old ++ record { var = v; val = x; side = Above } ∷ []) ∷ paths_behind [] old) (sym e)
    ∙ ap (λ (ps : List (List Decision)). new ∷ ps) (sym (ap (paths_behind []) e ∙ behind_snoc [] old d))

module _ (root : Sets) where
  side_boxes : (above : List Decision) (d : Decision) (s : Side) → map (box_at root) (other_path above d s) ≡ other_side (reached root above) d s
  side_boxes above d AtMost = ap (λ (b : Sets). Whole b ∷ []) (reached-push root above (record { var = d.var; val = d.val; side = Above }))
  side_boxes above d Above = refl

  behind_boxes : (above ds : List Decision) → map (box_at root) (paths_behind above ds) ≡ waits (reached root above) ds
  behind_boxes above [] = refl
  behind_boxes above (d ∷ ds) =
      map-append (box_at root) (paths_behind (above ++ d ∷ []) ds) (other_path above d d.side)
      ∙ (ap (λ (ws : List Waiting). ws ++ map (box_at root) (other_path above d d.side)) (behind_boxes (above ++ d ∷ []) ds)
      ∙ (ap (λ (ws : List Waiting). waits (reached root (above ++ d ∷ [])) ds ++ ws) (side_boxes above d d.side)
      ∙ ap (λ (b : Sets). waits b ds ++ other_side (reached root above) d d.side) (reached-push root above d)))

  -- the boxes of the paths that wait where a walk stands
  pub at_boxes : (ds : List Decision) (more : Bool) → map (box_at root) (paths_at ds more) ≡ waiting_at root ds more
  at_boxes ds true = ap (λ (ws : List Waiting). Whole (reached root ds) ∷ ws) (behind_boxes [] ds)
  at_boxes ds false = refl

  -- a node that has both sides in its box branches on what splits it
  pub strict_by : (n : Node) (path : List Decision) (b : Option (VarId × ℕ)) → b ≡ branch_at n → HasSidesIn n (Whole (reached root path))
      → IfSome b (λ x. Splits (reached root path) x.0 x.1)
  strict_by n path b e strict = subst (λ (o : Option (VarId × ℕ)). IfSome o (λ x. Splits (reached root path) x.0 x.1)) (sym e) (by n strict)
    where
      by : (n : Node) → HasSidesIn n (Whole (reached root path)) → IfSome (branch_at n) (λ x. Splits (reached root path) x.0 x.1)
      by (Branch v x) strict = strict
      by Closed strict = tt
      by Open strict = tt
      by Split strict = tt
      by (Part number) strict = tt

-- in a tree without parts, whatever the number of blocks
module _ (blocks : ℕ) (root : Sets) where
  after_boxes : (n : Node) (path : List Decision) (paths : List (List Decision)) → IsPlain n
      → after blocks n (Whole (reached root path)) (map (box_at root) paths) ≡ map (box_at root) (paths_after (branch_at n) path paths)
  after_boxes (Branch v x) path paths plain =
      let left = reached-push root path (record { var = v; val = x; side = AtMost }) in
      let right = reached-push root path (record { var = v; val = x; side = Above }) in
      ap (λ (b : Sets). Whole b ∷ Whole (half (reached root path) v x Above) ∷ map (box_at root) paths) (sym left)
      ∙ ap (λ (b : Sets). Whole (reached root (path ++ record { var = v; val = x; side = AtMost } ∷ [])) ∷ Whole b ∷ map (box_at root) paths)
      (sym right)
  after_boxes Closed path paths plain = refl
  after_boxes Open path paths plain = refl
  after_boxes Split path paths plain = absurd plain
  after_boxes (Part number) path paths plain = absurd plain

  -- what waits behind a node, by the paths that do
  pub after_by : (n : Node) (old new : List Decision) (more : Bool) → IsPlain n
      → paths_after (branch_at n) old (paths_behind [] old) ≡ paths_at new more
      → after blocks n (Whole (reached root old)) (waits root old) ≡ waiting_at root new more
  after_by n old new more plain e =
      ap (after blocks n (Whole (reached root old))) (sym (behind_boxes root [] old))
      ∙ (after_boxes n old (paths_behind [] old) plain ∙ (ap (map (box_at root)) e ∙ at_boxes root new more))

  -- the visits of a search's tree are its routes with their boxes
  pub visits_are : (i : ℕ) (nodes : List Node) (paths : List (List Decision)) → AllByRecursion IsPlain nodes
      → visits blocks i nodes (map (box_at root) paths) ≡ map (visit_at root) (routes branch_at i nodes paths)
  visits_are i [] paths plain = refl
  visits_are i (n ∷ ns) [] plain = refl
  visits_are i (n ∷ ns) (p ∷ ps) plain =
      let v : Visit = record { node = n; waiting = box_at root p; place = i; rest = ns } in
      ap (λ (ws : List Waiting). v ∷ visits blocks (i + 1) ns ws) (after_boxes n p ps plain.0)
      ∙ ap (λ (vs : List Visit). v ∷ vs) (visits_are (i + 1) ns (paths_after (branch_at n) p ps) plain.1)

  -- where the boxes of paths wait, a whole tree for each is one for each path
  pub whole_are : (nodes : List Node) (paths : List (List Decision)) → AllByRecursion IsPlain nodes
      → IsWhole blocks nodes (map (box_at root) paths) → IsWholeBy branch_at nodes paths
  whole_are [] [] plain whole = refl
  whole_are [] (p ∷ ps) plain whole = absurd (cc whole)
  whole_are (n ∷ ns) [] plain whole = absurd whole
  whole_are (n ∷ ns) (p ∷ ps) plain whole =
      whole_are ns (paths_after (branch_at n) p ps) plain.1 (subst (IsWhole blocks ns) (after_boxes n p ps plain.0) whole)
