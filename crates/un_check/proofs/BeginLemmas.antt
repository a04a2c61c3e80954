-- Before the first node.
use Rattle.std.proofs.Common.{ℕ, ◌≡◌, ◌≢◌, ◌+◌, ◌≤◌, List, [], ◌∷◌, length, map, None, true}
use Rattle.std.proofs.Common.{sym, ap, subst, ◌∙◌, arith}
use Rattle.std.specs.declared.option.Option.{Option}
use Rattle.std.specs.List.{AllByRecursion}
use Rattle.std.proofs.lemmas.List.Elements.{All-nil, All-from_recursion}
use Rattle.un_domains.specs.OrderLaws.{has_here, has_later}
use Rattle.un_domains.specs.SetLaws.{has-fold_max}
use Rattle.un_domains.specs.Sets.{has}
use Rattle.un_ir.specs.declared.extended.ExtBlock.{ExtBlock}
use Rattle.un_model.specs.declared.model.Model.{Model}
use Rattle.un_model.specs.Variables.{own_horizon}
use Rattle.un_post.specs.Posts.{largest_horizon}
use Rattle.un_prop.specs.Pruning.{HasRoom}
use Rattle.un_prop.specs.declared.propagator.Scratch.{Scratch}
use Rattle.un_tree.specs.Boxes.{reached}
use Rattle.un_tree.specs.Waits.{Waiting, Whole, Visit, IsWhole, visits}
use Rattle.un_tree.specs.declared.node.Decision.{Decision}
use Rattle.un_tree.specs.declared.node.Node.{Node}
use Rattle.un_tree.specs.declared.node.Node.TheVariants.{Open}
use Rattle.un_model.specs.Boxes.{root_of}
use Rattle.un_stand.specs.Rooms.{path_of}
use Rattle.un_walk.specs.Turns.{waits}
use Rattle.un_check.specs.Judging.{HasScratch}
use Rattle.un_certificate.specs.Bounds.{IsLeastOpen}
use Rattle.un_certificate.specs.Joints.{blocks_of}
use Rattle.un_check.specs.Walks.{IsWalk, box_of, outside_of, stage_waits, waiting_of}
use Rattle.un_check.specs.declared.stage.Stage.TheVariants.{AtBox}
use Rattle.un_check.specs.declared.walk.Walk.{Walk}

pub first_walk : (m : Model) (limit : Option ℕ) (nodes : List Node) (w : Walk) → path_of w.at.outer ≡ [] → w.at.stage ≡ AtBox → w.place ≡ 0
    → w.outer_nodes ≡ 0 → w.open_leaves ≡ 0 → w.least ≡ None → IsWalk m limit nodes nodes w
first_walk m limit nodes w path stage place outer count least =
    let one : waiting_of m w.at ≡ Whole (root_of m) ∷ [] =
    ap (stage_waits (blocks_of m) (box_of m w.at) (outside_of m w.at)) stage
    ∙ ap (λ (ds : List Decision). Whole (reached (root_of m) ds) ∷ waits (root_of m) ds) path in
    record {
      done = [];
      split = ap (λ (i : ℕ). visits (blocks_of m) i nodes (Whole (root_of m) ∷ [])) (sym place)
          ∙ ap (λ (ws : List Waiting). visits (blocks_of m) w.place nodes ws) (sym one);
      kept = All-nil _;
      stands = All-nil _;
      forth = λ h. subst (IsWhole (blocks_of m) nodes) (sym one) h;
      back = λ h. subst (IsWhole (blocks_of m) nodes) one h;
      counted = omega (arith, count);
      outer = outer;
      lowest = subst (IsLeastOpen m []) (sym least) (All-nil (λ (p : Visit). p.node ≢ Open));
    }

-- room for the largest horizon is room for each block's
each_room : (n top : ℕ) (scratch : Scratch) (blocks : List ExtBlock) → HasRoom n (top + 1) scratch
    → ((x : ℕ) → has (map own_horizon blocks) x ≡ true → x ≤ top)
    → AllByRecursion (λ (block : ExtBlock). HasRoom n (block.horizon + 1) scratch) blocks
each_room n top scratch [] room under = tt
each_room n top scratch (b ∷ bs) room under = (
  record {
    fixed = room.fixed;
    cycles = (let le = under b.horizon (has_here b.horizon (map own_horizon bs)) in omega (arith, le, room.cycles));
  },
  each_room n top scratch bs room (λ x there. under x (has_later b.horizon x (map own_horizon bs) there)),
)

pub all_room : (m : Model) (n horizon : ℕ) (scratch : Scratch) → HasRoom n (horizon + 1) scratch → n ≡ length (root_of m)
    → horizon ≡ largest_horizon m.ext.blocks → HasScratch m scratch
all_room m n horizon scratch room same is =
    All-from_recursion (λ (block : ExtBlock). HasRoom (length (root_of m)) (block.horizon + 1) scratch) m.ext.blocks
    (each_room (length (root_of m)) horizon scratch m.ext.blocks (subst (λ (k : ℕ). HasRoom k (horizon + 1) scratch) same room)
    (λ x there. subst (λ (k : ℕ). x ≤ k) (sym is) (has-fold_max 0 (map own_horizon m.ext.blocks) x there)))
