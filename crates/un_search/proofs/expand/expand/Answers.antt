use Rattle.std.proofs.Common.{List, MatchOption, sym, ap, subst, ◌∙◌}
use Rattle.un_domains.specs.Sets.{Sets}
use Rattle.un_domains.specs.declared.side.Side.TheVariants.{AtMost, Above}
use Rattle.un_tree.specs.Boxes.{Splits, half, reached}
use Rattle.un_tree.specs.Searched.{IsOpenBox}
use Rattle.un_tree.specs.declared.node.Decision.{Decision}
use Rattle.un_model.specs.Boxes.{IsBelow, root_of}
use Rattle.un_bound.specs.Relaxations.{IsLeast}
use Rattle.un_post.specs.Posts.{fix_at}
use Rattle.un_branching.specs.Searched.{IsLook}
use Rattle.un_stand.proofs.ModelRooms.{at_goes, at_on}
use Rattle.un_search.proofs.PlaceLemmas.{splits_here}
use Rattle.un_search.proofs.expand.expand.Goals as goal

pub go_to-requires : goal.go_to-requires
go_to-requires c =
    let g = c.args.rules.now in at_on g.m.now g.limit c.args.place.now.room c.requires.at.at c.args.path.now c.requires.split

pub choose-requires-clause-at : goal.choose-requires-clause-at
choose-requires-clause-at c =
    let g = c.args.rules.now in
    record {
      rules = c.requires.at.rules;
      at = at_goes g.m.now g.limit c.args.place.now.room _ c.requires.at.at c.in_ok-go_to.ensures.at;
      scratch = c.requires.at.scratch;
    }

pub choose-requires-clause-choice : goal.choose-requires-clause-choice
choose-requires-clause-choice c =
    let g = c.args.rules.now in
    subst (λ (ds : List Decision). IsOpenBox (fix_at g.m.now g.limit) (reached (root_of g.m.now) ds)) (sym c.in_ok-go_to.ensures.path)
    c.requires.choice

pub peek-requires-clause-split : goal.peek-requires-clause-split
peek-requires-clause-split c =
    let g = c.args.rules.now in
    let v = c.in_ok-choice.choice.var in
    let x = c.in_ok-choice.choice.val in
    subst (λ (ds : List Decision). Splits (reached (root_of g.m.now) ds) v x) (sym c.in_ok-choice.ensures.path)
    (splits_here g.m.now g.limit c.go_to.new.room
    (at_goes g.m.now g.limit c.args.place.now.room c.go_to.new.room c.requires.at.at c.in_ok-go_to.ensures.at) v x
    c.in_ok-choice.ensures.splits)

pub enter-requires-clause-split : goal.enter-requires-clause-split
enter-requires-clause-split c =
    let g = c.args.rules.now in
    let v = c.in_ok-choice.choice.var in
    let x = c.in_ok-choice.choice.val in
    subst (λ (ds : List Decision). Splits (reached (root_of g.m.now) ds) v x) (sym (c.in_ok-right.ensures.path ∙ c.in_ok-choice.ensures.path))
    (splits_here g.m.now g.limit c.go_to.new.room
    (at_goes g.m.now g.limit c.args.place.now.room c.go_to.new.room c.requires.at.at c.in_ok-go_to.ensures.at) v x
    c.in_ok-choice.ensures.splits)

pub returns-clause-expansion : goal.returns-clause-expansion
returns-clause-expansion c =
    let g = c.args.rules.now in
    let root = root_of g.m.now in
    let v = c.in_ok-choice.choice.var in
    let x = c.in_ok-choice.choice.val in
    let there = c.in_ok-go_to.ensures.path in
    let chosen = c.in_ok-choice.ensures.path ∙ there in
    record {
      splits = subst (λ (ds : List Decision). MatchOption (fix_at g.m.now g.limit (reached root ds)) ⊥ (λ f. Splits f v x)) there
          c.in_ok-choice.ensures.splits;
      left = subst (λ (b : Sets). IsLook (fix_at g.m.now g.limit) (IsLeast g.m.now) (IsBelow g.m.now g.limit) (half b v x AtMost)
          c.in_ok-left.left) (ap (reached root) (c.in_ok-right.ensures.path ∙ chosen)) c.in_ok-left.ensures.look;
      right = subst (λ (b : Sets). IsLook (fix_at g.m.now g.limit) (IsLeast g.m.now) (IsBelow g.m.now g.limit) (half b v x Above)
          c.in_ok-right.right) (ap (reached root) chosen) c.in_ok-right.ensures.look;
    }
