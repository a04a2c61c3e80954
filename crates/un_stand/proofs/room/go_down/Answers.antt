use Rattle.std.proofs.Common.{◌∷◌, ◌++◌, [], List, sym, subst, ap, ◌∙◌}
use Rattle.un_domains.specs.Sets.{Sets}
use Rattle.un_tree.specs.Boxes.{Splits}
use Rattle.un_tree.specs.declared.node.Decision.{Decision}
use Rattle.un_stand.specs.Rooms.{IsEndBy}
use Rattle.un_walk.specs.Stands.{IsStandAt}
use Rattle.un_walk.specs.declared.stand.Stand.{Stand}
use Rattle.un_stand.proofs.room.go_down.Goals as goal

pub go_down-requires-clause-at : goal.go_down-requires-clause-at
go_down-requires-clause-at c =
    let g = c.requires.at in
    record { root = g.root; at = subst (IsStandAt g.root) (sym c.in_ok-enter.ensures.stand) g.at.stand }

pub go_down-requires-clause-split : goal.go_down-requires-clause-split
go_down-requires-clause-split c =
    let d = c.args.decision in
    subst (λ (b : Sets). Splits b d.var d.val) (sym (ap (λ (s : Stand). s.cuts.sets) c.in_ok-enter.ensures.stand)) c.requires.split

pub returns-clause-at : goal.returns-clause-at
returns-clause-at c root fix ps h = record {
  rounds = h.rounds;
  stand = c.in_ok-go_down.ensures.at root (subst (IsStandAt root) (sym c.in_ok-enter.ensures.stand) h.stand);
  ends = subst (λ (ds : List Decision). IsEndBy root fix ps ds c.enter.new.room.engine)
      (sym (c.in_ok-go_down.ensures.path ∙ ap (λ (s : Stand). s.path.items ++ c.args.decision ∷ []) c.in_ok-enter.ensures.stand))
      (c.in_ok-enter.ensures.end root fix ps h);
}

pub returns-clause-path : goal.returns-clause-path
returns-clause-path c =
    c.in_ok-go_down.ensures.path ∙ ap (λ (s : Stand). s.path.items ++ c.args.decision ∷ []) c.in_ok-enter.ensures.stand
