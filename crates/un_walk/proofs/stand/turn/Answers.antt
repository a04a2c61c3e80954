use Rattle.std.proofs.Common.{[], ap, ◌∙◌, length, ◌∷◌, length-append, arith}
use Rattle.un_walk.specs.Turns.{paths_behind}
use Rattle.un_walk.proofs.Paths.{behind_above, behind_below, with_option}
use Rattle.un_walk.proofs.StandLemmas.{last_splits}
use Rattle.un_walk.proofs.stand.turn.Goals as goal

pub go_up-requires : goal.go_up-requires
go_up-requires c = record { root = c.requires.root; at = c.loop-decision.invariant.at c.requires.root c.requires.at }

pub go_down-requires-clause-at : goal.go_down-requires-clause-at
go_down-requires-clause-at c = record {
  root = c.requires.root;
  at = c.go_up.ensures.at c.requires.root (c.loop-decision.invariant.at c.requires.root c.requires.at);
}

pub go_down-requires-clause-split : goal.go_down-requires-clause-split
go_down-requires-clause-split c =
    let before = c.loop-decision.invariant.at c.requires.root c.requires.at in
    last_splits c.requires.root c.loop-decision.stand before c.go_up.new.stand c.in-Some.decision
    (with_option _ _ c.go_up.result c.in-Some.decision c.in-Some.is c.go_up.ensures.path) (c.go_up.ensures.at c.requires.root before)

pub returns-in-AtMost-clause-at : goal.returns-in-AtMost-clause-at
returns-in-AtMost-clause-at c root h =
    c.in_ok-go_down.ensures.at root (c.go_up.ensures.at root (c.loop-decision.invariant.at root h))

pub returns-in-AtMost-clause-waits : goal.returns-in-AtMost-clause-waits
returns-in-AtMost-clause-waits c =
    c.loop-decision.invariant.waits
    ∙ behind_below c.loop-decision.stand.path.items c.go_up.new.stand.path.items c.in-Some.decision
    (with_option _ _ c.go_up.result c.in-Some.decision c.in-Some.is c.go_up.ensures.path) c.in-AtMost.is _
    c.in_ok-go_down.ensures.path

pub loop-decision-preserved : goal.loop-decision-preserved
loop-decision-preserved c = record {
  at = λ root h. c.go_up.ensures.at root (c.loop-decision.invariant.at root h);
  waits = c.loop-decision.invariant.waits
      ∙ behind_above c.loop-decision.stand.path.items c.go_up.new.stand.path.items c.in-Some.decision
      (with_option _ _ c.go_up.result c.in-Some.decision c.in-Some.is c.go_up.ensures.path) c.in_default-side.is;
}

pub loop-decision-smaller : goal.loop-decision-smaller
loop-decision-smaller c =
    let e = ap length (with_option c.loop-decision.stand.path.items c.go_up.new.stand.path.items c.go_up.result c.in-Some.decision
    c.in-Some.is c.go_up.ensures.path) in
    omega (arith, e, length-append c.go_up.new.stand.path.items (c.in-Some.decision ∷ []))

pub returns-clause-at : goal.returns-clause-at
returns-clause-at c root h = c.go_up.ensures.at root (c.loop-decision.invariant.at root h)

pub returns-clause-waits : goal.returns-clause-waits
returns-clause-waits c = c.loop-decision.invariant.waits ∙ ap (paths_behind []) c.in_default.ensures.none
