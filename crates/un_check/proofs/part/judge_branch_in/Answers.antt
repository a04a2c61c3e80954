use Rattle.std.proofs.Common.{◌≡◌, ◌↔◌, ◌∙◌, Bool, true, false, IsTrue, sym}
use Rattle.un_walk.proofs.StandLemmas.{cuts_box}
use Rattle.un_check.proofs.JudgeLemmas.{in_one, in_other, in_kept}
use Rattle.un_check.proofs.part.judge_branch_in.Goals as goal

not_own : (b : Bool) (P : Type 0) → b ≡ false → IsTrue b ↔ P → P → ⊥
not_own b P off is p = let e : false ≡ true = sym off ∙ is.1 p in cc e

pub splits-requires : goal.splits-requires
splits-requires c = let g = c.requires.at in (cuts_box g.root c.args.room.now.stand g.at.stand).1

pub returns-then-not-splits : goal.returns-then-not-splits
returns-then-not-splits c first limit number rest h =
    in_one first c.args.m.now c.args.k limit number c.args.room.now h c.args.place rest c.args.var c.args.val
    (c.splits.ensures.one c.if-not-splits.true)

pub returns-then-not-is_own : goal.returns-then-not-is_own
returns-then-not-is_own c first limit number rest h =
    in_other first c.args.m.now c.args.k limit number c.args.room.now h c.args.place rest c.args.var c.args.val
    (not_own c.is_own.result _ c.if-not-is_own.true c.is_own.ensures)

pub returns : goal.returns
returns c first limit number rest h =
    in_kept first c.args.m.now c.args.k limit number c.args.room.now h c.args.place rest c.args.var c.args.val
    (c.splits.ensures.both c.if-not-splits.false) (c.is_own.ensures.0 c.if-not-is_own.false)
