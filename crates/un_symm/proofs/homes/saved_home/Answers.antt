use Rattle.std.proofs.Common.{◌∙◌, ◌+◌, ◌-◌, sym, ap, arith}
use Rattle.un_isa.specs.Tables.{in_mask}
use Rattle.un_isa.specs.declared.reg.TheConstants.{GENERALS}
use Rattle.un_symm.proofs.HomeSteps.{saved_from, saved_start, saved_here, saved_later, saved_skip, saved_link, saved_none}
use Rattle.un_symm.proofs.homes.saved_home.Goals as goal
use Rattle.un_symm.proofs.homes.saved_home.Goals.{then-is_in_mask+else-left-eq0, else-is_in_mask}

pub loop-r-init : goal.loop-r-init
loop-r-init c = saved_start c.args.t.now c.args.k

pub loop-r-preserved : goal.loop-r-preserved
loop-r-preserved c =
    let p = in_mask c.args.t.now.saved in
    let r = c.loop-r.r in
    let left = c.loop-r.left in
    elim c.if-is_in_mask.branch [
      | then-is_in_mask+else-left-eq0 w ↦ c.loop-r.invariant ∙ saved_later p GENERALS r left c.if-is_in_mask.left c.loop-r-test.true
          (sym c.is_in_mask.ensures ∙ w.if-is_in_mask.true) (omega (arith, w.left-is, w.if-left-eq0.false))
      | else-is_in_mask w ↦ c.loop-r.invariant ∙ saved_skip p GENERALS r left c.loop-r-test.true
          (sym c.is_in_mask.ensures ∙ w.if-is_in_mask.false) ∙ ap (saved_from p GENERALS (r + 1)) (sym w.left-is)
    ]

pub returns-then-left-eq0 : goal.returns-then-left-eq0
returns-then-left-eq0 c = sym (c.loop-r.invariant ∙ saved_here (in_mask c.args.t.now.saved) GENERALS c.loop-r.r c.loop-r.left
    c.loop-r-test.true (sym c.is_in_mask.ensures ∙ c.if-is_in_mask.true) c.if-left-eq0.true)

pub returns-then-left-eq0-2 : goal.returns-then-left-eq0-2
returns-then-left-eq0-2 c = sym (c.loop-r.invariant ∙ saved_link (in_mask c.args.t.now.saved) GENERALS c.loop-r.r c.loop-r.left
    c.loop-r-test.false c.if-left-eq0-2.true)

pub returns-else-left-eq0-2 : goal.returns-else-left-eq0-2
returns-else-left-eq0-2 c = sym (c.loop-r.invariant ∙ saved_none (in_mask c.args.t.now.saved) GENERALS c.loop-r.r c.loop-r.left
    (c.loop-r.left - 1) c.loop-r-test.false (omega (arith, c.if-left-eq0-2.false)))
