use Rattle.std.proofs.Common.{◌≡◌, ◌-◌, List, Bool, true, set, sym, subst}
use Rattle.un_live.specs.Marks.{name_of}
use Rattle.un_live.proofs.LiveLaws.{IsPass, pass_start, pass_marked, pass_same}
use Rattle.un_live.proofs.marks.sweep.Goals as goal

pub loop-rest-init : goal.loop-rest-init
loop-rest-init c = pass_start c.args.blocks.now (name_of c.args.name) c.args.marks.now c.requires.long c.requires.sound

pub loop-rest-preserved-then-mark : goal.loop-rest-preserved-then-mark
loop-rest-preserved-then-mark c =
    let l = c.loop-rest in
    let e : c.mark.new.marks ≡ set l.marks (l.rest - 1) true = rw c.if-mark.true at c.mark.ensures.marks in
    let found = c.mark.ensures.yes c.if-mark.true in
    subst (λ (m : List Bool). IsPass c.args.blocks.now (name_of c.args.name) c.args.marks.now m true (l.rest - 1)) (sym e)
    (pass_marked c.args.blocks.now (name_of c.args.name) c.args.marks.now l.marks l.changed l.rest l.invariant c.loop-rest-test.true found.0
    found.1)

pub loop-rest-preserved : goal.loop-rest-preserved
loop-rest-preserved c =
    let l = c.loop-rest in
    let e : c.mark.new.marks ≡ l.marks = rw c.if-mark.false at c.mark.ensures.marks in
    subst (λ (m : List Bool). IsPass c.args.blocks.now (name_of c.args.name) c.args.marks.now m l.changed (l.rest - 1)) (sym e)
    (pass_same c.args.blocks.now (name_of c.args.name) c.args.marks.now l.marks l.changed l.rest l.invariant c.loop-rest-test.true
    (c.mark.ensures.no c.if-mark.false))
