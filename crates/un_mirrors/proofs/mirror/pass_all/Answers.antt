use Rattle.std.proofs.Common.{sym, subst, ◌∙◌, arith}
use Rattle.std.proofs.lemmas.List.Elements.{All-more}
use Rattle.un_mirrors.specs.Exchanged.{PassesExchanged}
use Rattle.un_mirrors.proofs.Moves.{other_passes, register_passed, register_passes}
use Rattle.un_mirrors.proofs.StandFacts.{marked_at, pass_at, sets_long, taken, there_at}
use Rattle.un_mirrors.proofs.mirror.pass_all.Goals as goal
use Rattle.un_mirrors.proofs.mirror.pass_all.Goals.{else-has-via-then-has+else-not-passes, else-has-via-else-has}

pub has-requires : goal.has-requires
has-requires c = marked_at c.args.m.now c.args.stand.now c.requires.at c.loop-k.k c.index-d.result.now (omega arith) c.index-d.ensures
    c.args.registers.now c.requires.registers

pub passes-requires-clause-there : goal.passes-requires-clause-there
passes-requires-clause-there c =
    there_at c.args.m.now c.args.stand.now c.requires.at c.loop-k.k c.index-d.result.now (omega arith) c.index-d.ensures

pub passes-requires-clause-alone : goal.passes-requires-clause-alone
passes-requires-clause-alone c =
    pass_at c.args.m.now c.args.stand.now c.requires.at c.loop-k.k c.index-d.result.now (omega arith) c.index-d.ensures

pub returns-then-not-passes : goal.returns-then-not-passes
returns-then-not-passes c =
    let d = c.index-d.result.now in
    let lt = there_at c.args.m.now c.args.stand.now c.requires.at c.loop-k.k d (omega arith) c.index-d.ensures in
    let each = c.requires.registers.each d.var.0 (omega (arith, lt, sets_long c.args.m.now c.args.stand.now c.requires.at)) in (
      λ t. absurd (cc t),
      λ all. absurd (let p = c.passes.ensures.1 (register_passed c.args.a.0 c.args.b.0 c.args.stand.now.cuts.sets d c.args.m.now.temps
          (sym each ∙ (sym c.has.ensures ∙ c.if-has.true))
          (taken (PassesExchanged c.args.m.now.temps c.args.a.0 c.args.b.0 c.args.stand.now.cuts.sets) c.args.depth c.loop-k.k
          c.args.stand.now.path.items d c.loop-k-test.true c.requires.within all c.index-d.ensures)) in
          let no = c.if-not-passes.true in cc (p, no)),
    )

pub loop-k-preserved : goal.loop-k-preserved
loop-k-preserved c =
    let d = c.index-d.result.now in
    let box = c.args.stand.now.cuts.sets in
    let temps = c.args.m.now.temps in
    let lt = there_at c.args.m.now c.args.stand.now c.requires.at c.loop-k.k d (omega arith) c.index-d.ensures in
    let each = c.requires.registers.each d.var.0 (omega (arith, lt, sets_long c.args.m.now c.args.stand.now c.requires.at)) in
    let here : PassesExchanged temps c.args.a.0 c.args.b.0 box d = elim c.else-has.branch [
      | else-has-via-then-has+else-not-passes w ↦ register_passes c.args.a.0 c.args.b.0 box d temps
          (sym each ∙ (sym c.has.ensures ∙ w.if-has.true)) (w.passes.ensures.0 w.if-not-passes.false)
      | else-has-via-else-has w ↦ other_passes c.args.a.0 c.args.b.0 box d temps (sym each ∙ (sym c.has.ensures ∙ w.if-has.false))
          (pass_at c.args.m.now c.args.stand.now c.requires.at c.loop-k.k d (omega arith) c.index-d.ensures)
    ] in
    All-more (PassesExchanged temps c.args.a.0 c.args.b.0 box) c.args.stand.now.path.items c.loop-k.k d (omega arith) c.loop-k.invariant
    (subst (PassesExchanged temps c.args.a.0 c.args.b.0 box) c.index-d.ensures here)
