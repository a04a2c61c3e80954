use Rattle.std.proofs.Common.{◌≡◌, ◌≢◌, All, true, false, subst}
use Rattle.std.proofs.lemmas.List.{take_all}
use Rattle.std.proofs.lemmas.List.Elements.{All-more}
use Rattle.un_tree.specs.declared.node.Node.TheVariants.{Split}
use Rattle.un_tree.proofs.split.first_split.Goals as goal

pub loop-i-preserved : goal.loop-i-preserved
loop-i-preserved c = All-more (λ n. n ≢ Split) c.args.nodes.now c.loop-i.i _ c.loop-i-test.true c.loop-i.invariant
    (λ e. let f : false ≡ true = c.if-is_split.ensures.1 e in cc f)

pub returns-clause-none : goal.returns-clause-none
returns-clause-none c = subst (All (λ n. n ≢ Split)) (take_all c.loop-i.i c.args.nodes.now c.loop-i-test.false) c.loop-i.invariant
