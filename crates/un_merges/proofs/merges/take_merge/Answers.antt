use Rattle.std.proofs.Common.{sym, ◌∙◌, subst}
use Rattle.std.proofs.lemmas.Bool.{false≢true}
use Rattle.un_model.specs.declared.model.Solution.{Solution}
use Rattle.un_model.specs.Solutions.{IsSolution}
use Rattle.un_merges.proofs.merges.take_merge.Goals as goal

pub returns-else-found-clause-none : goal.returns-else-found-clause-none
returns-else-found-clause-none c = λ e is.
    let new : IsSolution c.args.m.now c.in_ok-new.new = subst (λ (x : Solution). IsSolution c.args.m.now x) (sym c.in_ok-new.ensures) is in
    false≢true (sym e ∙ c.in_ok-found.ensures.1 new)
