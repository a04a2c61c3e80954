-- What a sound answer says of its function.
use Rattle.std.proofs.Common.{List, sym, ◌∙◌}
use Rattle.un_ir.specs.declared.function.Function.{Function}
use Rattle.un_model.specs.declared.model.Model.{Model}
use Rattle.un_problem.specs.Problems.{IsProblemOf}
use Rattle.un_problem.proofs.ProblemLaws.{of_function}
use Rattle.un_emit.proofs.OfFunction.{is_of_source}
use Rattle.un_emit.proofs.Right.{right}
use Rattle.un_tree.specs.declared.node.Node.{Node}
use Rattle.un_report.specs.declared.report.Answered.{Answered}
use Rattle.un_report.specs.declared.report.Answered.TheVariants.{Code, Infeasible, Spent}
use Rattle.un_check.specs.Laws.{HasCodeFor}
use Rattle.un_check.specs.Sound.{IsSoundAnswer}

pub sound_codes : (f : Function) (m : Model) (t : List Node) (a : Answered) → IsProblemOf f m → IsSoundAnswer m t a → HasCodeFor f m a
sound_codes f m t (Code cost bound code s) p sound =
    let live = of_function m.ext.table f m.ext p.gives.ext in
    let of = is_of_source f live.0 m.ext live.1 p.fit live.2 in
    let for = right m s p.own code sound.emitted p.extended p.fit p.options sound.solution in
    record { simulates = for.simulates f live.0 of; counted = sound.costs ∙ sym (for.counted f live.0 of) }
sound_codes f m t Infeasible p sound = tt
sound_codes f m t Spent p sound = tt
