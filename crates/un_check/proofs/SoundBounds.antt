-- What a sound answer says of all solutions of its model.
use Rattle.std.proofs.Common.{List, None}
use Rattle.un_ir.specs.declared.function.Function.{Function}
use Rattle.un_model.specs.declared.model.Model.{Model}
use Rattle.un_problem.specs.Problems.{IsProblemOf}
use Rattle.un_tree.specs.declared.node.Node.{Node}
use Rattle.un_certificate.proofs.Lows.{refuted, bound_below}
use Rattle.un_report.specs.declared.report.Answered.{Answered}
use Rattle.un_report.specs.declared.report.Answered.TheVariants.{Code, Infeasible, Spent}
use Rattle.un_check.specs.Laws.{BoundsAll}
use Rattle.un_check.specs.Sound.{IsSoundAnswer}

pub sound_bounds : (f : Function) (m : Model) (t : List Node) (a : Answered) → IsProblemOf f m → IsSoundAnswer m t a → BoundsAll m a
sound_bounds f m t (Code cost bound code s) p sound = λ x is.
    bound_below m cost t p.own p.extended p.fit p.options sound.standing bound sound.bounded x is
sound_bounds f m t Infeasible p sound = λ x is. refuted m None t p.own p.extended p.fit p.options sound.standing sound.closed x.values (is, tt)
sound_bounds f m t Spent p sound = tt
