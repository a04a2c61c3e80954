use Rattle.std.proofs.Common.{◌≡◌, List, None, Some, refl, subst}
use Rattle.std.specs.declared.option.Option.{Option}
use Rattle.std.specs.Option.{option_map}
use Rattle.un_model.specs.declared.model.Solution.{Solution}
use Rattle.un_model.specs.Solutions.{IsSolution}
use Rattle.un_tree.specs.declared.node.Node.{Node}
use Rattle.un_search.specs.Answers.{IsRefuted}
use Rattle.un_search.specs.Solved.{IsByRounds}
use Rattle.un_search.specs.declared.root.Incumbent.{Incumbent}
use Rattle.un_model.specs.Boxes.{root_of}
use Rattle.un_post.proofs.Ready.{posted_live}
use Rattle.un_search.proofs.EnoughLemmas.{none_left_open, code_left_open}
use Rattle.un_search.proofs.SolveLemmas.{none_left, on_code, on_infeasible, rounds_alone}
use Rattle.un_search.proofs.solve.solve.Goals as goal

pub returns-in_ok-answer-in-None-clause-none : goal.returns-in_ok-answer-in-None-clause-none
returns-in_ok-answer-in-None-clause-none c =
    let r = c.requires in
    on_infeasible (IsRefuted c.args.m.now None c.args.nodes) (λ (t : List Node). (x : Solution) → IsSolution c.args.m.now x → ⊥)
    (λ (t : List Node) h. none_left c.args.m.now c.args.nodes t r.model r.extended r.fit r.options h) _
    c.in_ok-answer-in-None.ensures.infeasible

pub returns-in_ok-answer-in-None-clause-enough : goal.returns-in_ok-answer-in-None-clause-enough
returns-in_ok-answer-in-None-clause-enough c enough =
    let m = c.args.m.now in
    let r = c.requires in
    let e = c.in_ok-answer-in-None.ensures in
    none_left_open m (posted_live m (root_of m) r.model r.extended r.fit r.options refl) c.args.nodes enough _ e.code e.infeasible e.spent

pub returns-in_ok-answer-in-Some-clause-enough : goal.returns-in_ok-answer-in-Some-clause-enough
returns-in_ok-answer-in-Some-clause-enough c enough =
    let m = c.args.m.now in
    let r = c.requires in
    let e = c.in_ok-answer-in-Some.ensures in
    code_left_open m (posted_live m (root_of m) r.model r.extended r.fit r.options refl) c.args.nodes enough _ e.code e.found

pub returns-in_ok-answer-in-None-clause-few : goal.returns-in_ok-answer-in-None-clause-few
returns-in_ok-answer-in-None-clause-few c few =
    let m = c.args.m.now in
    on_code (IsByRounds m None) (IsByRounds m c.args.start) (λ s h. rounds_alone m c.args.start s h) _
    (c.in_ok-answer-in-None.ensures.few few)

pub returns-in_ok-answer-in-Some-clause-few : goal.returns-in_ok-answer-in-Some-clause-few
returns-in_ok-answer-in-Some-clause-few c few =
    let m = c.args.m.now in
    let best = c.in-Some.best in
    let begun = subst (λ (o : Option Incumbent). option_map (λ (i : Incumbent). i.best.solution) o ≡ c.args.start) c.in-Some.is (c.in_ok-incumbent.ensures.few few) in
    on_code (IsByRounds m (Some best.best.solution)) (IsByRounds m c.args.start)
    (λ s h. subst (λ (o : Option Solution). IsByRounds m o s) begun h) _ (c.in_ok-answer-in-Some.ensures.few few)
