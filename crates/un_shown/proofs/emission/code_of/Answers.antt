use Rattle.un_problem.proofs.ProblemLaws.{of_function}
use Rattle.un_shown.proofs.emission.code_of.Goals as goal

pub emit-requires : goal.emit-requires
emit-requires c =
    let f = c.args.f.now in
    let m = c.args.m.now in
    let p = c.requires.problem in
    record {
      extended = of_function m.ext.table f m.ext p.gives.ext;
      fit = p.fit;
      options = p.options;
      model = p.own;
      solution = c.requires.solution;
    }
