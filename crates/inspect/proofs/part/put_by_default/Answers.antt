use Rattle.un_baseline.proofs.Spillable.{default_roomy, roomy_model}
use Rattle.inspect.proofs.part.put_by_default.Goals as goal

pub put_timed-requires-clause-roomy : goal.put_timed-requires-clause-roomy
put_timed-requires-clause-roomy g c =
    let f = c.args.f.now in
    let o = c.default_options.result in
    roomy_model c.args.t.now f o c.in_ok-m.m c.in_ok-m.ensures.gives (default_roomy f o c.default_options.ensures)

pub baseline-requires-clause-roomy : goal.baseline-requires-clause-roomy
baseline-requires-clause-roomy g c =
    let f = c.args.f.now in
    let o = c.default_options.result in
    roomy_model c.args.t.now f o c.in_ok-m.m c.in_ok-m.ensures.gives (default_roomy f o c.default_options.ensures)
