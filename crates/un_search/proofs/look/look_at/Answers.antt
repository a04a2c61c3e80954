use Rattle.un_certificate.specs.ModelLaws.{posted_inside}
use Rattle.un_search.proofs.RoundLemmas.{found_look, open_look}
use Rattle.un_search.proofs.look.look_at.Goals as goal

pub single_values-requires-clause-live : goal.single_values-requires-clause-live
single_values-requires-clause-live c =
    let g = c.args.rules.now in
    let p = c.requires.rules.postable in
    (posted_inside g.m.now g.limit p.props p.are c.args.cuts.now.sets c.args.ends.now.sets c.requires.inside c.requires.stable).1

pub returns-in_ok-values-in-None-clause-look : goal.returns-in_ok-values-in-None-clause-look
returns-in_ok-values-in-None-clause-look c =
    let g = c.args.rules.now in
    let p = c.requires.rules.postable in
    found_look g.m.now g.limit p.props p.are c.args.cuts.now.sets c.args.ends.now.sets c.requires.inside c.requires.stable
    c.in_ok-values-in-None.values.items c.in_ok-values-in-None.ensures

pub returns-in-Some-clause-look : goal.returns-in-Some-clause-look
returns-in-Some-clause-look c =
    let g = c.args.rules.now in
    let p = c.requires.rules.postable in
    let two = c.in-Some.ensures.some in
    open_look g.m.now g.limit p.props p.are c.args.cuts.now.sets c.args.ends.now.sets c.requires.inside c.requires.stable
    c.relaxed-answer.result c.look_of.result (record { var = c.in-Some.field-0.0; there = two.0; two = two.1 })
    c.relaxed-answer.ensures.answer c.look_of.ensures
