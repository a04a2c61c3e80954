use Rattle.un_tree.specs.Boxes.{Splits}
use Rattle.un_tree.specs.Searched.{HasTwo}
use Rattle.un_search.proofs.PlaceLemmas.{end_live, of_end, some_engine, to_end}
use Rattle.un_search.proofs.expand.choose.Goals as goal

pub unreachable-requires : goal.unreachable-requires
unreachable-requires c =
    let g = c.args.rules.now in
    some_engine g.m.now g.limit c.args.place.now.room c.requires.at.at HasTwo c.requires.choice c.in-None.is

pub choose_in-requires-clause-live : goal.choose_in-requires-clause-live
choose_in-requires-clause-live c =
    let g = c.args.rules.now in
    end_live g.m.now g.limit c.args.place.now.room c.requires.at.at HasTwo c.requires.choice c.in-Some.engine c.in-Some.is

pub choose_in-requires-clause-two : goal.choose_in-requires-clause-two
choose_in-requires-clause-two c =
    let g = c.args.rules.now in
    of_end g.m.now g.limit c.args.place.now.room c.requires.at.at HasTwo c.requires.choice c.in-Some.engine c.in-Some.is

pub returns-clause-splits : goal.returns-clause-splits
returns-clause-splits c =
    let choice = c.in_ok-choice-in-Some.choice in
    let g = c.args.rules.now in
    to_end g.m.now g.limit c.args.place.now.room c.requires.at.at HasTwo c.requires.choice c.in-Some.engine c.in-Some.is
    (λ f. Splits f choice.var choice.val) c.in_ok-choice-in-Some.ensures.splits
