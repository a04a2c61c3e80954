use Rattle.std.proofs.Common.{◌≡◌, Some, map, slice_get, sym, ap, ◌∙◌}
use Rattle.un_live.specs.Tables.{table_of}
use Rattle.un_live.proofs.LiveLaws.{lives_by_table, List2}
use Rattle.un_live.proofs.marks.mark.Goals as goal

pub returns-then-lives-clause-yes : goal.returns-then-lives-clause-yes
returns-then-lives-clause-yes c = λ done.
    let names = c.requires.tables.0 in
    let got : slice_get (map (table_of names) c.args.blocks.now) c.args.b ≡ Some c.as_slice.result.now =
    sym (ap (λ (ts : List2). slice_get ts c.args.b) c.requires.tables.2) ∙ c.get.ensures ∙ ap Some (sym c.as_slice.ensures) in
    let same = lives_by_table c.args.blocks.now c.args.name names c.args.b c.index-blocks-b.result c.as_slice.result.now c.args.marks.now
    c.requires.tables.1 c.requires.place got in
    (sym c.marked.ensures ∙ c.if-marked.false, same ∙ sym c.lives.ensures ∙ c.if-lives.true)

pub returns-clause-no : goal.returns-clause-no
returns-clause-no c = λ none lives.
    let names = c.requires.tables.0 in
    let got : slice_get (map (table_of names) c.args.blocks.now) c.args.b ≡ Some c.as_slice.result.now =
    sym (ap (λ (ts : List2). slice_get ts c.args.b) c.requires.tables.2) ∙ c.get.ensures ∙ ap Some (sym c.as_slice.ensures) in
    let same = lives_by_table c.args.blocks.now c.args.name names c.args.b c.index-blocks-b.result c.as_slice.result.now c.args.marks.now
    c.requires.tables.1 c.requires.place got in
    cc (sym lives ∙ same ∙ sym c.lives.ensures ∙ c.if-lives.false)
