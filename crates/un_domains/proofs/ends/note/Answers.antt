use Rattle.std.proofs.Common.{ℕ, ◌+◌, ◌*◌, ◌∙◌, List, set, ap}
use Rattle.un_domains.specs.NotedLaws.{is_note}
use Rattle.un_domains.specs.Shapes.{set_of}
use Rattle.un_domains.proofs.ends.note.Goals as goal

pub returns : goal.returns
returns c =
    is_note c.args.v.0 (set_of c.args.words.now c.args.shape.now) c.ends_of-ends.result.least c.ends_of-ends.result.greatest
    c.args.noted.now c.set-2.new.self c.requires.there c.ends_of-ends.ensures (c.set-2.ensures.words ∙ ap (λ (ws : List ℕ). set ws
    (2 * c.args.v.0 + 1) c.ends_of-ends.result.greatest) c.set.ensures.words) (c.set-2.ensures.marked ∙ c.set.ensures.marked)
