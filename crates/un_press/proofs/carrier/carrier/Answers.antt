use Rattle.std.proofs.Common.{sym, ◌∙◌}
use Rattle.un_press.proofs.Searching.{search_carries, search_finds}
use Rattle.un_press.proofs.carrier.carrier.Goals as goal

pub returns : goal.returns
returns c = search_carries c.args.m.now c.args.s.now c.args.x c.args.t c.requires.model c.requires.extended c.requires.fit
    c.requires.options c.requires.solution c.in-Some.y (rw c.as_slice.ensures at (sym c.read_in_blocks.ensures ∙ c.in-Some.is))

pub unreachable-requires : goal.unreachable-requires
unreachable-requires c = search_finds c.args.m.now c.args.s.now c.args.x c.args.t c.requires.model c.requires.extended c.requires.fit
    c.requires.options c.requires.solution c.requires.crosses (rw c.as_slice.ensures at (sym c.read_in_blocks.ensures ∙ c.in-None.is))
