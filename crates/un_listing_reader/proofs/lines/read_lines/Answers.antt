-- At the end nothing is left to read.
use Rattle.std.proofs.Common.{rules, ◌≡◌, List, [], Option, append-nil, subst}
use Rattle.std.specs.List.{AllZip}
use Rattle.un_base.proofs.DecimalLaws.{is_empty}
use Rattle.un_base.specs.Lines.{pieces_of}
use Rattle.un_listing_reader.specs.declared.line.Line.{Line}
use Rattle.un_listing_reader.specs.Reading.{IsReadAs}
use Rattle.un_listing_reader.proofs.lines.read_lines.Goals as goal

pub returns : goal.returns
returns c =
    let none : c.loop-rest.rest.now ≡ [] = is_empty c.loop-rest.rest.now (search rules) in
    subst (λ (ls : List (Option Line)). AllZip (IsReadAs c.args.frame) (pieces_of c.args.text.now) ls) (append-nil c.loop-rest.lines)
    (c.loop-rest.invariant [] (rw none tt))
