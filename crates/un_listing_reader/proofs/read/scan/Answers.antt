-- The line at place k is judged among those before it and those after it.
use Rattle.std.proofs.Common.{rules, ◌≡◌, true≢false, true, false, take, sym, ◌∙◌, arith}
use Rattle.un_listing_reader.specs.Reading.{labels_in, StandsAt}
use Rattle.un_listing_reader.proofs.Standing.{judged, stand_more_to, none_stands, got}
use Rattle.un_listing_reader.proofs.read.scan.Goals.{in-Some+in_ok-note, in_default}
use Rattle.un_listing_reader.proofs.read.scan.Goals as goal

pub returns-then-not-stands : goal.returns-then-not-stands
returns-then-not-stands c =
    let told = judged c.args.lines.now c.loop-k.k c.index-lines-k.result c.stands.result (omega arith) c.index-lines-k.is
    (c.stands.ensures (labels_in c.args.lines.now) (take c.loop-k.k c.args.lines.now) c.requires.labels
    c.loop-k.invariant.known) in
    let not : c.stands.result ≡ false = search rules in
    record {
      before = c.loop-k.invariant.stand;
      here = λ s. true≢false (sym (told.1 s) ∙ not);
      inside = λ some. omega arith;
    }

pub loop-k-preserved : goal.loop-k-preserved
loop-k-preserved c =
    let told = judged c.args.lines.now c.loop-k.k c.index-lines-k.result c.stands.result (omega arith) c.index-lines-k.is
    (c.stands.ensures (labels_in c.args.lines.now) (take c.loop-k.k c.args.lines.now) c.requires.labels
    c.loop-k.invariant.known) in
    let yes : c.stands.result ≡ true = search rules in
    let here : StandsAt c.args.lines.now c.loop-k.k = told.0 yes in
    let item = got c.args.lines.now c.loop-k.k c.index-lines-k.result (omega arith) c.index-lines-k.is in
    elim c.match-line.branch [
      | in-Some+in_ok-note w ↦ stand_more_to w.note.new.before c.match-line.before c.args.lines.now c.loop-k.k c.index-lines-k.result
          w.in-Some.line w.before-is item w.in-Some.is
          c.loop-k.invariant.stand here (w.in_ok-note.ensures (take c.loop-k.k c.args.lines.now) c.loop-k.invariant.known)
      | in_default w ↦ absurd (none_stands c.args.lines.now c.loop-k.k c.index-lines-k.result item w.in_default.is here)
    ]
