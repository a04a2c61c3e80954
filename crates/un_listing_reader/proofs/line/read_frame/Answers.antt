-- A number that is no frame's size is not that of any frame's line.
use Rattle.std.proofs.Common.{◌≡◌, ◌^◌, ◌<◌, codes, sym, ◌∙◌, arith}
use Rattle.std.specs.Fmt.{decimal}
use Rattle.std.proofs.lemmas.Fmt.{decimal_injective}
use Rattle.un_listing_reader.proofs.LineCuts.{same_within}
use Rattle.un_listing_reader.proofs.line.read_frame.Goals as goal
use Rattle.un_listing_reader.proofs.line.read_frame.Goals.{else-frame-eq0-via-then-frame-eq0+else-frame-from}
use Rattle.un_listing_reader.proofs.line.read_frame.Goals.{else-frame-eq0-via-else-frame-eq0}

pub returns-else-frame-eq0-clause-none : goal.returns-else-frame-eq0-clause-none
returns-else-frame-eq0-clause-none c = λ frame h.
    let text = same_within (codes "frame ") c.in_ok-within.field-0.now (decimal frame) (sym c.in_ok-within.ensures.some ∙ h.spelled) in
    let small : frame < 2 ^ 64 = omega (arith, h.small) in
    let same : c.in_ok-frame.frame ≡ frame = decimal_injective c.in_ok-frame.frame frame (omega arith) small
    (sym c.in_ok-frame.ensures.some ∙ text) in
    elim c.else-frame-eq0.branch [
      | else-frame-eq0-via-then-frame-eq0+else-frame-from w ↦ omega (arith, h.small)
      | else-frame-eq0-via-else-frame-eq0 w ↦ (let whole = h.whole in let other = w.if-frame-eq0 in grind (arith, same, whole))
    ]
