use Rattle.std.proofs.Common.{rules, ◌≡◌, ◌∙◌, sym, false}
use Rattle.un_start.proofs.DraftLaws.{told}
use Rattle.un_start.proofs.TextLaws.{not_next}
use Rattle.un_start.proofs.read.take_line.Goals as goal

pub returns-then-not-takes : goal.returns-then-not-takes
returns-then-not-takes c = λ ls is.
    let not : c.takes.result ≡ false = search rules in (
      not_next ls c.args.text.now c.in-Some.rest.now c.in-Some.line c.in-Some.ensures.some
          (sym (told c.args.draft.now ls c.in-Some.line is) ∙ (sym c.takes.ensures ∙ not)),
      is,
    )
