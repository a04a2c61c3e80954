use Rattle.std.proofs.Common.{◌≡◌, ◌++◌, ◌∙◌, All, List, ap, append_assoc, subst, sym}
use Rattle.un_length.specs.Places.{Leads}
use Rattle.un_length.specs.declared.block.Precedence.{Precedence}
use Rattle.un_rows.proofs.Walks.{drafted_lead}
use Rattle.un_rows.specs.Drafts.{drafted_arcs, within}
use Rattle.un_rows.proofs.drafted.drafted_arcs.Goals as goal

pub returns-clause-lead : goal.returns-clause-lead
returns-clause-lead c =
    let n = c.args.count in
    let d = c.args.d.now in
    let known = c.args.known.now in
    let first : c.add_within.new.arcs ≡ within n d.front =
    c.in_ok-add_within.ensures ∙ ap (λ (ys : List Precedence). ys ++ within n c.as_slice.result.now) c.new-arcs.ensures
    ∙ ap (within n) c.as_slice.ensures in
    let second : c.add_within-2.new.arcs ≡ within n d.front ++ within n known =
    c.in_ok-add_within-2.ensures ∙ ap (λ (ys : List Precedence). ys ++ within n known) first in
    let third : c.add_within-3.new.arcs ≡ drafted_arcs n known d =
    c.in_ok-add_within-3.ensures ∙ ap (λ (ys : List Precedence). ys ++ within n c.as_slice-2.result.now) second
    ∙ ap (λ (bs : List Precedence). (within n d.front ++ within n known) ++ within n bs) c.as_slice-2.ensures
    ∙ append_assoc (within n d.front) (within n known) (within n d.back) in
    subst (All (Leads n)) (sym third) (drafted_lead n known d)
