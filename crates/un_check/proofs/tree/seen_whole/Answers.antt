use Rattle.std.proofs.Common.{◌≡◌, ◌∙◌, sym, ap}
use Rattle.un_certificate.specs.Joints.{blocks_of}
use Rattle.un_model.specs.declared.model.Model.{Model}
use Rattle.un_check.specs.Walks.{box_of, outside_of, stage_waits, waiting_of}
use Rattle.un_check.specs.declared.stage.Stage.{Stage}
use Rattle.un_check.specs.declared.walk.Walk.{Walk}
use Rattle.un_check.proofs.WalkLemmas.{ends_inside, seen_well}
use Rattle.un_check.proofs.tree.seen_whole.Goals as goal

waits_by : (m : Model) (w : Walk) (s : Stage) → w.at.stage ≡ s → waiting_of m w.at ≡ stage_waits (blocks_of m) (box_of m w.at) (outside_of m w.at) s
waits_by m w s is = ap (stage_waits (blocks_of m) (box_of m w.at) (outside_of m w.at)) is

pub returns-in-AtEnd : goal.returns-in-AtEnd
returns-in-AtEnd c m limit nodes h = seen_well m limit nodes c.args.walk.now h (waits_by m c.args.walk.now _ c.in-AtEnd.is)

pub returns-in-AtBox : goal.returns-in-AtBox
returns-in-AtBox c m limit nodes h =
    c.seen_no.ensures m limit nodes
    (ends_inside m limit nodes c.args.walk.now h (λ none. (let e = sym (waits_by m c.args.walk.now _ c.in-AtBox.is) ∙ none in cc e)))

pub returns-in-AtPart : goal.returns-in-AtPart
returns-in-AtPart c m limit nodes h =
    c.seen_no-in-AtPart.ensures m limit nodes
    (ends_inside m limit nodes c.args.walk.now h (λ none. (let e = sym (waits_by m c.args.walk.now _ c.in-AtPart.is) ∙ none in cc e)))

pub returns-in-InPart : goal.returns-in-InPart
returns-in-InPart c m limit nodes h =
    c.seen_no-in-InPart.ensures m limit nodes
    (ends_inside m limit nodes c.args.walk.now h (λ none. (let e = sym (waits_by m c.args.walk.now _ c.in-InPart.is) ∙ none in cc e)))
