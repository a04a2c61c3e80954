use Rattle.std.proofs.Common.{List, subst}
use Rattle.un_tree.specs.declared.node.Node.{Node}
use Rattle.un_certificate.specs.Certificates.{IsStanding}
use Rattle.un_check.specs.Verdicts.{IsVerdict, OnYes}
use Rattle.un_check.proofs.tree.check_tree.Goals as goal

pub see_tree-requires : goal.see_tree-requires
see_tree-requires c =
    let r = c.requires in record { postable = record { model = r.model; extended = r.extended; fit = r.fit; options = r.options } }

pub returns-clause-verdict : goal.returns-clause-verdict
returns-clause-verdict c =
    subst (λ (ns : List Node). IsVerdict c.args.m.now c.args.limit ns c.in_ok-seen.seen.verdict) c.as_slice.ensures.value
    c.in_ok-seen.ensures.verdict

pub returns-clause-sound : goal.returns-clause-sound
returns-clause-sound c =
    subst (λ (ns : List Node). OnYes (IsStanding c.args.m.now c.args.limit ns) c.in_ok-seen.seen.verdict) c.as_slice.ensures.value
    c.in_ok-seen.ensures.standing
