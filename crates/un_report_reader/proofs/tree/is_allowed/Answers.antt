use Rattle.std.proofs.Common.{subst}
use Rattle.un_tree.specs.Waits.{IsPlain}
use Rattle.un_report_reader.proofs.TreeLaws.{split_allowed}
use Rattle.un_report_reader.proofs.tree.is_allowed.Goals as goal

pub returns-in-Split : goal.returns-in-Split
returns-in-Split c = split_allowed c.args.limits c.args.node (λ h. subst IsPlain c.in-Split.is h)

pub returns-in-Part : goal.returns-in-Part
returns-in-Part c = split_allowed c.args.limits c.args.node (λ h. subst IsPlain c.in-Part.is h)
