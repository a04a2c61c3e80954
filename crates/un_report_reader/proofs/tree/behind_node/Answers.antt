use Rattle.std.proofs.Common.{◌≡◌, true, false, refl}
use Rattle.un_report_reader.proofs.TreeLaws.{node_read, none_allowed, none_begins, not_allowed}
use Rattle.un_report_reader.proofs.tree.behind_node.Goals as goal

pub returns-then-is_allowed-clause-some : goal.returns-then-is_allowed-clause-some
returns-then-is_allowed-clause-some c =
    node_read c.args.limits c.args.text.now c.in-Node.node c.in-Node.line.now c.in-Node.rest.now c.in-Node.ensures
    (c.if-is_allowed.ensures.0 refl)

pub returns-else-is_allowed-clause-none : goal.returns-else-is_allowed-clause-none
returns-else-is_allowed-clause-none c =
    not_allowed c.args.limits c.args.text.now c.in-Node.node c.in-Node.line.now c.in-Node.rest.now c.in-Node.ensures
    (λ h. let f : false ≡ true = c.if-is_allowed.ensures.1 h in cc f)

pub returns-in-End-clause-none : goal.returns-in-End-clause-none
returns-in-End-clause-none c = none_allowed c.args.limits c.args.text.now (none_begins c.args.text.now c.in-End.ensures)

pub returns-in-Bad-clause-none : goal.returns-in-Bad-clause-none
returns-in-Bad-clause-none c = none_allowed c.args.limits c.args.text.now c.in-Bad.ensures.1
