-- What lines without a fault have, and the fault of their whole.
use Rattle.std.proofs.Common.{arith, ◌≤◌, length, sym, subst}
use Rattle.un_ir.specs.declared.function.TheConstants.{NAMES}
use Rattle.un_faults.specs.declared.before.Before.{Before}
use Rattle.un_faults.specs.Before.{labels_of}
use Rattle.un_faults.specs.Named.{IsNamed}
use Rattle.un_reader.specs.declared.limits.TheConstants.{TEXT}
use Rattle.un_reader.proofs.ReadLaws.{kept_lines, few_labels, whole_told}
use Rattle.un_reader.proofs.read.read_lines.Goals as goal

pub good_parts-requires-clause-few : goal.good_parts-requires-clause-few
good_parts-requires-clause-few c =
    let kept = kept_lines c.args.lines.now c.requires.text in
    subst (λ (b : Before). length b.names ≤ NAMES) (sym c.requires.before) kept.few

pub good_parts-requires-clause-named : goal.good_parts-requires-clause-named
good_parts-requires-clause-named c =
    let kept = kept_lines c.args.lines.now c.requires.text in
    subst IsNamed (sym c.requires.before) kept.named

pub good_parts-requires-clause-labels : goal.good_parts-requires-clause-labels
good_parts-requires-clause-labels c =
    let few : length (labels_of c.args.lines.now) ≤ TEXT = omega (arith, few_labels c.args.lines.now, c.requires.count) in
    subst (λ (b : Before). length b.labels ≤ TEXT) (sym c.requires.before) few

pub returns-in-Err-clause-fault : goal.returns-in-Err-clause-fault
returns-in-Err-clause-fault c = λ text of. whole_told text c.args.lines.now c.in-Err.error of c.in-Err.ensures.bad
