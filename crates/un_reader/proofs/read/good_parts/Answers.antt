use Rattle.std.proofs.Common.{rules, ◌≡◌, ◌+◌, [], Some, length, sym, ap, ◌∙◌}
use Rattle.un_faults.specs.declared.before.Before.{Before}
use Rattle.un_faults.specs.declared.fault.Fault.TheVariants.{NoBlock}
use Rattle.un_reader.specs.declared.error.ReadError.TheVariants.{TextFault}
use Rattle.un_faults.specs.Codes.{code_of}
use Rattle.un_faults.specs.Before.{labels_of}
use Rattle.un_faults.specs.TextFaults.{shape_fault}
use Rattle.un_reader.proofs.CheckLaws.{told}
use Rattle.un_reader.proofs.ReadLaws.{unnamed}
use Rattle.un_reader.proofs.read.good_parts.Goals as goal

pub returns-in-None-clause-bad : goal.returns-in-None-clause-bad
returns-in-None-clause-bad c =
    let none : labels_of c.args.lines.now ≡ [] = sym (ap (λ (b : Before). b.labels) c.requires.before) ∙ c.requires.named c.in-None.is in
    let is : c.fault_of.result ≡ TextFault (length c.args.lines.now + 1) (code_of NoBlock) = search rules in
    told (λ line fault. shape_fault c.args.lines.now ≡ Some (line, fault)) (length c.args.lines.now + 1) NoBlock c.fault_of.result is
    (unnamed c.args.lines.now none)
