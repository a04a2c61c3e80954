use Rattle.std.proofs.Common.{rules, sym, ◌∙◌, ◌≡◌, ◌+◌, None, true, false, refl}
use Rattle.std.specs.List.{list_all}
use Rattle.un_faults.specs.declared.fault.Fault.TheVariants.{BadByte, BadLine}
use Rattle.un_words.specs.Tokens.{tokens_of}
use Rattle.un_words.specs.Shapes.{shape_of}
use Rattle.un_faults.specs.LineFaults.{is_plain_byte}
use Rattle.un_reader.proofs.CheckLaws.{told, bad_byte, bad_line}
use Rattle.un_reader.proofs.check.good_line.Goals as goal

pub returns-then-not-are_plain-clause-bad : goal.returns-then-not-are_plain-clause-bad
returns-then-not-are_plain-clause-bad c =
    let bad : list_all is_plain_byte c.args.bytes.now ≡ false = search rules in
    told _ (c.args.place + 1) BadByte c.fault_of.result c.fault_of.ensures (refl, bad_byte c.args.before.now c.args.bytes.now bad)

pub returns-in-None-clause-bad : goal.returns-in-None-clause-bad
returns-in-None-clause-bad c =
    let good : list_all is_plain_byte c.args.bytes.now ≡ true = search rules in
    let none : shape_of (tokens_of c.args.bytes.now) ≡ None = sym c.in_ok-shape.ensures ∙ c.in-None.is in
    told _ (c.args.place + 1) BadLine c.fault_of-in-None.result c.fault_of-in-None.ensures
    (refl, bad_line c.args.before.now c.args.bytes.now good none)
