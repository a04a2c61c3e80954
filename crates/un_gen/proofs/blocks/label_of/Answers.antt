-- `b` and a number of one or two digits are a name
use Rattle.std.proofs.Common.{rules, ◌≡◌, true, sym, subst, List, ℕ}
use Rattle.un_base.specs.Names.{is_name}
use Rattle.un_gen.specs.Generated.{label_of}
use Rattle.un_gen.proofs.GenNames.{label_named}
use Rattle.un_gen.proofs.blocks.label_of.Goals as goal

pub name_of-requires : goal.name_of-requires
name_of-requires c =
    let same : c.as_slice.result.now ≡ label_of c.args.b = search rules in
    subst (λ (bs : List ℕ). is_name bs ≡ true) (sym same) (label_named c.args.b c.requires)
