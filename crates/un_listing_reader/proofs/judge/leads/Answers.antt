-- A jump's label is looked up in the set.
use Rattle.std.proofs.Common.{rules, ◌≡◌, true}
use Rattle.un_isa.specs.Does.{is_jump}
use Rattle.un_listing_reader.proofs.Judged.{leads_some}
use Rattle.un_listing_reader.proofs.judge.leads.Goals as goal

pub returns-in-Some : goal.returns-in-Some
returns-in-Some c = λ all same.
    let jump : is_jump c.args.i.now.op ≡ true = search rules in
    leads_some c.args.labels.now all same (is_jump c.args.i.now.op) jump c.args.i.now.label c.in-Some.label
    (search rules) c.has.result c.has.ensures
