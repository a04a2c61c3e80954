-- the function that is made has no fault
use Rattle.un_gen.proofs.GenWell.{made}
use Rattle.un_gen.proofs.generate.generate.Goals as goal

pub invariant_of-result : goal.invariant_of-result
invariant_of-result c = record {
  well_formed = ∣ made c.args.seed c.args.size c.requires.some c.requires.few _ _ _ _ c.name_of.ensures c.in_ok-params.ensures
      c.in_ok-names.ensures c.in_ok-blocks.ensures ∣₁;
}
