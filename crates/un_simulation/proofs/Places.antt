-- How a value stands in a place, worked out by hand: a predicate is 255 in a general register and in a slot of the frame.
use Rattle.std.specs.Prelude.{◌≡◌}
use Rattle.std.proofs.Common.{refl}
use Rattle.un_isa.specs.declared.reg.TheConstants.{FIRST_SLOT}
use Rattle.un_ir.specs.declared.function.Kind.TheVariants.{General, Pred}
use Rattle.un_simulation.specs.Simulation.{as_held}

word_in_register : as_held General 5 7 ≡ 7
word_in_register = refl

word_in_slot : as_held General 40 7 ≡ 7
word_in_slot = refl

truth_in_register : as_held Pred 31 1 ≡ 255
truth_in_register = refl

truth_in_first_predicate : as_held Pred 32 1 ≡ 1
truth_in_first_predicate = refl

truth_in_last_predicate : as_held Pred 35 1 ≡ 1
truth_in_last_predicate = refl

truth_in_slot : as_held Pred FIRST_SLOT 1 ≡ 255
truth_in_slot = refl

falsehood_in_slot : as_held Pred FIRST_SLOT 0 ≡ 0
falsehood_in_slot = refl
