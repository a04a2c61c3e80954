-- What the test whether a pruning failed says of it.
use Rattle.std.proofs.Common.{◌≡◌, ◌≢◌, false, sym}
use denote.Enum.Bare.{sameb, same_false}
use Rattle.un_prop.specs.contracts.propagator.Pruned.{the_type}
use Rattle.un_prop.specs.declared.propagator.Pruned.{Pruned}
use Rattle.un_prop.specs.declared.propagator.Pruned.TheVariants.{Failed}

pub going : (p : Pruned) → false ≡ sameb the_type p Failed → p ≢ Failed
going p e = same_false the_type p Failed (sym e)
