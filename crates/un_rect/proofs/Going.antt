-- What the test whether a pruning failed says of it.
use Rattle.std.proofs.Common.{◌≡◌, ◌≢◌, true, false, not, refl, sym}
use denote.Enum.Bare.{sameb, same_false}
use Rattle.un_prop.specs.contracts.propagator.Pruned.{the_type}
use Rattle.un_prop.specs.declared.propagator.Pruned.{Pruned}
use Rattle.un_prop.specs.declared.propagator.Pruned.TheVariants.{Same, Tighter, Failed}

pub going : (p : Pruned) → false ≡ sameb the_type p Failed → p ≢ Failed
going p e = same_false the_type p Failed (sym e)

pub failed : (p : Pruned) → true ≡ sameb the_type p Failed → p ≡ Failed
failed Same e = absurd (cc e)
failed Tighter e = absurd (cc e)
failed Failed e = refl

pub tighter : (p : Pruned) → true ≡ sameb the_type p Tighter → p ≢ Failed
tighter Same e = absurd (cc e)
tighter Tighter e = λ q. cc q
tighter Failed e = absurd (cc e)

pub unchanged : (p : Pruned) → not (sameb the_type p Same) ≡ false → p ≡ Same
unchanged Same e = refl
unchanged Tighter e = absurd (cc e)
unchanged Failed e = absurd (cc e)
