use Rattle.std.proofs.Common.{ℕ, ◌||◌, nat_eq, ap, ◌∙◌}
use Rattle.un_isa.specs.RegSets.{has}
use Rattle.un_isa.proofs.RegisterBits.{inserted}
use Rattle.un_isa.proofs.reg_set.RegSet.insert.Goals as goal

pub returns : goal.returns
returns c q = inserted c.self.inside.mask c.args.r q c.requires ∙ ap (λ (v : ℕ). has v q || nat_eq c.args.r q) c.self.view_is
