use Rattle.std.proofs.Common.{refl, ◌∙◌}
use Rattle.un_isa.proofs.RegisterBits.{joined}
use Rattle.un_isa.proofs.reg_set.RegSet.union.Goals as goal

pub returns : goal.returns
returns c q = joined c.self.inside.mask c.other.inside.mask q ∙ rw (c.self.view_is, c.other.view_is) refl
