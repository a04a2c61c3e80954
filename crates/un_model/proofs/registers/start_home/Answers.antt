use Rattle.std.proofs.Common.{refl}
use Rattle.un_model.proofs.registers.start_home.Goals as goal

pub returns-in-None : goal.returns-in-None
returns-in-None c = rw (c.in-None.is, c.reg_at.ensures, c.requires, c.saturating_sub.ensures, c.len.ensures) refl
