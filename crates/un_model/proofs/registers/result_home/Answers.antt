use Rattle.std.proofs.Common.{refl}
use Rattle.un_model.proofs.registers.result_home.Goals as goal

pub returns-in-In : goal.returns-in-In
returns-in-In c = rw (c.in-In.is, c.start_home.ensures, c.name_at-name.ensures) refl
