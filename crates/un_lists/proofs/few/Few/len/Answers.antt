use Rattle.std.proofs.Common.{length, ap, ◌∙◌}
use Rattle.un_lists.proofs.few.Few.len.Goals as goal

pub returns : goal.returns
returns g c = ap length (c.as_slice.ensures ∙ c.self.view_is)
