use Rattle.std.proofs.Common.{sym, ◌∙◌}
use Rattle.un_steps.proofs.Shares.{last_of_five}
use Rattle.un_steps.proofs.full.is_full_in.Goals as goal

pub returns : goal.returns
returns c = last_of_five _
    (λ h. cc (sym c.if-is_short_of.false ∙ c.is_short_of.ensures.1 h))
    (λ h. cc (sym c.if-is_short_of-2.false ∙ c.is_short_of-2.ensures.1 h))
    (λ h. cc (sym c.if-is_short_of-3.false ∙ c.is_short_of-3.ensures.1 h))
    (λ h. cc (sym c.if-is_short_of-4.false ∙ c.is_short_of-4.ensures.1 h))
    c.is_short_of-5.result c.is_short_of-5.ensures
