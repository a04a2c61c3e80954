-- The entry of a lent list at a place.
use Rattle.std.proofs.Common.{ℕ, ◌≡◌, ◌<◌, ◌∙◌, Bool, List, length, get_or, sym, ap, subst}
use Rattle.un_base.specs.declared.ids.VarId.{VarId}
use Rattle.un_domains.specs.Sets.{Sets}
use Rattle.un_prop.specs.Rounds.{HasVars}
use Rattle.un_prop.specs.Among.{AllAmong}
use Rattle.un_prop.specs.AmongLaws.{has_among}
use Rattle.un_prop.specs.Choices.{passes_at}
use Rattle.un_prop.specs.ChoiceLaws.{passes_within}

pub known_at : (vs regs lent : List VarId) (i : ℕ) (d : VarId) (s : Sets) → lent ≡ regs → i < length regs → AllAmong vs regs → HasVars
    vs s → (get_or lent i d).0 < length s
known_at vs regs lent i d s e lt all k = subst (λ (us : List VarId). (get_or us i d).0 < length s) (sym e)
    (has_among vs (get_or regs i d) s (all i d lt) k)

pub entry_at : {A : Type 0} (p : A → Bool) (entries lent : List A) (i : ℕ) (d : A) (r : Bool) → lent ≡ entries → i < length entries → r
    ≡ p (get_or lent i d) → r ≡ passes_at p entries i
entry_at p entries lent i d r e lt is = is ∙ (ap (λ xs. p (get_or xs i d)) e ∙ sym (passes_within p entries i d lt))
