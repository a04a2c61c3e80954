-- A call of which nothing is said whatever the cycles are asks for the rule on cycles alone.
use Rattle.std.proofs.Common.{◌≡◌, ℕ, Bool, true, false, List, refl, ap, ◌∙◌}
use Rattle.std.specs.Prelude.{◌&&◌, ◌||◌, not, nat_le, nat_lt, slice_index}
use Rattle.std.specs.List.{list_any}
use Rattle.un_prop.specs.Acts.{is_user}
use Rattle.un_prop.specs.declared.act.Temp.{Temp}
use Rattle.un_prop.specs.declared.act.UserOf.{UserOf}
use Rattle.un_rect.specs.Clobber.{avoids}
use Rattle.un_rect.specs.Spans.{starts, ends}
use Rattle.un_rect.specs.declared.clobber.ClobberCall.{ClobberCall}

and_true : (b : Bool) → (b && true) ≡ b
and_true true = refl
and_true false = refl

-- the temporary starts after the call or ends by then
pub plain_call : (a : Temp) (c : ClobberCall) (x : List ℕ) → c.before ≡ false
    → avoids a c x ≡ (nat_lt (slice_index x c.at.0) (starts a x) || nat_le (ends a x) (slice_index x c.at.0))
plain_call a c x plain =
    let on_cycles : Bool = nat_lt (slice_index x c.at.0) (starts a x) || nat_le (ends a x) (slice_index x c.at.0) in
    ap (λ (b : Bool). on_cycles && not (b && list_any (λ (u : UserOf). is_user u x) c.behind)) plain ∙ and_true on_cycles
