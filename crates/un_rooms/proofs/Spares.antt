-- The constraint that calls spare a temporary, from its parts.
use Rattle.std.proofs.Common.{ℕ, ◌≡◌, Bool, true, false, List, [], ◌∷◌, length, map, All, refl, sym, ap, subst, ◌∙◌}
use Rattle.std.specs.Prelude.{◌&&◌, filter, cond}
use Rattle.un_base.specs.declared.ids.TempId.{TempId}
use Rattle.un_prop.specs.declared.act.Temp.{Temp}
use Rattle.un_prop.specs.declared.act.UserOf.{UserOf}
use Rattle.un_rect.specs.declared.clobber.ClobberCall.{ClobberCall}
use Rattle.un_model.specs.declared.model.Arc.{Arc}
use Rattle.un_kinds.specs.Constraints.{Constraint, Clobber}
use Rattle.un_rooms.specs.Gathered.{temp_with, IsAmong}
use Rattle.un_sites.specs.Places.{Place, Definer}
use Rattle.un_ir.specs.Kinds.{is_call_kind}
use Rattle.un_sites.specs.Postings.{with_kind}
use Rattle.un_sites.specs.Rooms.{call_at, spared_by, users_of}
use Rattle.un_rooms.specs.declared.call_rows.CallSite.{CallSite}
use Rattle.un_rooms.proofs.Sparing.{but}

both_step : {A : Type 0} (a b : Bool) (x : A) (xs ys : List A) (p : A → Bool) → p x ≡ b → xs ≡ filter p ys
    → cond (a && b) (x ∷ xs) xs ≡ filter p (cond a (x ∷ ys) ys)
both_step true true x xs ys p e h = ap (λ zs. x ∷ zs) h ∙ sym (ap (λ (c : Bool). cond c (x ∷ filter p ys) (filter p ys)) e)
both_step true false x xs ys p e h = h ∙ sym (ap (λ (c : Bool). cond c (x ∷ filter p ys) (filter p ys)) e)
both_step false b x xs ys p e h = h

pub filter_both : {A : Type 0} (q p : A → Bool) (xs : List A) → filter (λ (x : A). q x && p x) xs ≡ filter p (filter q xs)
filter_both q p [] = refl
filter_both {A = A} q p (x ∷ xs) = both_step (q x) (p x) x (filter (λ (y : A). q y && p y) xs) (filter q xs) p refl (filter_both q p xs)

pub spared_is : (mask : ℕ) (arcs : List Arc) (ps : List Place) (t : TempId) (d e : Definer) (temp : Temp) (found : List ClobberCall)
    (us vs : List UserOf) (made : Constraint) → temp ≡ temp_with d us → d ≡ e → us ≡ vs → vs ≡ users_of ps t
    → found ≡ map (call_at arcs ps t d.place) (filter (but d.place.op) (with_kind is_call_kind ps)) → made ≡ Clobber mask temp found
    → made ≡ spared_by mask arcs ps t e
spared_is mask arcs ps t d e temp found us vs made h k l m f c =
    let calls = filter_both (λ (p : Place). is_call_kind p.it.kind) (but d.place.op) ps in
    c ∙ ap (λ (a : Temp). Clobber mask a found) (h ∙ ap (temp_with d) (l ∙ m))
    ∙ ap (Clobber mask (temp_with d (users_of ps t))) (f ∙ ap (map (call_at arcs ps t d.place)) (sym calls))
    ∙ ap (spared_by mask arcs ps t) k

-- the lists of each call's users are as long as those of all users
pub among_all : (first n : ℕ) (t : TempId) (calls : List CallSite) → IsAmong first n t → All (λ (s : CallSite). length s.users ≡ n) calls
    → All (λ (s : CallSite). IsAmong first (length s.users) t) calls
among_all first n t calls h long k d lt = subst (λ (m : ℕ). IsAmong first m t) (sym (long k d lt)) h
