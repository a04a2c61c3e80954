-- What issues after an operation, by marks of what waits for it.
use Rattle.std.proofs.Common.{ℕ, ◌≡◌, Bool, List, [], ◌∷◌, map, refl, ap, ◌∙◌}
use Rattle.std.specs.Prelude.{◌||◌, ◌&&◌, filter, if◌then◌else◌}
use Rattle.std.specs.List.{list_any}
use Rattle.un_domains.specs.Sets.{has}
use Rattle.un_ir.specs.Kinds.{ends_block, is_source}
use Rattle.un_ir.specs.Linear.{is_out}
use Rattle.un_model.specs.declared.model.Arc.{Arc}
use Rattle.un_rooms.specs.Reach.{mark_at, Marks}
use Rattle.un_sites.specs.Crossings.{has_follower, is_after}
use Rattle.un_sites.specs.Places.{Place}
use Rattle.un_sites.specs.Rooms.{waiting}
use Rattle.un_sites.specs.Sites.{place_of}
use Rattle.un_sites.specs.declared.sites.Spot.{Spot}
use Rattle.un_rooms.proofs.CallWalks.{any_mapped, filter_alike}

any_alike : {A : Type 0} (p q : A → Bool) (xs : List A) → ((x : A) → p x ≡ q x) → list_any p xs ≡ list_any q xs
any_alike p q [] same = refl
any_alike p q (x ∷ xs) same = ap (λ (b : Bool). b || list_any p xs) (same x) ∙ ap (λ (b : Bool). q x || b) (any_alike p q xs same)

pub after_is : (low : ℕ) (marks first second : List Bool) (arcs : List Arc) (o : Spot) (spots : List Spot) (b : Bool) (found : List Place)
    → first ≡ marks → second ≡ marks → Marks low marks (waiting arcs o.op)
    → b ≡ list_any (λ (p : Spot). is_source (place_of p).it.kind && mark_at low first (place_of p).op) spots
    → found ≡ filter (λ (p : Place). (if b then ends_block p.it.kind else is_out p.it.kind) || mark_at low second p.op) (map place_of spots)
    → found ≡ filter (is_after arcs (map place_of spots) (place_of o)) (map place_of spots)
after_is low marks first second arcs o spots b found same again waits follows made =
    let followed : b ≡ has_follower arcs (map place_of spots) (place_of o) =
    follows
    ∙ any_alike (λ (p : Spot). is_source (place_of p).it.kind && mark_at low first (place_of p).op)
    (λ (p : Spot). is_source (place_of p).it.kind && has (waiting arcs o.op) (place_of p).op) spots
    (λ p. ap (λ (t : Bool). is_source (place_of p).it.kind && t)
    (ap (λ (ms : List Bool). mark_at low ms (place_of p).op) same ∙ waits (place_of p).op))
    ∙ any_mapped (λ (p : Place). is_source p.it.kind && has (waiting arcs o.op) p.op) place_of spots in
    made ∙ filter_alike _ (is_after arcs (map place_of spots) (place_of o)) (map place_of spots)
    (λ p. ap (λ (t : Bool). (if t then ends_block p.it.kind else is_out p.it.kind) || mark_at low second p.op) followed
    ∙ ap (λ (t : Bool). (if has_follower arcs (map place_of spots) (place_of o) then ends_block p.it.kind else is_out p.it.kind) || t)
    (ap (λ (ms : List Bool). mark_at low ms p.op) again ∙ waits p.op))
