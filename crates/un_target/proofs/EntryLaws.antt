-- What an object has under its keys, by the entries of the map that it is.
use Rattle.std.proofs.Common.{ℕ, ◌≡◌, List, [], ◌∷◌, Bool, true, false, Option, Some, None, String, Global, string_bytes, is_some}
use Rattle.std.proofs.Common.{refl, sym, ap, subst, ◌∙◌, true≢false, inl, inr, ◌⊎◌, length}
use Rattle.std.specs.Str.{bytes_eq}
use Rattle.std.specs.Prelude.{IsSome, IsSomeAnd, IsTrue, All, codes, nat_eq, ◌↔◌}
use Rattle.std.specs.Map.{keys_of}
use Rattle.std.proofs.lemmas.List.Elements.{All-nil, All-cons, All-head, All-tail}
use Rattle.std.proofs.lemmas.Bool.{eqb-true, eq-eqb}
use Rattle.std.proofs.lemmas.Slice.Eq.{bytes_eq-Decides}
use Rattle.serde_json.specs.Data.{Data, object, Items, Members}
use Rattle.serde_json.specs.Events.{items_len}
use Rattle.serde_json.specs.Find.{get_member, as_object, as_array}
use Rattle.serde_json.specs.View.{items_view, members_view}
use Rattle.serde_json.specs.declared.value.Value.{Value}
use Rattle.serde_json.proofs.Views.{Entry, member_here, member_later, items_len-items_view}
use Rattle.un_target.specs.Parts.{Parts, HasParts, IsFour, AreRight}

-- one text or two
same_or_not : (a b : List ℕ) (r : Bool) → bytes_eq a b ≡ r → (a ≡ b) ⊎ (a ≡ b → ⊥)
same_or_not a b true e = inl ((bytes_eq-Decides a b).0 e)
same_or_not a b false e = inr (λ h. true≢false (sym ((bytes_eq-Decides a b).1 h) ∙ e))

-- a key that is found among some entries is found where there is one more
found_more : (e : Entry) (es : List Entry) (key : List ℕ) → IsSome (get_member key (members_view es))
    → IsSome (get_member key (members_view (e ∷ es)))
found_more e es key h = elim (same_or_not key (string_bytes e.0) (bytes_eq key (string_bytes e.0)) refl) [
  | inl same ↦ ap is_some (member_here key e es same)
  | inr other ↦ ap is_some (member_later key e es other) ∙ h
]

-- what is so of each key is so of each that is found
found_so : (P : List ℕ → Type 0) (es : List Entry) → All (λ k. P (string_bytes k)) (keys_of es)
    → (key : List ℕ) → IsSome (get_member key (members_view es)) → P key
found_so P [] all key h = absurd (true≢false (sym h))
found_so P (e ∷ es) all key h = elim (same_or_not key (string_bytes e.0) (bytes_eq key (string_bytes e.0)) refl) [
  | inl same ↦ subst P (sym same) (All-head (λ k. P (string_bytes k)) e.0 (keys_of es) all)
  | inr other ↦ found_so P es (All-tail (λ k. P (string_bytes k)) e.0 (keys_of es) all) key
      (sym (ap is_some (member_later key e es other)) ∙ h)
]

-- what is so of each that is found is so of each key
so_found : (P : List ℕ → Type 0) (es : List Entry) → ((key : List ℕ) → IsSome (get_member key (members_view es)) → P key)
    → All (λ k. P (string_bytes k)) (keys_of es)
so_found P [] each = All-nil (λ (k : String Global). P (string_bytes k))
so_found P (e ∷ es) each = All-cons (λ k. P (string_bytes k)) e.0 (keys_of es)
    (each (string_bytes e.0) (ap is_some (member_here (string_bytes e.0) e es refl)))
    (so_found P es (λ key h. each key (found_more e es key h)))

-- a walk over the keys has come so far: what is so of the keys that are left is so of all, and the other way round
pub record IsAhead (P : List ℕ → Type 0) (es : List Entry) (rest : List (String Global)) : Type 0 where
  pub down : All (λ k. P (string_bytes k)) rest → All (λ k. P (string_bytes k)) (keys_of es)
  pub up : All (λ k. P (string_bytes k)) (keys_of es) → All (λ k. P (string_bytes k)) rest

pub all_ahead : (P : List ℕ → Type 0) (es : List Entry) (rest : List (String Global)) → rest ≡ keys_of es → IsAhead P es rest
all_ahead P es rest e = record {
  down = subst (λ (ks : List (String Global)). All (λ k. P (string_bytes k)) ks) e;
  up = subst (λ (ks : List (String Global)). All (λ k. P (string_bytes k)) ks) (sym e);
}

pub one_ahead : (P : List ℕ → Type 0) (es : List Entry) (rest left : List (String Global)) (k : String Global) → rest ≡ k ∷ left
    → IsAhead P es rest → P (string_bytes k) → IsAhead P es left
one_ahead P es rest left k e h now = record {
  down = λ a. h.down (subst (λ (ks : List (String Global)). All (λ q. P (string_bytes q)) ks) (sym e)
      (All-cons (λ q. P (string_bytes q)) k left now a));
  up = λ a. All-tail (λ q. P (string_bytes q)) k left (subst (λ (ks : List (String Global)). All (λ q. P (string_bytes q)) ks) e (h.up a));
}

-- no key is left
pub each_so : (P : List ℕ → Type 0) (es : List Entry) (rest : List (String Global)) → rest ≡ [] → IsAhead P es rest
    → (key : List ℕ) → IsSome (get_member key (members_view es)) → P key
each_so P es rest e h = found_so P es
    (h.down (subst (λ (ks : List (String Global)). All (λ q. P (string_bytes q)) ks) (sym e)
    (All-nil (λ (q : String Global). P (string_bytes q)))))

-- a key of which it is not so
pub not_each : (P : List ℕ → Type 0) (es : List Entry) (rest left : List (String Global)) (k : String Global) → rest ≡ k ∷ left
    → IsAhead P es rest → (P (string_bytes k) → ⊥) → ((key : List ℕ) → IsSome (get_member key (members_view es)) → P key) → ⊥
not_each P es rest left k e h against each =
    against (All-head (λ q. P (string_bytes q)) k left
    (subst (λ (ks : List (String Global)). All (λ q. P (string_bytes q)) ks) e (h.up (so_found P es each))))

pub an_object : (d : Data) (ms : Members) → as_object d ≡ Some ms → d ≡ object ms
an_object Data.null ms e = cc e
an_object (Data.boolean b) ms e = cc e
an_object (Data.number n) ms e = cc e
an_object (Data.string s) ms e = cc e
an_object (Data.array ds) ms e = cc e
an_object (object os) ms e = cc e

-- a value that is no object has no parts
pub no_parts : (d : Data) (p : Parts) → None ≡ as_object d → HasParts d p → ⊥
no_parts d p none h = let e : None ≡ Some h.entries = none ∙ ap as_object h.is in cc e

pub same_entries : (d : Data) (ms : Members) (p : Parts) → Some ms ≡ as_object d → (h : HasParts d p) → h.entries ≡ ms
same_entries d ms p e h = let f : Some ms ≡ Some h.entries = e ∙ ap as_object h.is in cc f

-- an object lacks a part
pub lacks : (d : Data) (ms : Members) (p : Parts) (key : List ℕ) (e : Data) → Some ms ≡ as_object d → (get_member key ms ≡ Some e → ⊥)
    → (h : HasParts d p) → get_member key h.entries ≡ Some e → ⊥
lacks d ms p key e is none h has = none (subst (λ (es : Members). get_member key es ≡ Some e) (same_entries d ms p is h) has)

object_once : (a b : Members) (o : Option Data) → o ≡ Some (object a) → o ≡ Some (object b) → a ≡ b
object_once a b o e f = let g : Some (object a) ≡ Some (object b) = sym e ∙ f in cc g

-- where keys or entries are not right, a value has no parts
pub not_right : (d : Data) (ms latency uses : Members) (p : Parts) → Some ms ≡ as_object d
    → get_member (codes "latency") ms ≡ Some (object latency) → get_member (codes "uses") ms ≡ Some (object uses)
    → (AreRight ms latency uses → ⊥) → HasParts d p → ⊥
not_right d ms latency uses p is l u against h = against (same_right h.entries ms p.latency latency p.uses uses same
    (object_once p.latency latency (get_member (codes "latency") ms) (along (codes "latency") (object p.latency) h.latency) l)
    (object_once p.uses uses (get_member (codes "uses") ms) (along (codes "uses") (object p.uses) h.uses) u) h.right)
  where
    same : h.entries ≡ ms
    same = same_entries d ms p is h

    along : (key : List ℕ) (e : Data) → get_member key h.entries ≡ Some e → get_member key ms ≡ Some e
    along key e has = subst (λ (es : Members). get_member key es ≡ Some e) same has

    same_right : (a b x y u v : Members) → a ≡ b → x ≡ y → u ≡ v → AreRight a x u → AreRight b y v
    same_right a b x y u v e f g r = subst (λ (es : Members). AreRight es y v) e
        (subst (λ (xs : Members). AreRight a xs v) f (subst (λ (us : Members). AreRight a x us) g r))

-- a list of items, and whether there are four
pub counts_four : (d : Data) (vs : List Value) (n : ℕ) → Some (items_view vs) ≡ as_array d → n ≡ length vs → IsTrue (nat_eq n 4) ↔ IsFour d
counts_four d vs n e is = subst (λ (o : Option Items). IsTrue (nat_eq n 4) ↔ IsSomeAnd o (λ items. items_len items ≡ 4)) e
    (λ t. items_len-items_view vs ∙ sym is ∙ eqb-true n 4 t, λ f. eq-eqb n 4 (is ∙ sym (items_len-items_view vs) ∙ f))

pub no_list : (d : Data) → None ≡ as_array d → IsFour d → ⊥
no_list d e h = subst (λ (o : Option Items). IsSomeAnd o (λ items. items_len items ≡ 4)) (sym e) h
