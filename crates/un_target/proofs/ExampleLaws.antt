-- Texts of a table and of each cause.
use Rattle.std.proofs.Common.{ℕ, ◌≡◌, ◌<◌, ◌≤◌, ◌+◌, ◌-◌, List, [], ◌∷◌, get_or, true, false, Option, Some, None, refl, sym, ap, subst}
use Rattle.std.proofs.Common.{◌∙◌, arith, lit<}
use Rattle.std.proofs.Common.{Ordering, Less, Equal, Greater, true≢false, inl, inr, nat_cmp, is_eq, Contains}
use Rattle.std.specs.Prelude.{nat_eq, codes, slice_index, IsSome, IfSome, IsSomeAnd}
use Rattle.std.specs.Cmp.Lexicographic.{slice_cmp}
use Rattle.std.specs.Ordering.{match_ordering}
use Rattle.std.proofs.lemmas.Bool.{agree_below_at, eqb-true}
use Rattle.std.proofs.lemmas.Bool.Decides.{nat_tests}
use Rattle.std.proofs.lemmas.List.Elements.{All-weaker, All-contains_itself}
use Rattle.std.proofs.lemmas.Map.Text.{is_eq-slice_cmp}
use Rattle.std.proofs.lemmas.Slice.Eq.{bytes_eq-Decides}
use Rattle.un_isa.specs.declared.op.Op.{Op}
use Rattle.un_isa.specs.declared.op.Op.TheVariants.{Load}
use Rattle.un_isa.specs.declared.table.Needs.{Needs}
use Rattle.un_isa.specs.Facts.{class_of}
use Rattle.un_isa.specs.Fit.{AreFitNeeds, may_be_saved}
use Rattle.un_isa.specs.Hexagon.{HEXAGON, needs_by, is_saved}
use Rattle.un_isa.specs.Tables.{number_of, latency_of}
use Rattle.un_isa.proofs.HexagonTable.{hexagon_entries, hexagon_fit, fresh_fit}
use Rattle.serde_json.specs.Data.{Data, unsigned, boolean, number, array, object, no_items, Members, no_members, member}
use Rattle.serde_json.specs.Find.{get_member}
use Rattle.serde_json.proofs.OnLiterals.{serde_json_on_literals}
use Rattle.un_target.specs.declared.error.TableCause.{TableCause}
use Rattle.un_target.specs.declared.error.TableCause.TheVariants.{NotJson, BadShape, BadLatency, BadUse, BadSaved}
use Rattle.un_target.specs.Examples.{hexagon_text, bad_text}
use Rattle.un_target.specs.Latencies.{HasLatency, AreLatencies}
use Rattle.un_target.specs.Names.{name_of, IsNamed}
use Rattle.un_target.specs.Parts.{Parts, IsKey, AreNamed, IsFour, HasParts}
use Rattle.un_target.specs.Saved.{numbers, AreSaved}
use Rattle.un_target.specs.Tables.{IsTableText, IsBadTable}
use Rattle.un_target.specs.Texts.{IsJson}
use Rattle.un_target.specs.Uses.{four, HasNeeds, IsUse, AreUses}
use Rattle.un_target.proofs.FitLaws.{saved_from, saved_to, is_saved_within}
use Rattle.un_target.proofs.SavedLaws.{numbers_once}
use Rattle.un_target.proofs.UseLaws.{none_uses}

-- ---- the keys that an object has

same_text : (o : Ordering) (k l : List ℕ) → slice_cmp nat_cmp k l ≡ o → is_eq o ≡ true → k ≡ l
same_text o k l e is = (bytes_eq-Decides k l).0 (sym (is_eq-slice_cmp k l) ∙ ap is_eq e ∙ is)

-- what is so of an object's first key, and of those that are found behind it, is so of each that is found
first_key : (P : List ℕ → Type 0) (k l : List ℕ) (d : Data) (ms : Members) → P l → (IsSome (get_member k ms) → P k)
    → IsSome (get_member k (member l d ms)) → P k
first_key P k l d ms now later = by (slice_cmp nat_cmp k l) refl
  where
    by : (o : Ordering) → slice_cmp nat_cmp k l ≡ o → IsSome (match_ordering o (get_member k ms) (Some d) (get_member k ms)) → P k
    by Less e h = later h
    by Equal e h = subst P (sym (same_text Equal k l e refl)) now
    by Greater e h = later h

no_key : (P : List ℕ → Type 0) (k : List ℕ) → IsSome (get_member k no_members) → P k
no_key P k h = absurd (true≢false (sym h))

-- ---- the object of parts

abbrev members_with : Parts → Members
members_with p = member (codes "fresh") (boolean p.fresh) (member (codes "latency") (object p.latency)
    (member (codes "saved") (array p.saved) (member (codes "uses") (object p.uses) no_members)))

four_keys : (p : Parts) (k : List ℕ) → IsSome (get_member k (members_with p)) → IsKey k
four_keys p k =
    let uses : Members = member (codes "uses") (object p.uses) no_members in
    let saved : Members = member (codes "saved") (array p.saved) uses in
    let latency : Members = member (codes "latency") (object p.latency) saved in
    first_key IsKey k (codes "fresh") (boolean p.fresh) latency (inr (inr (inr refl)))
    (first_key IsKey k (codes "latency") (object p.latency) saved (inl refl)
    (first_key IsKey k (codes "saved") (array p.saved) uses (inr (inr (inl refl)))
    (first_key IsKey k (codes "uses") (object p.uses) no_members (inr (inl refl)) (no_key IsKey k))))

has_parts : (p : Parts) → AreNamed p.latency → AreNamed p.uses → ((op : Op) → IfSome (get_member (name_of op) p.uses) IsFour)
    → HasParts (object (members_with p)) p
has_parts p latencies needs fours = record {
  entries = members_with p;
  is = refl;
  latency = refl;
  uses = refl;
  saved = refl;
  fresh = refl;
  right = record { no_others = four_keys p; latencies = latencies; needs = needs; fours = fours };
}

-- an object of no members, and one of a member for Load
no_names : AreNamed no_members
no_names = no_key IsNamed

abbrev at_load : Data → Members
at_load d = member (codes "Load") d no_members

load_alone : (d : Data) → AreNamed (at_load d)
load_alone d k = first_key IsNamed k (codes "Load") d no_members (Load, refl) (no_key IsNamed k)

load_four : (d : Data) → IsFour d → (op : Op) → IfSome (get_member (name_of op) (at_load d)) IsFour
load_four d four op = by (slice_cmp nat_cmp (name_of op) (codes "Load"))
  where
    by : (o : Ordering) → IfSome (match_ordering o None (Some d) None) IsFour
    by Less = tt
    by Equal = four
    by Greater = tt

-- ---- what stands where nothing is named

usual_latencies : (p : Parts) → p.latency ≡ no_members → AreLatencies p HEXAGON.lat
usual_latencies p none = record {
  count = refl;
  each = λ op. record {
    entered = subst (λ (ms : Members). HasLatency ms op (latency_of HEXAGON op)) (sym none) (hexagon_entries.latencies op);
    fit = hexagon_fit.latencies op;
    quick_compare = λ fresh is. fresh_fit.quick_compares refl op is;
  };
}

usual_uses : (p : Parts) → p.uses ≡ no_members → AreUses p HEXAGON.uses
usual_uses p none = record {
  count = refl;
  each = λ op. subst (λ (o : Option Needs). IsSomeAnd o (IsUse p op)) (sym (hexagon_entries.needs op)) (here op);
}
  where
    here : (op : Op) → IsUse p op (needs_by (class_of op))
    here op = record {
      entered = subst (λ (ms : Members). HasNeeds ms op (needs_by (class_of op))) (sym none) refl;
      fit = subst (λ (o : Option Needs). IsSomeAnd o (AreFitNeeds (needs_by (class_of op)))) (hexagon_entries.needs op)
          (hexagon_fit.needs op);
    }

-- r16 to r27
abbrev kept : List ℕ
kept = 16 ∷ 17 ∷ 18 ∷ 19 ∷ 20 ∷ 21 ∷ 22 ∷ 23 ∷ 24 ∷ 25 ∷ 26 ∷ 27 ∷ []

kept_at : (k d : ℕ) → k < 12 → get_or kept k d ≡ k + 16
kept_at k d lt = eqb-true (get_or kept k d) (k + 16) (agree_below_at (λ i. nat_eq (get_or kept i d) (i + 16)) (λ i. true) 12 k refl lt)

kept_has : (r : ℕ) → is_saved r ≡ true → Contains kept r
kept_has r is = (
  r - 16,
  omega (arith, saved_from r is, saved_to r is),
  kept_at (r - 16) r (omega (arith, saved_from r is, saved_to r is)) ∙ omega (arith, saved_from r is),
)

has_kept : (r : ℕ) → Contains kept r → is_saved r ≡ true
has_kept r h = is_saved_within r (omega (arith, h.2, kept_at h.0 r h.1)) (omega (arith, h.1, h.2, kept_at h.0 r h.1))

may_be : (r : ℕ) → is_saved r ≡ true → may_be_saved r ≡ true
may_be r is = grind (arith, nat_tests, saved_from r is, saved_to r is)

kept_saved : AreSaved (numbers kept) HEXAGON.saved
kept_saved = record {
  registers = kept;
  listed = refl;
  rising = λ k lt. omega (arith, lt, kept_at k 0 (omega (arith, lt)), kept_at (k + 1) 0 lt);
  kept = kept_has;
  allowed = All-weaker (Contains kept) (λ r. may_be_saved r ≡ true) (λ r h. may_be r (has_kept r h)) kept (All-contains_itself kept);
  masked = record {
    bits = λ r lt. (λ has. kept_has r (sym (hexagon_entries.saved r lt) ∙ has), λ h. hexagon_entries.saved r lt ∙ has_kept r h);
    small = lit< tt;
  };
}

-- ---- the text of HEXAGON

abbrev hexagon_parts : Parts
hexagon_parts = record { latency = no_members; uses = no_members; saved = numbers kept; fresh = false }

hexagon_json : IsJson hexagon_text (object (members_with hexagon_parts))
unfolding serde_json_on_literals
hexagon_json = record { utf8 = (hexagon_text, (refl, refl)); value = refl }

pub hexagon_read : IsTableText hexagon_text HEXAGON
hexagon_read = record {
  parts = hexagon_parts;
  read = record {
    json = object (members_with hexagon_parts);
    is = hexagon_json;
    parts = has_parts hexagon_parts no_names no_names (λ op. tt);
  };
  table = record {
    latencies = usual_latencies hexagon_parts refl;
    uses = usual_uses hexagon_parts refl;
    saved = kept_saved;
    clobbered = hexagon_fit.clobbered;
    no_others = lit< tt;
    args = refl;
    result = refl;
    fresh = refl;
  };
}

-- ---- texts of causes

not_json : (d : Data) → IsJson (bad_text NotJson) d → ⊥
unfolding serde_json_on_literals
not_json d h = let e : None ≡ Some d = h.value in cc e

no_shape : IsJson (bad_text BadShape) (object no_members)
unfolding serde_json_on_literals
no_shape = record { utf8 = (bad_text BadShape, (refl, refl)); value = refl }

no_fresh : (p : Parts) → HasParts (object no_members) p → ⊥
no_fresh p h =
    let e : object no_members ≡ object h.entries = h.is in
    let same : no_members ≡ h.entries = cc e in
    let f : None ≡ Some (boolean p.fresh) = ap (get_member (codes "fresh")) same ∙ h.fresh in
    cc f

abbrev of_zeros : Data
of_zeros = array (four (record { mem = 0; store = 0; xc = 0; control = 0 }))

abbrev bad_latency : Parts
bad_latency = record { latency = at_load (number (unsigned 3)); uses = at_load of_zeros; saved = no_items; fresh = true }

abbrev bad_use : Parts
bad_use = record { latency = no_members; uses = at_load of_zeros; saved = no_items; fresh = true }

abbrev bad_saved : Parts
bad_saved = record { latency = no_members; uses = no_members; saved = no_items; fresh = true }

latency_json : IsJson (bad_text BadLatency) (object (members_with bad_latency))
unfolding serde_json_on_literals
latency_json = record { utf8 = (bad_text BadLatency, (refl, refl)); value = refl }

use_json : IsJson (bad_text BadUse) (object (members_with bad_use))
unfolding serde_json_on_literals
use_json = record { utf8 = (bad_text BadUse, (refl, refl)); value = refl }

saved_json : IsJson (bad_text BadSaved) (object (members_with bad_saved))
unfolding serde_json_on_literals
saved_json = record { utf8 = (bad_text BadSaved, (refl, refl)); value = refl }

three : (n : ℕ) → number (unsigned 3) ≡ number (unsigned n) → n ≤ 2 → ⊥
three n e high = let same : 3 ≡ n = cc e in absurd (omega (arith, same, high))

no_latencies : (lat : List ℕ) → AreLatencies bad_latency lat → ⊥
no_latencies lat h = three (slice_index lat (number_of Load)) (h.each Load).entered (h.each Load).fit.1

no_use : (p : Parts) → p.uses ≡ at_load of_zeros → (n : Needs) → IsUse p Load n → ⊥
no_use p is n h =
    let e : of_zeros ≡ array (four n) = subst (λ (ms : Members). HasNeeds ms Load n) is h.entered in
    let zero : 0 ≡ n.mem = cc e in
    absurd (omega (arith, zero, h.fit.mem.0))

no_registers : (mask : ℕ) → AreSaved no_items mask → ⊥
no_registers mask h =
    let none : [] ≡ h.registers = numbers_once [] h.registers h.listed in
    let has : Contains [] 16 = subst (λ (rs : List ℕ). Contains rs 16) (sym none) (h.kept 16 refl) in
    absurd (omega (arith, has.1))

pub causes_read : (cause : TableCause) → IsBadTable (bad_text cause) cause
causes_read NotJson = not_json
causes_read BadShape = (object no_members, no_shape, no_fresh)
causes_read BadLatency = (
  bad_latency,
  record {
    json = object (members_with bad_latency);
    is = latency_json;
    parts = has_parts bad_latency (load_alone (number (unsigned 3))) (load_alone of_zeros) (load_four of_zeros refl);
  },
  no_latencies,
)
causes_read BadUse = (
  bad_use,
  record {
    json = object (members_with bad_use);
    is = use_json;
    parts = has_parts bad_use no_names (load_alone of_zeros) (load_four of_zeros refl);
  },
  (HEXAGON.lat, usual_latencies bad_use refl, none_uses bad_use Load (no_use bad_use refl)),
)
causes_read BadSaved = (
  bad_saved,
  record { json = object (members_with bad_saved); is = saved_json; parts = has_parts bad_saved no_names no_names (λ op. tt) },
  (HEXAGON.lat, usual_latencies bad_saved refl, HEXAGON.uses, usual_uses bad_saved refl, no_registers),
)
