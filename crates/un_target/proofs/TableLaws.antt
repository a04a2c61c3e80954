-- Tables of texts fit, and a text has one table or one cause.
use Rattle.std.proofs.Common.{ℕ, ◌≡◌, ◌<◌, List, length, get_or, slice_get, Bool, true, false, Option, Some, None, MatchOption}
use Rattle.std.proofs.Common.{IsSomeAnd, refl, sym, ap, subst}
use Rattle.std.proofs.Common.{◌∙◌, arith, Contains, ◌↔◌, ◌&&◌, not, ◌^◌}
use Rattle.std.specs.Prelude.{nat_eq, codes, IsUtf8}
use Rattle.std.specs.Int.{bit_at}
use Rattle.std.proofs.lemmas.Bool.{agree_below_at, eqb-true}
use Rattle.std.proofs.lemmas.Bool.Decides.{nat_tests, same_from_decides}
use Rattle.std.proofs.lemmas.Grind.{same_number_lists}
use Rattle.std.proofs.lemmas.List.{same_lists}
use Rattle.std.proofs.lemmas.Option.{slice_get-get_or}
use Rattle.std.proofs.lemmas.List.Elements.{All-contains}
use Rattle.std.proofs.lemmas.Nat.Bits.{same_from_bits_below, bit_at-lt}
use Rattle.un_isa.specs.declared.op.Op.{Op}
use Rattle.un_isa.specs.declared.op.TheConstants.{OPERATIONS}
use Rattle.un_isa.specs.declared.reg.TheConstants.{REGISTERS}
use Rattle.un_isa.specs.declared.table.Needs.{Needs}
use Rattle.un_isa.specs.declared.table.Table.{Table}
use Rattle.un_isa.specs.Facts.{all_ops, latency_by, class_of}
use Rattle.un_isa.specs.Fit.{IsFit, AreFitNeeds, may_be_saved}
use Rattle.un_isa.specs.Hexagon.{needs_by}
use Rattle.un_isa.specs.Starts.{is_clobbered}
use Rattle.un_isa.specs.Tables.{number_of, in_mask}
use Rattle.serde_json.specs.Data.{Data, array, object, boolean, Items, Members}
use Rattle.serde_json.specs.Find.{get_member}
use Rattle.serde_json.specs.Read.{read}
use Rattle.un_target.specs.declared.error.TableCause.{TableCause}
use Rattle.un_target.specs.declared.error.TableCause.TheVariants.{NotJson, BadShape, BadLatency, BadUse, BadSaved}
use Rattle.un_target.specs.Latencies.{AreLatencies}
use Rattle.un_target.specs.Names.{name_of}
use Rattle.un_target.specs.Parts.{Parts, HasParts}
use Rattle.un_target.specs.Saved.{AreSaved}
use Rattle.un_target.specs.Tables.{IsTableOf, IsText, IsTableText, IsBadOf, IsBadTable}
use Rattle.un_target.specs.Texts.{IsJson}
use Rattle.un_target.specs.Uses.{four, IsUse, AreUses}
use Rattle.un_target.proofs.LatencyLaws.{latency_once}
use Rattle.un_target.proofs.SavedLaws.{numbers_once}

-- ---- tables of texts fit

fit_of_use : (p : Parts) (op : Op) (o : Option Needs) → IsSomeAnd o (IsUse p op) → IsSomeAnd o (AreFitNeeds (needs_by (class_of op)))
fit_of_use p op None h = h
fit_of_use p op (Some n) h = h.fit

pub table_fits : (p : Parts) (t : Table) → IsTableOf p t → IsFit t
table_fits p t h = record {
  latencies = λ op. (h.latencies.each op).fit;
  needs = λ op. fit_of_use p op (slice_get t.uses (number_of op)) (h.uses.each op);
  args = h.args;
  result = h.result;
  kept = λ r small is. (h.saved.masked.bits r small).1 (h.saved.kept r is);
  saved = λ r small has. All-contains (λ q. may_be_saved q ≡ true) h.saved.registers r h.saved.allowed
      ((h.saved.masked.bits r small).0 has);
  clobbered = h.clobbered;
  no_others = (h.no_others, h.saved.masked.small);
  quick_compares = λ fresh op is. (h.latencies.each op).quick_compare (sym h.fresh ∙ fresh) is;
}

-- ---- a value has one list of parts

pub parts_once : (d : Data) (p q : Parts) → HasParts d p → HasParts d q → p ≡ q
parts_once d p q h k =
    let latency : Some (object p.latency) ≡ Some (object q.latency) = along (codes "latency") (object p.latency) h.latency k.latency in
    let uses : Some (object p.uses) ≡ Some (object q.uses) = along (codes "uses") (object p.uses) h.uses k.uses in
    let saved : Some (array p.saved) ≡ Some (array q.saved) = along (codes "saved") (array p.saved) h.saved k.saved in
    let fresh : Some (boolean p.fresh) ≡ Some (boolean q.fresh) = along (codes "fresh") (boolean p.fresh) h.fresh k.fresh in
    same_parts p q (cc latency) (cc uses) (cc saved) (cc fresh)
  where
    same : h.entries ≡ k.entries
    same = let e : object h.entries ≡ object k.entries = sym h.is ∙ k.is in cc e

    along : (key : List ℕ) (e : Data) → get_member key h.entries ≡ Some e → {f : Data} → get_member key k.entries ≡ Some f → Some e ≡ Some f
    along key e has other = sym (subst (λ (es : Members). get_member key es ≡ Some e) same has) ∙ other

    same_parts : (p q : Parts) → p.latency ≡ q.latency → p.uses ≡ q.uses → p.saved ≡ q.saved → p.fresh ≡ q.fresh → p ≡ q
    same_parts p q a b c d =
        let with_latency : Members → Parts = λ x. record { latency = x; uses = p.uses; saved = p.saved; fresh = p.fresh } in
        let with_uses : Members → Parts = λ x. record { latency = q.latency; uses = x; saved = p.saved; fresh = p.fresh } in
        let with_saved : Items → Parts = λ x. record { latency = q.latency; uses = q.uses; saved = x; fresh = p.fresh } in
        let with_fresh : Bool → Parts = λ x. record { latency = q.latency; uses = q.uses; saved = q.saved; fresh = x } in
        ap with_latency a ∙ ap with_uses b ∙ ap with_saved c ∙ ap with_fresh d

pub text_once : (text : List ℕ) (p q : Parts) → IsText text p → IsText text q → p ≡ q
text_once text p q h k =
    let e : Some h.json ≡ Some k.json = sym h.is.value ∙ k.is.value in
    let same : h.json ≡ k.json = cc e in
    parts_once k.json p q (subst (λ (d : Data). HasParts d p) same h.parts) k.parts

-- ---- parts have one list of latencies, of needs, one mask

-- each number below the count of operations is that of one
abbrev numbered_in : Option Op → ℕ → Bool
numbered_in None i = false
numbered_in (Some op) i = nat_eq (number_of op) i

op_at : (i : ℕ) → i < OPERATIONS → (op : Op) × (number_of op ≡ i)
op_at i h = by (slice_get all_ops i) (agree_below_at (λ n. numbered_in (slice_get all_ops n) n) (λ n. true) OPERATIONS i refl h)
  where
    by : (o : Option Op) → numbered_in o i ≡ true → (op : Op) × (number_of op ≡ i)
    by None e = absurd (cc e)
    by (Some op) e = (op, eqb-true (number_of op) i e)

pub latencies_once : (p : Parts) (a b : List ℕ) → AreLatencies p a → AreLatencies p b → a ≡ b
latencies_once p a b h k = same_number_lists a b (h.count ∙ sym k.count) each
  where
    each : (i : ℕ) → i < length a → get_or a i 0 ≡ get_or b i 0
    each i lt =
        let found = op_at i (omega (arith, lt, h.count)) in
        subst (λ (n : ℕ). get_or a n 0 ≡ get_or b n 0) found.1 (latency_once (get_member (name_of found.0) p.latency) (latency_by found.0)
        (get_or a (number_of found.0) 0) (get_or b (number_of found.0) 0) (h.each found.0).entered (k.each found.0).entered)

same_needs : (m n : Needs) → m.mem ≡ n.mem → m.store ≡ n.store → m.xc ≡ n.xc → m.control ≡ n.control → m ≡ n
same_needs m n a b c d =
    let with_mem : ℕ → Needs = λ x. record { mem = x; store = m.store; xc = m.xc; control = m.control } in
    let with_store : ℕ → Needs = λ x. record { mem = n.mem; store = x; xc = m.xc; control = m.control } in
    let with_xc : ℕ → Needs = λ x. record { mem = n.mem; store = n.store; xc = x; control = m.control } in
    let with_control : ℕ → Needs = λ x. record { mem = n.mem; store = n.store; xc = n.xc; control = x } in
    ap with_mem a ∙ ap with_store b ∙ ap with_xc c ∙ ap with_control d

four_once : (m n : Needs) → array (four m) ≡ array (four n) → m ≡ n
four_once m n e = same_needs m n (cc e) (cc e) (cc e) (cc e)

needs_once : (o : Option Data) (l m n : Needs) → MatchOption o (m ≡ l) (λ d. d ≡ array (four m))
    → MatchOption o (n ≡ l) (λ d. d ≡ array (four n)) → m ≡ n
needs_once None l m n h k = h ∙ sym k
needs_once (Some d) l m n h k = four_once m n (sym h ∙ k)

use_once : (p : Parts) (op : Op) (o r : Option Needs) → IsSomeAnd o (IsUse p op) → IsSomeAnd r (IsUse p op) → o ≡ r
use_once p op None r h k = absurd h
use_once p op (Some m) None h k = absurd k
use_once p op (Some m) (Some n) h k = ap Some (needs_once (get_member (name_of op) p.uses) (needs_by (class_of op)) m n h.entered k.entered)

pub uses_once : (p : Parts) (a b : List Needs) → AreUses p a → AreUses p b → a ≡ b
uses_once p a b h k = same_lists a b (h.count ∙ sym k.count) each
  where
    each : (i : ℕ) (d : Needs) → i < length a → get_or a i d ≡ get_or b i d
    each i d lt =
        let found = op_at i (omega (arith, lt, h.count)) in
        let same : slice_get a i ≡ slice_get b i = subst (λ (n : ℕ). slice_get a n ≡ slice_get b n) found.1
        (use_once p found.0 (slice_get a (number_of found.0)) (slice_get b (number_of found.0)) (h.each found.0) (k.each found.0)) in
        let f : Some (get_or a i d) ≡ Some (get_or b i d) = sym (slice_get-get_or a i d lt) ∙ same
        ∙ slice_get-get_or b i d (omega (arith, lt, h.count, k.count)) in
        cc f

bit_of : (m n : ℕ) → m < 2 → n < 2 → nat_eq m 1 ≡ nat_eq n 1 → m ≡ n
bit_of m n a b e = grind (arith, nat_tests)

-- two masks of the same registers are one
same_masks : (a b : ℕ) → a < 2 ^ REGISTERS → b < 2 ^ REGISTERS → ((r : ℕ) → r < REGISTERS → in_mask a r ≡ in_mask b r) → a ≡ b
same_masks a b small_a small_b each = same_from_bits_below REGISTERS a b small_a small_b
    (λ i lt. bit_of (bit_at a i) (bit_at b i) (bit_at-lt a i) (bit_at-lt b i) (each i lt))

pub saved_once : (p : Parts) (a b : ℕ) → AreSaved p.saved a → AreSaved p.saved b → a ≡ b
saved_once p a b h k = same_masks a b h.masked.small k.masked.small each
  where
    same : h.registers ≡ k.registers
    same = numbers_once h.registers k.registers (sym h.listed ∙ k.listed)

    each : (r : ℕ) → r < REGISTERS → in_mask a r ≡ in_mask b r
    each r lt = same_from_decides (in_mask a r) (in_mask b r) (h.masked.bits r lt)
        (subst (λ (rs : List ℕ). (in_mask b r ≡ true) ↔ Contains rs r) (sym same) (k.masked.bits r lt))

same_tables : (t u : Table) → t.lat ≡ u.lat → t.uses ≡ u.uses → t.clobbered ≡ u.clobbered → t.args ≡ u.args → t.result ≡ u.result
    → t.saved ≡ u.saved → t.fresh ≡ u.fresh → t ≡ u
same_tables t u a b c d e f g =
    let with_lat : List ℕ → Table = λ x. record t { lat = x } in
    let t1 : Table = record t { lat = u.lat } in
    let with_uses : List Needs → Table = λ x. record t1 { uses = x } in
    let t2 : Table = record t1 { uses = u.uses } in
    let with_clobbered : ℕ → Table = λ x. record t2 { clobbered = x } in
    let t3 : Table = record t2 { clobbered = u.clobbered } in
    let with_args : List ℕ → Table = λ x. record t3 { args = x } in
    let t4 : Table = record t3 { args = u.args } in
    let with_result : ℕ → Table = λ x. record t4 { result = x } in
    let t5 : Table = record t4 { result = u.result } in
    let with_saved : ℕ → Table = λ x. record t5 { saved = x } in
    let t6 : Table = record t5 { saved = u.saved } in
    let with_fresh : Bool → Table = λ x. record t6 { fresh = x } in
    ap with_lat a ∙ ap with_uses b ∙ ap with_clobbered c ∙ ap with_args d ∙ ap with_result e ∙ ap with_saved f ∙ ap with_fresh g

pub table_of_once : (p : Parts) (t u : Table) → IsTableOf p t → IsTableOf p u → t ≡ u
table_of_once p t u h k = same_tables t u (latencies_once p t.lat u.lat h.latencies k.latencies) (uses_once p t.uses u.uses h.uses k.uses)
    clobbered (h.args ∙ sym k.args) (h.result ∙ sym k.result) saved (h.fresh ∙ sym k.fresh)
  where
    saved : t.saved ≡ u.saved
    saved = saved_once p t.saved u.saved h.saved k.saved

    clobbered : t.clobbered ≡ u.clobbered
    clobbered = same_masks t.clobbered u.clobbered h.no_others k.no_others
        (λ r lt. h.clobbered r lt ∙ ap (λ (m : ℕ). is_clobbered r && not (in_mask m r)) saved ∙ sym (k.clobbered r lt))

-- ---- one table or one cause

pub one_table : (text : List ℕ) (t u : Table) → IsTableText text t → IsTableText text u → t ≡ u
one_table text t u h k = table_of_once k.parts t u
    (subst (λ (p : Parts). IsTableOf p t) (text_once text h.parts k.parts h.read k.read) h.table) k.table

-- a value that has the parts does not lack them
no_shape : (text : List ℕ) (p : Parts) → IsText text p → IsBadTable text BadShape → ⊥
no_shape text p h bad =
    let e : Some h.json ≡ Some bad.0 = sym h.is.value ∙ bad.1.value in
    let same : h.json ≡ bad.0 = cc e in
    bad.2 p (subst (λ (d : Data). HasParts d p) same h.parts)

pub not_both : (text : List ℕ) (t : Table) (cause : TableCause) → IsTableText text t → IsBadTable text cause → ⊥
not_both text t NotJson h bad = bad h.read.json h.read.is
not_both text t BadShape h bad = no_shape text h.parts h.read bad
not_both text t BadLatency h bad = bad.2 t.lat
    (subst (λ (p : Parts). AreLatencies p t.lat) (text_once text h.parts bad.0 h.read bad.1) h.table.latencies)
not_both text t BadUse h bad = bad.2.2 t.uses
    (subst (λ (p : Parts). AreUses p t.uses) (text_once text h.parts bad.0 h.read bad.1) h.table.uses)
not_both text t BadSaved h bad =
    bad.2.4 t.saved (subst (λ (p : Parts). AreSaved p.saved t.saved) (text_once text h.parts bad.0 h.read bad.1) h.table.saved)

no_latencies : (text : List ℕ) (p : Parts) (lat : List ℕ) → IsText text p → AreLatencies p lat → IsBadTable text BadLatency → ⊥
no_latencies text p lat h good bad = bad.2 lat (subst (λ (q : Parts). AreLatencies q lat) (text_once text p bad.0 h bad.1) good)

no_uses : (text : List ℕ) (p : Parts) (uses : List Needs) → IsText text p → AreUses p uses → IsBadTable text BadUse → ⊥
no_uses text p uses h good bad = bad.2.2 uses (subst (λ (q : Parts). AreUses q uses) (text_once text p bad.0 h bad.1) good)

pub one_cause : (text : List ℕ) (a b : TableCause) → IsBadTable text a → IsBadTable text b → a ≡ b
one_cause text NotJson NotJson h k = refl
one_cause text NotJson BadShape h k = absurd (h k.0 k.1)
one_cause text NotJson BadLatency h k = absurd (h k.1.json k.1.is)
one_cause text NotJson BadUse h k = absurd (h k.1.json k.1.is)
one_cause text NotJson BadSaved h k = absurd (h k.1.json k.1.is)
one_cause text BadShape NotJson h k = absurd (k h.0 h.1)
one_cause text BadShape BadShape h k = refl
one_cause text BadShape BadLatency h k = absurd (no_shape text k.0 k.1 h)
one_cause text BadShape BadUse h k = absurd (no_shape text k.0 k.1 h)
one_cause text BadShape BadSaved h k = absurd (no_shape text k.0 k.1 h)
one_cause text BadLatency NotJson h k = absurd (k h.1.json h.1.is)
one_cause text BadLatency BadShape h k = absurd (no_shape text h.0 h.1 k)
one_cause text BadLatency BadLatency h k = refl
one_cause text BadLatency BadUse h k = absurd (no_latencies text k.0 k.2.0 k.1 k.2.1 h)
one_cause text BadLatency BadSaved h k = absurd (no_latencies text k.0 k.2.0 k.1 k.2.1 h)
one_cause text BadUse NotJson h k = absurd (k h.1.json h.1.is)
one_cause text BadUse BadShape h k = absurd (no_shape text h.0 h.1 k)
one_cause text BadUse BadLatency h k = absurd (no_latencies text h.0 h.2.0 h.1 h.2.1 k)
one_cause text BadUse BadUse h k = refl
one_cause text BadUse BadSaved h k = absurd (no_uses text k.0 k.2.2 k.1 k.2.3 h)
one_cause text BadSaved NotJson h k = absurd (k h.1.json h.1.is)
one_cause text BadSaved BadShape h k = absurd (no_shape text h.0 h.1 k)
one_cause text BadSaved BadLatency h k = absurd (no_latencies text h.0 h.2.0 h.1 h.2.1 k)
one_cause text BadSaved BadUse h k = absurd (no_uses text h.0 h.2.2 h.1 h.2.3 k)
one_cause text BadSaved BadSaved h k = refl

-- a cause of parts is one of their text
pub of_parts : (text : List ℕ) (p : Parts) (cause : TableCause) → IsText text p → IsBadOf p cause → IsBadTable text cause
of_parts text p NotJson h bad = absurd bad
of_parts text p BadShape h bad = absurd bad
of_parts text p BadLatency h bad = (p, h, bad)
of_parts text p BadUse h bad = (p, h, bad)
of_parts text p BadSaved h bad = (p, h, bad)

-- a text that has no reading, where it is of UTF-8
pub no_json : (text : List ℕ) → (IsUtf8 text → read text ≡ None) → (d : Data) → IsJson text d → ⊥
no_json text none d j = let e : Some d ≡ None = sym j.value ∙ none j.utf8 in cc e
