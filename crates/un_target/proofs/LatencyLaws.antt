-- Latencies, operation by operation.
use Rattle.std.proofs.Common.{ℕ, ◌≡◌, ◌<◌, ◌≤◌, ◌+◌, List, length, get_or, Bool, true, false, Option, Some, None, MatchOption, IfSome}
use Rattle.std.proofs.Common.{IfNone, IsTrue, ◌↔◌, sym, subst, ◌∙◌, arith}
use Rattle.std.proofs.Math.ListN.{set}
use Rattle.std.proofs.lemmas.List.{get_or-set_same, get_or-set_other, length-set}
use Rattle.un_isa.specs.declared.op.Op.{Op}
use Rattle.un_isa.specs.declared.op.TheConstants.{OPERATIONS}
use Rattle.un_isa.specs.Does.{is_compare}
use Rattle.un_isa.specs.Facts.{latency_by}
use Rattle.un_isa.specs.Fit.{IsFitLatency}
use Rattle.un_isa.specs.Tables.{number_of}
use Rattle.serde_json.specs.Data.{unsigned, Data, number}
use Rattle.serde_json.specs.Find.{get_member}
use Rattle.un_target.specs.Latencies.{IsNumber, HasLatency, IsLatency, AreLatencies}
use Rattle.un_target.specs.Names.{name_of}
use Rattle.un_target.specs.Parts.{Parts}
use Rattle.un_target.proofs.NameLaws.{small, one_more}
use Rattle.un_target.proofs.Verdicts.{not_so}

-- what an entry is, and what stands for none
pub some_entered : (o : Option Data) (d : Data) (l : ℕ) (r : Option ℕ) → Some d ≡ o → IfSome r (λ n. IsNumber d n × (1 ≤ n) × (n ≤ 2))
    → IfSome r (λ n. MatchOption o (n ≡ l) (λ e. IsNumber e n))
some_entered o d l (Some n) e h = subst (λ (v : Option Data). MatchOption v (n ≡ l) (λ f. IsNumber f n)) e h.0
some_entered o d l None e h = tt

pub none_entered : (o : Option Data) (d : Data) (l : ℕ) (r : Option ℕ) → Some d ≡ o → IfNone r ((n : ℕ) → 1 ≤ n → n ≤ 2 → IsNumber d n → ⊥)
    → IfNone r ((n : ℕ) → 1 ≤ n → n ≤ 2 → MatchOption o (n ≡ l) (λ e. IsNumber e n) → ⊥)
none_entered o d l (Some n) e h = tt
none_entered o d l None e h = λ n low high is. h n low high
    (subst (λ (v : Option Data). MatchOption v (n ≡ l) (λ f. IsNumber f n)) (sym e) is)

pub not_entered : (o : Option Data) (l n : ℕ) → None ≡ o → n ≡ l → MatchOption o (n ≡ l) (λ e. IsNumber e n)
not_entered o l n e is = subst (λ (v : Option Data). MatchOption v (n ≡ l) (λ f. IsNumber f n)) e is

pub latency_once : (o : Option Data) (l m n : ℕ) → MatchOption o (m ≡ l) (λ d. IsNumber d m) → MatchOption o (n ≡ l) (λ d. IsNumber d n)
    → m ≡ n
latency_once None l m n h k = h ∙ sym k
latency_once (Some d) l m n h k = let e : number (unsigned m) ≡ number (unsigned n) = sym h ∙ k in cc e

abbrev MayHave : Parts → Op → ℕ → Type 0
MayHave p op n = IsFitLatency op n × (p.fresh ≡ true → is_compare op ≡ true → n ≡ 1)

pub is_latency : (p : Parts) (op : Op) (n : ℕ) → HasLatency p.latency op n → MayHave p op n → IsLatency p op n
is_latency p op n has may = record { entered = has; fit = may.0; quick_compare = may.1 }

pub not_latency : (p : Parts) (op : Op) (n : ℕ) (b : Bool) → HasLatency p.latency op n → (IsTrue b ↔ MayHave p op n) → b ≡ false
    → (m : ℕ) → IsLatency p op m → ⊥
not_latency p op n b has may fails m h =
    let same : m ≡ n = latency_once (get_member (name_of op) p.latency) (latency_by op) m n h.entered has in
    not_so may fails (subst (λ (k : ℕ). MayHave p op k) same (h.fit, h.quick_compare))

pub none_latency : (p : Parts) (op : Op) → ((n : ℕ) → 1 ≤ n → n ≤ 2 → HasLatency p.latency op n → ⊥) → (m : ℕ) → IsLatency p op m → ⊥
none_latency p op none m h = none m h.fit.0 h.fit.1 h.entered

-- the latencies of the operations of numbers below i
pub record AreBelow (p : Parts) (lat : List ℕ) (i : ℕ) : Type 0 where
  pub count : length lat ≡ OPERATIONS
  pub each : (op : Op) → number_of op < i → IsLatency p op (get_or lat (number_of op) 0)

pub one_latency : (p : Parts) (lat : List ℕ) (i : ℕ) (c : Op) (n : ℕ) → number_of c ≡ i → i < OPERATIONS → AreBelow p lat i
    → IsLatency p c n → AreBelow p (set lat i n) (i + 1)
one_latency p lat i c n is lt h now = record {
  count = length-set lat i n ∙ h.count;
  each = one_more (λ op. IsLatency p op (get_or (set lat i n) (number_of op) 0)) i c is before here;
}
  where
    before : (op : Op) → number_of op < i → IsLatency p op (get_or (set lat i n) (number_of op) 0)
    before op less = subst (λ (m : ℕ). IsLatency p op m)
        (sym (get_or-set_other lat i (number_of op) n 0 (λ e. absurd (omega (arith, less, e))))) (h.each op less)

    here : IsLatency p c (get_or (set lat i n) (number_of c) 0)
    here = subst (λ (j : ℕ). IsLatency p c (get_or (set lat i n) j 0)) (sym is)
        (subst (λ (m : ℕ). IsLatency p c m) (sym (get_or-set_same lat i n 0 (omega (arith, lt, h.count)))) now)

pub all_latencies : (p : Parts) (lat : List ℕ) (i : ℕ) → OPERATIONS ≤ i → AreBelow p lat i → AreLatencies p lat
all_latencies p lat i past h = record { count = h.count; each = λ op. h.each op (omega (arith, small op, past)) }

pub none_latencies : (p : Parts) (op : Op) → ((n : ℕ) → IsLatency p op n → ⊥) → (lat : List ℕ) → AreLatencies p lat → ⊥
none_latencies p op none lat h = none (get_or lat (number_of op) 0) (h.each op)
