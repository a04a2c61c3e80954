-- Which tables fit, register by register and part by part.
use Rattle.std.proofs.Common.{ℕ, ◌≡◌, ◌<◌, ◌≤◌, ◌-◌, ◌^◌, Bool, true, ◌&&◌, not, nat_eq, bit_and, min, w64, IsTrue, ◌↔◌, sym, ap}
use Rattle.std.proofs.Common.{subst, ◌∙◌, arith}
use Rattle.std.proofs.Common.{Option, Some, IsSomeAnd, slice_get, get_or}
use Rattle.std.specs.Int.{bit_at, bit_not}
use Rattle.std.proofs.lemmas.Bool.Decides.{nat_tests}
use Rattle.std.proofs.lemmas.Nat.Bits.{bit_at_and, bit_at_not, bit_at-lt}
use Rattle.un_isa.specs.declared.op.Op.{Op}
use Rattle.un_isa.specs.declared.reg.TheConstants.{REGISTERS}
use Rattle.un_isa.specs.declared.table.Table.{Table}
use Rattle.un_isa.specs.declared.table.Needs.{Needs}
use Rattle.un_isa.specs.Does.{is_compare}
use Rattle.un_isa.specs.Facts.{class_of}
use Rattle.un_isa.specs.Fit.{IsFit, IsFitLatency, AreFitNeeds}
use Rattle.un_isa.specs.Hexagon.{is_saved, needs_by}
use Rattle.un_isa.specs.Tables.{number_of, in_mask}
use Rattle.un_target.specs.Fitting.{HasFitLatency, HasFitNeeds, IsFitRegister, HasFitRest}

-- r16 to r27 by their numbers
pub saved_from : (r : ℕ) → is_saved r ≡ true → 16 ≤ r
saved_from r h = grind (arith, nat_tests, h)

pub saved_to : (r : ℕ) → is_saved r ≡ true → r < 28
saved_to r h = grind (arith, nat_tests, h)

pub is_saved_within : (r : ℕ) → 16 ≤ r → r < 28 → is_saved r ≡ true
is_saved_within r low high = grind (arith, nat_tests)

without : (a b : ℕ) → a < 2 → b < 2 → nat_eq (min a (1 - b)) 1 ≡ (nat_eq a 1 && not (nat_eq b 1))
without a b la lb = grind (arith, nat_tests)

-- a mask without the bits of another
pub cleared : (m s r : ℕ) → s < 2 ^ 64 → r < 64 → in_mask (bit_and m (bit_not w64 s)) r ≡ (in_mask m r && not (in_mask s r))
cleared m s r small lt = ap (λ (n : ℕ). nat_eq n 1) (bit_at_and m (bit_not w64 s) r ∙ ap (min (bit_at m r)) (bit_at_not w64 s r small lt))
    ∙ without (bit_at m r) (bit_at s r) (bit_at-lt m r) (bit_at-lt s r)

pub fit_of : (t : Table) → ((op : Op) → HasFitLatency t op) → ((op : Op) → HasFitNeeds t op)
    → ((r : ℕ) → r < REGISTERS → IsFitRegister (in_mask t.saved r) (in_mask t.clobbered r) r) → HasFitRest t → IsFit t
fit_of t latencies needs registers rest = record {
  latencies = λ op. (latencies op).0;
  needs = needs;
  args = rest.args;
  result = rest.result;
  kept = λ r lt is. (registers r lt).kept is;
  saved = λ r lt has. (registers r lt).allowed has;
  clobbered = λ r lt. (registers r lt).clobbered;
  no_others = rest.no_others;
  quick_compares = λ fresh op is. (latencies op).1 fresh is;
}

pub fit_latency : (t : Table) → IsFit t → (op : Op) → HasFitLatency t op
fit_latency t h op = (h.latencies op, λ fresh is. h.quick_compares fresh op is)

pub fit_needs : (t : Table) → IsFit t → (op : Op) → HasFitNeeds t op
fit_needs t h op = h.needs op

pub fit_register : (t : Table) → IsFit t → (r : ℕ) → r < REGISTERS → IsFitRegister (in_mask t.saved r) (in_mask t.clobbered r) r
fit_register t h r lt = record { kept = h.kept r lt; allowed = h.saved r lt; clobbered = h.clobbered r lt }

pub fit_rest : (t : Table) → IsFit t → HasFitRest t
fit_rest t h = record { no_others = h.no_others; args = h.args; result = h.result }

pub same_register : (a b x y : Bool) (r : ℕ) → a ≡ b → x ≡ y → IsFitRegister a x r → IsFitRegister b y r
same_register a b x y r e f h = subst (λ (k : Bool). IsFitRegister k y r) e (subst (λ (s : Bool). IsFitRegister a s r) f h)

-- the latency at the number of an operation
pub here_fits : (t : Table) (op : Op) (i : ℕ) → number_of op ≡ i
    → IsFitLatency op (get_or t.lat i 0) × (t.fresh ≡ true → is_compare op ≡ true → get_or t.lat i 0 ≡ 1) → HasFitLatency t op
here_fits t op i e h =
    subst (λ (j : ℕ). IsFitLatency op (get_or t.lat j 0) × (t.fresh ≡ true → is_compare op ≡ true → get_or t.lat j 0 ≡ 1)) (sym e) h

pub fits_here : (t : Table) (op : Op) (i : ℕ) → number_of op ≡ i → HasFitLatency t op
    → IsFitLatency op (get_or t.lat i 0) × (t.fresh ≡ true → is_compare op ≡ true → get_or t.lat i 0 ≡ 1)
fits_here t op i e h =
    subst (λ (j : ℕ). IsFitLatency op (get_or t.lat j 0) × (t.fresh ≡ true → is_compare op ≡ true → get_or t.lat j 0 ≡ 1)) e h

pub needs_fit : (t : Table) (op : Op) (l n : Needs) (b : Bool) → l ≡ needs_by (class_of op) → slice_get t.uses (number_of op) ≡ Some n
    → (IsTrue b ↔ AreFitNeeds l n) → IsTrue b ↔ HasFitNeeds t op
needs_fit t op l n b same at h = subst (λ (o : Option Needs). IsTrue b ↔ IsSomeAnd o (AreFitNeeds (needs_by (class_of op)))) (sym at)
    (subst (λ (m : Needs). IsTrue b ↔ AreFitNeeds m n) same h)
