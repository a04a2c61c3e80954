-- HEXAGON, entry by entry.
use Rattle.std.proofs.Common.{ℕ, zero, suc, ◌≡◌, ◌<◌, Bool, true, false, ◌&&◌, not, slice_get, Some, IsSomeAnd, refl, arith, lit<, lit≤}
use Rattle.std.proofs.Common.{◌⊎◌, inl, inr}
use Rattle.std.specs.Prelude.{nat_eq, ◌==◌, if◌then◌else◌}
use Rattle.std.specs.Bool.{OnTrue}
use Rattle.std.proofs.lemmas.Bool.{cases_lt}
use Rattle.std.proofs.lemmas.Bool.Decides.{nat_tests}
use Rattle.un_isa.specs.declared.op.Op.{Op}
use Rattle.un_isa.specs.declared.op.Op.TheVariants.{Imm, CmpEq, CmpGt, CmpGtu, CmpEqi, CmpGti}
use Rattle.un_isa.specs.declared.reg.TheConstants.{REGISTERS}
use Rattle.un_isa.specs.Does.{is_compare}
use Rattle.un_isa.specs.Starts.{is_clobbered}
use Rattle.un_isa.specs.Tables.{number_of, latency_of, in_mask}
use Rattle.un_isa.specs.Facts.{class_of, latency_by}
use Rattle.un_isa.specs.Hexagon.{HEXAGON, IsHexagon, needs_by, is_saved}
use Rattle.un_isa.specs.Fit.{IsFit, IsFitLatency, AreFitNeeds, is_quick, may_be_saved}
use Rattle.un_isa.specs.Versions.{FRESH, table_of}
use Rattle.un_isa.proofs.DoesLaws.{so, so_holds}

-- a test that holds at each number below n
abbrev holds_below : (ℕ → Bool) → ℕ → Bool
holds_below p zero = true
holds_below p (suc n) = p n && holds_below p n

both : (b c : Bool) → (b && c) ≡ true → (b ≡ true) × (c ≡ true)
both true c h = (refl, h)
both false c h = absurd (cc h)

last_or_below : (r n : ℕ) → r < suc n → (r ≡ n) ⊎ (r < n)
last_or_below r n h = elim (cases_lt r n) [ inl less ↦ inr less | inr more ↦ inl (omega arith) ]

below_holds : (p : ℕ → Bool) (n : ℕ) → holds_below p n ≡ true → (r : ℕ) → r < n → p r ≡ true
below_holds p zero h r small = absurd (omega arith)
below_holds p (suc n) h r small =
    let parts = both (p n) (holds_below p n) h in
    elim (last_or_below r n small) [ inl e ↦ rw e parts.0 | inr less ↦ below_holds p n parts.1 r less ]

-- two tests that agree
abbrev agree : Bool → Bool → Bool
agree true b = b
agree false b = not b

agree_same : (a b : Bool) → agree a b ≡ true → a ≡ b
agree_same true true h = refl
agree_same true false h = absurd (cc h)
agree_same false true h = absurd (cc h)
agree_same false false h = refl

latencies : (op : Op) → latency_of HEXAGON op ≡ latency_by op
latencies Imm = refl
latencies _ = refl

needs : (op : Op) → slice_get HEXAGON.uses (number_of op) ≡ Some (needs_by (class_of op))
needs Imm = refl
needs _ = refl

pub hexagon_entries : IsHexagon HEXAGON
hexagon_entries = record {
  latencies = latencies;
  needs = needs;
  clobbered = λ r h. agree_same (in_mask HEXAGON.clobbered r) (is_clobbered r)
      (below_holds (λ r. agree (in_mask HEXAGON.clobbered r) (is_clobbered r)) REGISTERS refl r h);
  saved = λ r h. agree_same (in_mask HEXAGON.saved r) (is_saved r)
      (below_holds (λ r. agree (in_mask HEXAGON.saved r) (is_saved r)) REGISTERS refl r h);
  no_others = (lit< tt, lit< tt);
  args = refl;
  result = refl;
  fresh = refl;
}

quick_by : (b : Bool) (n : ℕ) → so b (nat_eq n 1) ≡ true → OnTrue b (n ≡ 1)
quick_by true n h = grind (arith, nat_tests, h)
quick_by false n h = tt

fit_latencies : (op : Op) → IsFitLatency op (latency_of HEXAGON op)
fit_latencies Imm = (lit≤ tt, lit≤ tt, tt)
fit_latencies op = (lit≤ tt, lit≤ tt, quick_by (is_quick op) (latency_of HEXAGON op) refl)

fit_needs : (op : Op) → IsSomeAnd (slice_get HEXAGON.uses (number_of op)) (AreFitNeeds (needs_by (class_of op)))
fit_needs Imm = record { mem = (lit≤ tt, lit≤ tt); store = (lit≤ tt, lit≤ tt); xc = (lit≤ tt, lit≤ tt); control = (lit≤ tt, lit≤ tt) }
fit_needs _ = record { mem = (lit≤ tt, lit≤ tt); store = (lit≤ tt, lit≤ tt); xc = (lit≤ tt, lit≤ tt); control = (lit≤ tt, lit≤ tt) }

quick_compare : (op : Op) → is_compare op ≡ true → latency_of HEXAGON op ≡ 1
quick_compare CmpEq h = refl
quick_compare CmpGt h = refl
quick_compare CmpGtu h = refl
quick_compare CmpEqi h = refl
quick_compare CmpGti h = refl
quick_compare _ h = absurd (cc h)

pub hexagon_fit : IsFit HEXAGON
hexagon_fit = record {
  latencies = fit_latencies;
  needs = fit_needs;
  args = refl;
  result = refl;
  kept = λ r h. so_holds (is_saved r) (in_mask HEXAGON.saved r)
      (below_holds (λ r. so (is_saved r) (in_mask HEXAGON.saved r)) REGISTERS refl r h);
  saved = λ r h. so_holds (in_mask HEXAGON.saved r) (may_be_saved r)
      (below_holds (λ r. so (in_mask HEXAGON.saved r) (may_be_saved r)) REGISTERS refl r h);
  clobbered = λ r h. agree_same (in_mask HEXAGON.clobbered r) (is_clobbered r && not (in_mask HEXAGON.saved r))
      (below_holds (λ r. agree (in_mask HEXAGON.clobbered r) (is_clobbered r && not (in_mask HEXAGON.saved r))) REGISTERS refl r h);
  no_others = (lit< tt, lit< tt);
  quick_compares = λ f op h. quick_compare op h;
}

pub fresh_fit : IsFit FRESH
fresh_fit = record {
  latencies = hexagon_fit.latencies;
  needs = hexagon_fit.needs;
  args = refl;
  result = refl;
  kept = hexagon_fit.kept;
  saved = hexagon_fit.saved;
  clobbered = hexagon_fit.clobbered;
  no_others = hexagon_fit.no_others;
  quick_compares = λ f op h. quick_compare op h;
}

-- the table of each version
pub version_fit : (v : ℕ) → IsFit (table_of v)
version_fit v = by (v == 3)
  where
    by : (b : Bool) → IsFit (if b then FRESH else HEXAGON)
    by true = fresh_fit
    by false = hexagon_fit
