-- Tables of other processors are ones that the compiler works for.
use Rattle.std.proofs.Common.{ℕ, zero, suc, ◌≡◌, ◌<◌, Bool, true, false, ◌&&◌, not, map, refl, arith, lit<, lit≤}
use Rattle.std.proofs.Common.{◌⊎◌, inl, inr}
use Rattle.std.specs.Prelude.{nat_eq}
use Rattle.std.specs.Bool.{OnTrue}
use Rattle.std.proofs.lemmas.Bool.{cases_lt}
use Rattle.std.proofs.lemmas.Bool.Decides.{nat_tests}
use Rattle.un_isa.specs.declared.op.Op.{Op}
use Rattle.un_isa.specs.declared.op.Op.TheVariants.{Imm, Mpyi}
use Rattle.un_isa.specs.declared.reg.TheConstants.{REGISTERS}
use Rattle.un_isa.specs.declared.table.Table.{Table}
use Rattle.un_isa.specs.Starts.{is_clobbered}
use Rattle.un_isa.specs.Tables.{latency_of, in_mask}
use Rattle.un_isa.specs.Facts.{all_ops}
use Rattle.un_isa.specs.Hexagon.{HEXAGON, is_saved}
use Rattle.un_isa.specs.Fit.{IsFit, IsFitLatency, is_quick, may_be_saved}
use Rattle.un_isa.proofs.DoesLaws.{so, so_holds}
use Rattle.un_isa.proofs.HexagonTable.{hexagon_fit}

-- a test that holds at each number below n
abbrev holds_below : (ℕ → Bool) → ℕ → Bool
holds_below p zero = true
holds_below p (suc n) = p n && holds_below p n

both : (b c : Bool) → (b && c) ≡ true → (b ≡ true) × (c ≡ true)
both true c h = (refl, h)
both false c h = absurd (cc h)

last_or_below : (r n : ℕ) → r < suc n → (r ≡ n) ⊎ (r < n)
last_or_below r n h = elim (cases_lt r n) [ inl less ↦ inr less | inr more ↦ inl (omega arith) ]

below_holds : (p : ℕ → Bool) (n : ℕ) → holds_below p n ≡ true → (r : ℕ) → r < n → p r ≡ true
below_holds p zero h r small = absurd (omega arith)
below_holds p (suc n) h r small =
    let parts = both (p n) (holds_below p n) h in
    elim (last_or_below r n small) [ inl e ↦ rw e parts.0 | inr less ↦ below_holds p n parts.1 r less ]

-- two tests that agree
abbrev agree : Bool → Bool → Bool
agree true b = b
agree false b = not b

agree_same : (a b : Bool) → agree a b ≡ true → a ≡ b
agree_same true true h = refl
agree_same true false h = absurd (cc h)
agree_same false true h = absurd (cc h)
agree_same false false h = refl

-- r15 and r28 are saved besides
abbrev pub KEEPING : Table
KEEPING = record {
  lat = HEXAGON.lat;
  uses = HEXAGON.uses;
  clobbered = 0xF_8000_7FFF;
  args = HEXAGON.args;
  result = HEXAGON.result;
  saved = 0x1FFF_8000;
  fresh = HEXAGON.fresh;
}

pub keeping_fit : IsFit KEEPING
keeping_fit = record {
  latencies = hexagon_fit.latencies;
  needs = hexagon_fit.needs;
  args = refl;
  result = refl;
  kept = λ r h. so_holds (is_saved r) (in_mask KEEPING.saved r)
      (below_holds (λ r. so (is_saved r) (in_mask KEEPING.saved r)) REGISTERS refl r h);
  saved = λ r h. so_holds (in_mask KEEPING.saved r) (may_be_saved r)
      (below_holds (λ r. so (in_mask KEEPING.saved r) (may_be_saved r)) REGISTERS refl r h);
  clobbered = λ r h. agree_same (in_mask KEEPING.clobbered r) (is_clobbered r && not (in_mask KEEPING.saved r))
      (below_holds (λ r. agree (in_mask KEEPING.clobbered r) (is_clobbered r && not (in_mask KEEPING.saved r))) REGISTERS refl r h);
  no_others = (lit< tt, lit< tt);
  quick_compares = hexagon_fit.quick_compares;
}

-- a product takes two cycles, and all else one
abbrev quick : Op → ℕ
quick Mpyi = 2
quick _ = 1

-- loads take one cycle
abbrev pub QUICK : Table
QUICK = record {
  lat = map quick all_ops;
  uses = HEXAGON.uses;
  clobbered = HEXAGON.clobbered;
  args = HEXAGON.args;
  result = HEXAGON.result;
  saved = HEXAGON.saved;
  fresh = HEXAGON.fresh;
}

quick_by : (b : Bool) (n : ℕ) → so b (nat_eq n 1) ≡ true → OnTrue b (n ≡ 1)
quick_by true n h = grind (arith, nat_tests, h)
quick_by false n h = tt

quick_latencies : (op : Op) → IsFitLatency op (latency_of QUICK op)
quick_latencies Imm = (lit≤ tt, lit≤ tt, tt)
quick_latencies op = (lit≤ tt, lit≤ tt, quick_by (is_quick op) (latency_of QUICK op) refl)

pub quick_fit : IsFit QUICK
quick_fit = record {
  latencies = quick_latencies;
  needs = hexagon_fit.needs;
  args = refl;
  result = refl;
  kept = hexagon_fit.kept;
  saved = hexagon_fit.saved;
  clobbered = hexagon_fit.clobbered;
  no_others = hexagon_fit.no_others;
  quick_compares = λ f op h. absurd (cc f);
}
