-- The values of a solution give each temporary a register or one of the slots that a frame may have.
use Rattle.std.proofs.Common.{ℕ, ◌≡◌, ◌+◌, ◌<◌, true, List, ⊎_elim, refl, sym, subst, arith}
use Rattle.std.specs.Prelude.{Option, Some, None, slice_get}
use Rattle.un_isa.specs.declared.reg.TheConstants.{FIRST_SLOT, SLOTS}
use Rattle.un_ir.specs.declared.extended.Ext.{Ext}
use Rattle.un_model.specs.declared.model.Options.{Options}
use Rattle.un_model.specs.declared.model.TempVars.{TempVars}
use Rattle.un_model.specs.declared.schedule.Issue.{Issue}
use Rattle.un_model.specs.declared.schedule.LiveRange.{LiveRange}
use Rattle.un_model.specs.Cost.{value_of}
use Rattle.un_model.specs.Emission.{register_by}
use Rattle.un_model.specs.Schedules.{issues_of, last_read, range_by, range_of}
use Rattle.un_model.specs.Solutions.{IsZeroRange}
use Rattle.un_model.specs.Variables.{model_of}
use Rattle.un_emit.specs.Bounds.{IsPlace, HavePlaces}
use Rattle.un_model.proofs.OpDomains.{get_places}
use Rattle.un_lists.proofs.Lists.{each_all, each_member, index_get, member_at}
use Rattle.un_model.proofs.Readings.{Solved}
use Rattle.un_emit.proofs.RulesFrame.{low}
use Rattle.un_model.proofs.PlacedSchedules.{idle_range, the_ranges, the_reads}

module _ (e : Ext) (o : Options) (values : List ℕ) (h : Solved e o values) where
  abbrev temps : List TempVars
  temps = let m = model_of e o in m.temps

  abbrev range : ℕ → TempVars → LiveRange
  range k t = range_of values (issues_of (model_of e o) values) (the_reads e o values) k t

  range_there : (k : ℕ) (t : TempVars) → slice_get temps k ≡ Some t → slice_get (the_ranges e o values) k ≡ Some (range k t)
  range_there k t q = get_places e o values range temps 0 k k t (omega arith) q

  register_is : (k : ℕ) (t : TempVars) → (range k t).reg ≡ value_of values t.reg
  register_is k t = by (slice_get (issues_of (model_of e o) values) t.op.0)
    where
      by : (i : Option Issue) → (range_by values t (last_read (the_reads e o values) k) i).reg ≡ value_of values t.reg
      by None = refl
      by (Some i) = refl

  -- an active temporary's register is in its domain, and an inactive one's is 0
  is_place : (k : ℕ) (t : TempVars) → slice_get temps k ≡ Some t → value_of values t.reg < FIRST_SLOT + SLOTS
  is_place k t q =
      let there = range_there k t q in
      let same = index_get (the_ranges e o values) k idle_range (range k t) there in
      let s = h.schedule in
      let zeros = s.zeros in
      let all = each_all IsZeroRange (the_ranges e o values) zeros.1 in
      let own = each_member IsZeroRange (the_ranges e o values) (range k t) all (member_at (the_ranges e o values) k (range k t) there) in
      let active : (range k t).active ≡ true → (range k t).reg < FIRST_SLOT + SLOTS =
      λ a. subst (λ (r : LiveRange). r.reg < FIRST_SLOT + SLOTS) same
      (low e o values h k (subst (λ (r : LiveRange). r.active ≡ true) (sym same) a)) in
      subst (λ (n : ℕ). n < FIRST_SLOT + SLOTS) (register_is k t) (⊎_elim active (λ (z : (range k t).reg ≡ 0). omega (arith, z)) own)

  pub have_places : HavePlaces (model_of e o) values
  have_places x = by (slice_get temps x.0) refl
    where
      by : (t : Option TempVars) → slice_get temps x.0 ≡ t → IsPlace (register_by values t)
      by None q = omega arith
      by (Some t) q = is_place x.0 t q
