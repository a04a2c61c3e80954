-- The report of a generated function.
use Rattle.std.proofs.Common.{ℕ, ◌≡◌, List, refl, subst, sym, ap, ◌∙◌}
use Rattle.un_outside.specs.declared.status.Status.{Status}
use Rattle.un_outside.specs.declared.status.Status.TheVariants.{Done}
use Rattle.un_isa.specs.Versions.{table_of}
use Rattle.un_isa.specs.declared.table.TheConstants.{LAST}
use Rattle.un_isa.specs.declared.table.Table.{Table}
use Rattle.un_ir.specs.ExtendOf.{extend_of}
use Rattle.un_ir.specs.LinearOf.{lin_of}
use Rattle.un_ir.specs.declared.function.Function.{Function}
use Rattle.un_gen.specs.Generated.{IsGenerated}
use Rattle.un_model.specs.declared.model.Model.{Model}
use Rattle.un_model.specs.declared.model.Options.{Options}
use Rattle.un_problem.specs.Problems.{IsExtOf, IsModelOf, default_options}
use Rattle.un_problem.proofs.ProblemLaws.{table_is}
use Rattle.un_baseline.specs.SpilledCost.{spill_cost}
use Rattle.un_baseline.proofs.Spillable.{default_roomy}
use Rattle.un_report.specs.declared.report.Answered.{Answered}
use Rattle.un_report.specs.declared.report.Answered.TheVariants.{Code, Infeasible, Spent}
use Rattle.un_top.specs.Reports.{IsCodeWithin, status_of}
use Rattle.un_top.specs.Generated.{IsSummedUp, IsGeneratedReport}

-- a run that writes code ends well
pub code_done : (most : ℕ) (a : Answered) → IsCodeWithin most a → status_of a ≡ Done
code_done most (Code cost bound code s) within = refl
code_done most Infeasible within = absurd within
code_done most Spent within = absurd within

pub generated_is : (table : Table) (o : Options) (f : Function) (m : Model) (seed size nodes : ℕ) (status : Status) (out : List ℕ)
    → table ≡ table_of LAST → o ≡ default_options → IsGenerated seed size f → IsModelOf table f o m
    → ((e : IsExtOf m.ext.table f m.ext) → IsSummedUp seed size nodes f m e.live status out)
    → IsGeneratedReport seed size nodes status out
generated_is table o f m seed size nodes status out same chosen made g found =
    let h : IsModelOf (table_of LAST) f default_options m =
    subst (λ (u : Table). IsModelOf u f default_options m) same (subst (λ (p : Options). IsModelOf table f p m) chosen g) in
    let extended : m.ext ≡ extend_of (lin_of f h.ext.live m.ext.table) =
    subst (λ (u : Table). m.ext ≡ extend_of (lin_of f h.ext.live u)) (sym (table_is (table_of LAST) f m.ext h.ext)) h.ext.is_extended in
    let summed = found (record { live = h.ext.live; are_live = h.ext.are_live; is_extended = extended }) in
    let options : m.options ≡ default_options = ap (λ (x : Model). x.options) h.is_model in
    record {
      function = f;
      is = made;
      model = m;
      is_model = h;
      summed = summed;
      done = summed.ends ∙ code_done (spill_cost m.ext.table f h.ext.live) summed.report.answer (summed.room (default_roomy f m.options options));
    }
