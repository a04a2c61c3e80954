-- The extended function that is made of a function, for a table that the compiler works for: it is one of that source, and keeps
-- what extended functions keep.
use Rattle.std.proofs.Common.{◌≡◌, List, refl, sym, subst}
use Rattle.un_base.specs.declared.ids.NameId.{NameId}
use Rattle.un_isa.specs.Fit.{IsFit}
use Rattle.un_isa.specs.declared.table.Table.{Table}
use Rattle.un_ir.specs.declared.extended.Ext.{Ext}
use Rattle.un_ir.specs.declared.function.Function.{Function}
use Rattle.un_ir.specs.Extended.{IsExtended}
use Rattle.un_ir.specs.ExtendOf.{extend_of}
use Rattle.un_ir.specs.LinearOf.{AreLive, lin_of}
use Rattle.un_lssa.proofs.FunctionRuns.{linear_runs}
use Rattle.un_extend.proofs.RunFits.{extend_runs}
use Rattle.un_problem.proofs.ProblemLaws.{linear_kept, extended_kept}
use Rattle.un_emit.specs.OfSource.{IsOfSource}
use Rattle.un_emit.proofs.OfSource.{of_source}

module _ (f : Function) (lists : List (List NameId)) (t : Table) (live : AreLive f.blocks lists) (fit : IsFit t) where
  of : IsOfSource f lists (extend_of (lin_of f lists t))
  of =
      let l = lin_of f lists t in
      of_source f lists t l (extend_of l) live refl (λ start n long. linear_runs f lists t start n live long)
      refl (λ start n. extend_runs l start n (linear_kept t f lists live fit))

-- the same where it is given by an equation
module _ (f : Function) (lists : List (List NameId)) (e : Ext) (live : AreLive f.blocks lists) (fit : IsFit e.table)
    (is : e ≡ extend_of (lin_of f lists e.table)) where
  pub is_extended : IsExtended e
  is_extended = subst IsExtended (sym is) (extended_kept e.table f lists live fit)

  pub is_of_source : IsOfSource f lists e
  is_of_source = subst (IsOfSource f lists) (sym is) (of f lists e.table live fit)
