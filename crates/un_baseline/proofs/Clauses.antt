-- The plan of the extended function of a function keeps clauses of a solution.
use Rattle.std.proofs.Common.{◌≡◌, ◌+◌, ◌<◌, true, List, [], refl, ap, ◌∙◌, arith}
use Rattle.std.specs.Prelude.{slice_get, All}
use Rattle.std.proofs.lemmas.List.Elements.{All-nil}
use Rattle.un_base.specs.declared.ids.NameId.{NameId}
use Rattle.un_isa.specs.declared.table.Table.{Table}
use Rattle.un_isa.specs.Fit.{IsFit}
use Rattle.un_ir.specs.declared.function.Function.{Function}
use Rattle.un_ir.specs.declared.extended.Ext.{Ext}
use Rattle.un_ir.specs.ExtendOf.{extend_of}
use Rattle.un_ir.specs.LinearOf.{AreLive, lin_of}
use Rattle.un_model.specs.declared.schedule.Issue.{Issue}
use Rattle.un_model.specs.declared.schedule.Read.{Read}
use Rattle.un_model.specs.declared.schedule.LiveRange.{LiveRange}
use Rattle.un_model.specs.declared.schedule.Schedule.{Schedule}
use Rattle.un_model.specs.Congruences.{KeepsCongruences}
use Rattle.un_model.specs.Solutions.{IsGivenInSpace, KeepsChoices, KeepsSpaces, KeepsHomes, KeepsRegisters}
use Rattle.un_baseline.specs.Plans.{planned_issues, planned_reads, over_plans, planned_schedule}
use Rattle.un_baseline.specs.SpillEverywhere.{block_plans}
use Rattle.un_baseline.proofs.Congruent.{EachFacts, facts_of, congruences_kept}
use Rattle.un_baseline.proofs.Made.{planned_made, ranges_made}
use Rattle.un_baseline.proofs.Sound.{Seen, GoodRead, Sound, Differ, Avoids, choices_kept, spaces_kept, homes_kept, registers_kept}
use Rattle.un_baseline.proofs.SpillSteps.{plan_suits}
use Rattle.un_baseline.proofs.Timing.{pairs_nil}
use Rattle.un_baseline.proofs.Walked.{IsBelow, walk}

module _ (f : Function) (lists : List (List NameId)) (t : Table) (fit : IsFit t) (live : AreLive f.blocks lists) where
  abbrev e : Ext
  e = extend_of (lin_of f lists t)

  abbrev pub schedule : Schedule
  schedule = planned_schedule e.blocks (block_plans e true e.blocks)

  abbrev nothing : Seen
  nothing = record { issues = []; reads = []; made = [] }

  -- what the whole plan issues, reads and makes
  abbrev all : Seen
  all = record {
    issues = over_plans planned_issues 0 0 e.blocks (block_plans e true e.blocks);
    reads = over_plans planned_reads 0 0 e.blocks (block_plans e true e.blocks);
    made = over_plans planned_made 0 0 e.blocks (block_plans e true e.blocks);
  }

  nothing_sound : Sound t.clobbered nothing
  nothing_sound = record {
    reads = All-nil (GoodRead t.clobbered nothing);
    given = All-nil IsGivenInSpace;
    differ = pairs_nil Differ;
    avoid = All-nil (λ (m : LiveRange). All (Avoids m) []);
  }

  nothing_below : IsBelow t.clobbered 0 nothing
  nothing_below = record {
    made = All-nil (λ (m : LiveRange). m.block.0 < 0);
    issues = All-nil (λ (i : Issue). i.block.0 < 0);
    known = All-nil (λ (q : Read). q.temp.0 < 0);
  }

  pub all_sound : Sound t.clobbered all
  all_sound =
      walk f lists t fit live f.blocks true 0 0 0 0 [] nothing (λ i x got. let z : 0 + i ≡ i = omega arith in ap (slice_get f.blocks) z
      ∙ got) (λ z. refl) refl refl
      nothing_below nothing_sound

  pub keeps_choices : KeepsChoices schedule
  keeps_choices = choices_kept t.clobbered schedule all all_sound refl refl (ranges_made e.blocks (block_plans e true e.blocks)
      (plan_suits e))

  pub keeps_spaces : KeepsSpaces schedule
  keeps_spaces = spaces_kept t.clobbered schedule all all_sound refl refl (ranges_made e.blocks (block_plans e true e.blocks)
      (plan_suits e))

  pub keeps_homes : KeepsHomes schedule
  keeps_homes = homes_kept t.clobbered schedule all all_sound refl refl (ranges_made e.blocks (block_plans e true e.blocks) (plan_suits e))

  pub keeps_registers : KeepsRegisters t.clobbered schedule
  keeps_registers = registers_kept t.clobbered schedule all all_sound refl refl (ranges_made e.blocks (block_plans e true e.blocks)
      (plan_suits e))

  facts : EachFacts f lists t fit live 0 e.blocks all
  facts =
      facts_of f lists t fit live f.blocks true 0 0 0 0 [] nothing all (λ i x got. let z : 0 + i
      ≡ i = omega arith in ap (slice_get f.blocks) z ∙ got) (λ z. refl) refl refl
      nothing_below (All-nil (λ (q : Read). q.block.0 < 0)) refl

  pub keeps_congruences : KeepsCongruences e.blocks schedule
  keeps_congruences = congruences_kept f lists t fit live schedule all refl (ranges_made e.blocks (block_plans e true e.blocks)
      (plan_suits e)) e.blocks facts
