-- What is posted of the operations is met exactly where the clauses of a solution hold that speak of single operations.
use Rattle.std.proofs.Common.{ℕ, ◌↔◌, List, ◌++◌, map}
use Rattle.un_ir.specs.declared.extended.Ext.{Ext}
use Rattle.un_model.specs.declared.model.Options.{Options}
use Rattle.un_model.specs.declared.schedule.Schedule.{Schedule}
use Rattle.un_model.specs.declared.model.Model.{Model}
use Rattle.un_model.specs.Pairs.{joined}
use Rattle.un_model.specs.Schedules.{schedule_of}
use Rattle.un_model.specs.Solutions.{KeepsZeros, KeepsChoices, KeepsSpaces, KeepsLatencies, KeepsHomes, latency_gap}
use Rattle.un_model.specs.Variables.{model_of}
use Rattle.un_kinds.specs.Constraints.{AllMet}
use Rattle.un_sites.specs.Places.{Place, Definer, Asked, definers_of, asked_by}
use Rattle.un_sites.specs.Postings.{over_places, over_operands, of_place, of_operand, zeros_of, issues_in, chosen_of, waits_of, spaces_of}
use Rattle.un_sites.specs.Postings.{homes_of, results_in}
use Rattle.un_post.proofs.Facts.{Given}
use Rattle.un_post.proofs.Choices.{choices}
use Rattle.un_post.proofs.Homes.{homes}
use Rattle.un_post.proofs.Latencies.{latencies}
use Rattle.un_post.proofs.Spaces.{spaces}
use Rattle.un_post.proofs.Whole.{places_append, operands_append}
use Rattle.un_post.proofs.Zeros.{zeros}

-- the clauses on single operations: zeros, choices, spaces, latencies, homes
pub record KeepsSingly (e : Ext) (t : Schedule) : Type 0 where
  pub zeros : KeepsZeros t
  pub choices : KeepsChoices t
  pub spaces : KeepsSpaces t
  pub latencies : KeepsLatencies (latency_gap e.table) t
  pub homes : KeepsHomes t

module _ (e : Ext) (o : Options) (x : List ℕ) (given : Given e o x) where
  abbrev m : Model
  m = model_of e o

  abbrev ds : List Definer
  ds = definers_of (model_of e o)

  -- what is posted of operands, by kinds
  abbrev AllOperands : Type 0
  AllOperands = AllMet (over_operands chosen_of m) x × AllMet (over_operands (waits_of e.table) m) x
      × AllMet (over_operands (spaces_of o.slots) m) x
      × AllMet (over_operands homes_of m) x

  operands_met : AllMet (over_operands (of_operand e.table o.slots) m) x ↔ AllOperands
  operands_met =
      let a = operands_append e o x given chosen_of (λ (u : Asked). waits_of e.table u ++ (spaces_of o.slots u ++ homes_of u)) in
      let b = operands_append e o x given (waits_of e.table) (λ (u : Asked). spaces_of o.slots u ++ homes_of u) in
      let c = operands_append e o x given (spaces_of o.slots) homes_of in (
        λ h. let p = a.0 h in let q = b.0 p.1 in let r = c.0 q.1 in (p.0, q.0, r.0, r.1),
        λ h. a.1 (h.0, b.1 (h.1, c.1 (h.2, h.3))),
      )

  pub of_places : KeepsSingly e (schedule_of m x) ↔ AllMet (over_places (of_place e.table o.slots ds) m) x
  of_places =
      let a = places_append e o x given (zeros_of ds) (λ (p : Place). issues_in p ++
      (joined (map (of_operand e.table o.slots) (asked_by ds p)) ++ results_in o.slots ds p)) in
      let b = places_append e o x given issues_in (λ (p : Place). joined (map (of_operand e.table o.slots) (asked_by ds p)) ++
      results_in o.slots ds p) in
      let c = places_append e o x given (λ (p : Place). joined (map (of_operand e.table o.slots) (asked_by ds p))) (results_in o.slots ds)
      in
      let z = zeros e o x given in let ch = choices e o x given in let s = spaces e o x given in let l = latencies e o x given in let hm =
      homes e o x given in (
        λ h.
            let lat = (l h.choices).0 h.latencies in
            let sp = s.0 h.spaces in
            a.1 (z.0 h.zeros, b.1 (lat.0, c.1 (operands_met.1 (ch.0 h.choices, lat.1, sp.0, hm.0 h.homes), sp.1))),
        λ h.
            let p = a.0 h in let q = b.0 p.1 in let r = c.0 q.1 in
            let u = operands_met.0 r.0 in
            let chosen = ch.1 u.0 in
            record { zeros = z.1 p.0; choices = chosen; spaces = s.1 (u.2, r.1); latencies = (l chosen).1 (q.0, u.1); homes = hm.1 u.3 },
      )
