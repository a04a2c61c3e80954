-- What is posted for a model is met exactly where these clauses of a solution hold and the cost is less than the limit.
use Rattle.std.proofs.Common.{ℕ, ◌↔◌, ◌<◌, ◌++◌, List}
use Rattle.std.specs.Prelude.{Option, IfSome}
use Rattle.un_ir.specs.declared.extended.Ext.{Ext}
use Rattle.un_model.specs.declared.model.Options.{Options}
use Rattle.un_model.specs.declared.model.Model.{Model}
use Rattle.un_model.specs.declared.model.Solution.{Solution}
use Rattle.un_model.specs.Congruences.{KeepsCongruences}
use Rattle.un_model.specs.Cost.{value_of, cost_of}
use Rattle.un_model.specs.Pairs.{over_blocks}
use Rattle.un_model.specs.Schedules.{schedule_of}
use Rattle.un_model.specs.Solutions.{KeepsFrame}
use Rattle.un_model.specs.Variables.{model_of}
use Rattle.un_kinds.specs.Constraints.{Constraint, AllMet}
use Rattle.un_sites.specs.Places.{definers_of, places_of}
use Rattle.un_sites.specs.Postings.{over_places, of_place, edges_of, frame_of, limit_of, postings_of}
use Rattle.un_post.proofs.Congruences.{congruences}
use Rattle.un_post.proofs.Facts.{Given}
use Rattle.un_post.proofs.Frames.{frames}
use Rattle.un_post.proofs.Limits.{limits}
use Rattle.un_post.proofs.Meeting.{met_all, all_met}
use Rattle.un_post.proofs.OfPlaces.{KeepsSingly, of_places}
use Rattle.un_post.proofs.Whole.{met_append}

pub all_append : (x : List ℕ) (cs ds : List Constraint) → AllMet (cs ++ ds) x ↔ (AllMet cs x × AllMet ds x)
all_append x cs ds = (
  λ h. let r = (met_append x cs ds).0 (met_all x (cs ++ ds) h) in (all_met x cs r.0, all_met x ds r.1),
  λ h. all_met x (cs ++ ds) ((met_append x cs ds).1 (met_all x cs h.0, met_all x ds h.1)),
)

-- the clauses that speak of no two operations but over an edge and of the frame
pub record KeepsPosted (e : Ext) (o : Options) (limit : Option ℕ) (s : Solution) : Type 0 where
  pub singly : KeepsSingly e (schedule_of (model_of e o) s.values)
  pub congruences : KeepsCongruences e.blocks (schedule_of (model_of e o) s.values)
  pub frame : KeepsFrame (value_of s.values (model_of e o).flag) (schedule_of (model_of e o) s.values)
  pub cheaper : IfSome limit (λ n. cost_of (model_of e o) s < n)

pub posted : (e : Ext) (o : Options) (limit : Option ℕ) (s : Solution) → Given e o s.values
    → KeepsPosted e o limit s ↔ AllMet (postings_of (model_of e o) limit) s.values
posted e o limit s given =
    let m : Model = model_of e o in
    let x = s.values in
    let ds = definers_of m in
    let edges = over_blocks (edges_of m.ext.blocks ds) 0 0 m.ext.blocks m.blocks in
    let a = all_append x (over_places (of_place m.ext.table m.options.slots ds) m)
    (edges ++ (frame_of m ds (places_of m) ++ limit_of m limit)) in
    let b = all_append x edges (frame_of m ds (places_of m) ++ limit_of m limit) in
    let c = all_append x (frame_of m ds (places_of m)) (limit_of m limit) in
    let p = of_places e o x given in
    let q = congruences e o x given in
    let r = frames e o x given in
    let l = limits m s limit in (
      λ h. a.1 (p.0 h.singly, b.1 (q.0 h.congruences, c.1 (r.0 h.frame, l.0 h.cheaper))),
      λ h.
          let u = a.0 h in let v = b.0 u.1 in let w = c.0 v.1 in
          record { singly = p.1 u.0; congruences = q.1 v.0; frame = r.1 w.0; cheaper = l.1 w.1 },
    )
