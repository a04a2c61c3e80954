-- What is known of a block, as its length and its calls are found.
use Rattle.std.proofs.Common.{ℕ, ◌≡◌, Bool, List, [], ◌∷◌, ap, ◌∙◌}
use Rattle.std.specs.Prelude.{slice_get}
use Rattle.un_base.specs.declared.ids.VarId.{VarId}
use Rattle.un_ir.specs.declared.extended.ExtBlock.{ExtBlock}
use Rattle.un_model.specs.declared.model.Arc.{Arc}
use Rattle.un_model.specs.declared.model.BlockVars.{BlockVars}
use Rattle.un_model.specs.declared.model.Model.{Model}
use Rattle.un_length.specs.declared.block.Precedence.{Precedence}
use Rattle.un_length.specs.declared.block.Task.{Task}
use Rattle.un_least.specs.Least.{least_end_of}
use Rattle.un_kinds.specs.Constraints.{Length}
use Rattle.un_saved.specs.declared.boundary.Marks.{Marks}
use Rattle.un_sites.specs.Befores.{length_in}
use Rattle.un_sites.specs.Places.{Place, block_places}
use Rattle.un_sites.specs.Rooms.{arcs_or}
use Rattle.un_sites.specs.Shares.{has_leave}
use Rattle.un_rows.specs.Roles.{role_of}
use Rattle.un_rows.specs.Rows.{crossed_in, known_at, own_arcs, own_ops}
use Rattle.un_rows.specs.declared.known.Crossed.{Crossed}
use Rattle.un_rows.specs.declared.known.Known.{Known}
use Rattle.un_rows.specs.declared.role.Role.{Role}

-- what two lengths that are one have in common
module _ (ops os : List Task) (arcs qs : List Precedence) (end close : VarId) (horizon far : ℕ)
    (h : Length ops arcs end horizon ∷ [] ≡ Length os qs close far ∷ []) where
  same_ops : ops ≡ os
  same_ops = cc h

  same_arcs : arcs ≡ qs
  same_arcs = cc h

  same_horizon : horizon ≡ far
  same_horizon = cc h

module _ (m : Model) (marks : Marks) (b n : ℕ) (block : ExtBlock) (vars : BlockVars) where
  abbrev ps : List Place
  ps = block_places b n block vars

  abbrev os : List Task
  os = own_ops m b block ps

  abbrev qs : List Precedence
  qs = own_arcs m b os ps

  -- a block as its length has it, with what else is known of it
  abbrev known : List Task → List Precedence → ℕ → Bool → Role → List Crossed → Known
  known ops arcs own leaves role calls = record {
    end = vars.end;
    freq = block.freq;
    horizon = block.horizon;
    ops = ops;
    arcs = arcs;
    own = own;
    leaves = leaves;
    role = role;
    calls = calls;
  }

  pub known_is : (ops : List Task) (arcs : List Precedence) (end : VarId) (horizon own : ℕ) (leaves : Bool) (role : Role)
      (calls : List Crossed) → Length ops arcs end horizon ∷ [] ≡ length_in m b n block vars → own ≡ least_end_of ops arcs horizon 0
      → leaves ≡ has_leave ps → role ≡ role_of marks b block → calls ≡ crossed_in (arcs_or (slice_get m.arcs b)) block ops ps
      → known ops arcs own leaves role calls ≡ known_at m marks b block vars ps
  known_is ops arcs end horizon own leaves role calls made found leaving is crossed =
      let here : List Arc = arcs_or (slice_get m.arcs b) in
      let same : ops ≡ os = same_ops ops os arcs qs end vars.end horizon block.horizon made in
      let order : arcs ≡ qs = same_arcs ops os arcs qs end vars.end horizon block.horizon made in
      let far : horizon ≡ block.horizon = same_horizon ops os arcs qs end vars.end horizon block.horizon made in
      let least : own ≡ least_end_of os qs block.horizon 0 =
      found ∙ ap (λ (ts : List Task). least_end_of ts arcs horizon 0) same
      ∙ ap (λ (ws : List Precedence). least_end_of os ws horizon 0) order ∙ ap (λ (k : ℕ). least_end_of os qs k 0) far in
      let those : calls ≡ crossed_in here block os ps = crossed ∙ ap (λ (ts : List Task). crossed_in here block ts ps) same in
      ap (λ (ts : List Task). known ts arcs own leaves role calls) same
      ∙ ap (λ (ws : List Precedence). known os ws own leaves role calls) order
      ∙ ap (λ (k : ℕ). known os qs k leaves role calls) least
      ∙ ap (λ (l : Bool). known os qs (least_end_of os qs block.horizon 0) l role calls) leaving
      ∙ ap (λ (r : Role). known os qs (least_end_of os qs block.horizon 0) (has_leave ps) r calls) is
      ∙ ap (λ (cs : List Crossed). known os qs (least_end_of os qs block.horizon 0) (has_leave ps) (role_of marks b block) cs) those
