-- The operation that has the values at a block's start.
use Rattle.std.proofs.Common.{ℕ, ◌≡◌, ◌+◌, true, List, length, map, refl, sym, ap, ◌∙◌, arith}
use Rattle.std.specs.Prelude.{Some, slice_get}
use Rattle.un_base.specs.declared.ids.TempId.{TempId}
use Rattle.un_isa.specs.Registers.{saved_registers}
use Rattle.un_ir.specs.declared.extended.ExtKind.TheVariants.{In}
use Rattle.un_ir.specs.declared.extended.ExtBlock.{ExtBlock}
use Rattle.un_ir.specs.declared.extended.Ext.{Ext}
use Rattle.un_ir.specs.Extended.{in_kinds, result_count}
use Rattle.un_ir.specs.Linear.{in_temps}
use Rattle.un_model.specs.declared.model.Options.{Options}
use Rattle.un_ir.specs.declared.extended.ExtKind.{ExtKind}
use Rattle.un_lists.proofs.Lists.{Member, member_map}
use Rattle.un_model.proofs.Placed.{Placed, spot, spots_of, region_placed}
use Rattle.un_model.proofs.PlacedSchedules.{all, member_joined, member_places}
use Rattle.un_model.proofs.TempKinds.{kind_at, kind_or, own_kind, carried_at}
use Rattle.un_model.proofs.Readings.{Solved, numbered, fit_kinds, placed_good}
use Rattle.un_emit.proofs.BlockJobs.{InRegion}
use Rattle.un_emit.proofs.BlockValues.{of_all}
use Rattle.un_ir.specs.declared.extended.ExtOp.{ExtOp}
use Rattle.un_ir.specs.Linear.{is_in}
use Rattle.un_ir.specs.Extended.{defined_kinds}
use Rattle.un_emit.proofs.BlockEdges.{starts, start_in}
use Rattle.un_emit.proofs.BlockEnds.{owner_of}
use Rattle.un_emit.proofs.BlockStarts.{parts}
use Rattle.un_emit.proofs.Stack.{placed_for}

module _ (e : Ext) (o : Options) (values : List ℕ) (h : Solved e o values) (k : ℕ) (block : ExtBlock)
    (r : InRegion (all e o values) k block) (at : slice_get e.blocks k ≡ Some block) where
  -- the values at the block's start
  pub record InOp : Type 0 where
    pub placed : Placed
    pub member : Member placed (region_placed r.region)
    pub kind : placed.op.kind ≡ In
    pub results : in_temps block.ops ≡ placed.op.results

  pub in_op : InOp
  in_op =
      let ps = parts e o values h k block r at in
      let p = ps.0 in
      let is = ps.1 in
      let z = placed_for e o values h k block r at p.start (start_in block.ops p is) in
      record {
        placed = z.0;
        member = z.1;
        kind = in_kind z.0.op.kind (ap (λ (x : ExtOp). is_in x.kind) z.2 ∙ is.start);
        results = starts block.ops p is ∙ ap (λ (x : ExtOp). x.results) (sym z.2);
      }
    where
      in_kind : (x : ExtKind) → is_in x ≡ true → x ≡ In
      in_kind In q = refl
      in_kind _ q = absurd (cc q)

  pub start_count : length (in_temps block.ops) ≡ length block.live_in + length (saved_registers e.table)
  start_count =
      let i = in_op in
      let p = i.placed in
      let g = placed_good e o values h p (of_all e o values h k block r p i.member).0 in
      let f = g.keeps in
      ap length i.results ∙ f.results ∙ ap (result_count e.table p.owner) i.kind
      ∙ ap (λ (b : ExtBlock). length b.live_in + length (saved_registers e.table)) (owner_of e o values h k block r at p i.member)

  pub start_kind : (j : ℕ) (x : TempId) → slice_get (in_temps block.ops) j ≡ Some x
      → kind_at e o values (numbered e o values h) (fit_kinds e o values h) x.0 ≡ kind_or
      (in_kinds e.names block.live_in (length (in_temps block.ops))) j
  start_kind j x q =
      let i = in_op in
      let p = i.placed in
      let m = (of_all e o values h k block r p i.member).0 in
      let got : slice_get p.op.results j ≡ Some x = ap (λ xs. slice_get xs j) (sym i.results) ∙ q in
      let u = spot p j x in
      let mu = member_joined (map spots_of (all e o values)) (spots_of p) u (member_map spots_of (all e o values) p m)
      (member_places (spot p) p.op.results 0 j j x (omega arith) got) in
      own_kind e o values (numbered e o values h) (fit_kinds e o values h) u mu (ap (λ (y : ExtKind). carried_at y u) i.kind)
      ∙ ap (λ (y : ExtKind). kind_or (defined_kinds e.names p.owner y p.op) j) i.kind
      ∙ ap (λ (b : ExtBlock). kind_or (in_kinds e.names b.live_in (length p.op.results)) j) (owner_of e o values h k block r at p i.member)
      ∙ ap (λ n. kind_or (in_kinds e.names block.live_in n) j) (ap length (sym i.results))
