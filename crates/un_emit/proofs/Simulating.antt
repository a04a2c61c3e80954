-- The packets that a solution comes to do what the source does, where the extended function's runs are those of the source.
use Rattle.std.proofs.Common.{ℕ, zero, suc, ◌≡◌, ◌≢◌, ◌<◌, ◌≤◌, ◌+◌, true, List, [], ◌∷◌, map, inl, inr, ⊎_elim, sym, ap, ◌∙◌, subst, arith}
use Rattle.std.specs.Prelude.{slice_get, slice_index}
use Rattle.std.specs.Option.{option_map}
use Rattle.std.proofs.lemmas.Bool.{cases_eq}
use Rattle.std.specs.List.{range_with_len, zip}
use Rattle.un_base.specs.declared.ids.NameId.{NameId}
use Rattle.std.proofs.Math.Logic.{∥∥₁_elim}
use Rattle.std.proofs.Math.Bridge.{le_prop}
use Rattle.un_simulation.proofs.Startable.{start_for}
use Rattle.un_isa.specs.Registers.{callee_saved}
use Rattle.un_isa.specs.Tables.{in_mask}
use Rattle.un_isa.specs.declared.reg.TheConstants.{STACK, FRAME}
use Rattle.un_isa.specs.declared.start.Start.{Start}
use Rattle.un_isa.specs.declared.table.Table.{Table}
use Rattle.un_ir.specs.declared.function.Function.{Function}
use Rattle.un_ir.specs.declared.extended.ExtBlock.{ExtBlock}
use Rattle.un_ir.specs.declared.extended.Ext.{Ext}
use Rattle.un_ir.specs.Runs.{as_linear, stop_with}
use Rattle.un_ir.specs.Source.{SourceState, SourceStop, Returned, Trapped, Waiting, Running, source_run}
use Rattle.un_ir.specs.Linear.{World, LinearRun}
use Rattle.un_model.specs.declared.model.BlockVars.{BlockVars}
use Rattle.un_model.specs.declared.model.Model.{Model}
use Rattle.un_model.specs.declared.model.Options.{Options}
use Rattle.un_model.specs.Emission.{frame_of}
use Rattle.un_model.specs.Variables.{model_of, blocks_vars}
use Rattle.un_packet.specs.declared.code.Code.{Code}
use Rattle.un_packet.specs.declared.code.CodeBlock.{CodeBlock}
use Rattle.un_packet.specs.Step.{PacketState, PacketStop, Returned as ReturnedTo, Trapped as TrappedAt, Waiting as WaitingFor}
use Rattle.un_packet.specs.Step.{Running as RunningAt}
use Rattle.un_packet.specs.Run.{PacketRun, NeverWaits, first_state, enter, packet_run}
use Rattle.un_simulation.specs.Simulation.{CanStart, Agrees, StopsAgree, Simulates}
use Rattle.un_emit.specs.Emitted.{code_block, code_blocks, IsEmitted, start_places}
use Rattle.un_emit.specs.OfSource.{IsOfSource}
use Rattle.un_emit.proofs.Codes.{labels_kept}
use Rattle.un_lists.proofs.Lists.{Member, member_filter, slice_get-map}
use Rattle.un_model.proofs.Readings.{Solved}
use Rattle.un_emit.proofs.Runs.{RunsAlike, StopsAlike}
use Rattle.un_emit.proofs.Emission.{runs_alike}
use Rattle.un_emit.proofs.LiveStands.{live_stand}
use Rattle.un_emit.proofs.OfSource.{labels_at}

member_range : (a n r : ℕ) → a ≤ r → r < a + n → Member r (range_with_len a n)
member_range a zero r le lt = absurd (omega arith)
member_range a (suc n) r le lt = ⊎_elim (λ (e : a ≡ r). inl e) (λ (ne : a ≢ r). inr (member_range (a + 1) n r (omega arith) (omega arith)))
    (cases_eq a r)

is_saved : (t : Table) (r : ℕ) → r < 32 → in_mask t.saved r ≡ true → Member r (callee_saved t)
unfolding callee_saved
is_saved t r lt q = member_filter (in_mask t.saved) (range_with_len 0 32) r (member_range 0 32 r (omega arith) (omega arith)) q

-- where two maps of a list are the same, they are the same at each member
same_at : (f g : ℕ → ℕ) (xs : List ℕ) (x : ℕ) → map f xs ≡ map g xs → Member x xs → f x ≡ g x
same_at f g [] x q m = elim m [ ]
same_at f g (y ∷ xs) x q (inl e) = let z : f y ≡ g y = head (map f xs) (map g xs) (f y) (g y) q in sym (ap f e) ∙ z ∙ ap g e
  where
    first : List ℕ → ℕ
    first [] = 0
    first (x ∷ xs) = x

    head : (us vs : List ℕ) (u v : ℕ) → u ∷ us ≡ v ∷ vs → u ≡ v
    head us vs u v q = ap first q
same_at f g (y ∷ xs) x q (inr m) = same_at f g xs x (ap rest q) m
  where
    rest : List ℕ → List ℕ
    rest [] = []
    rest (x ∷ xs) = xs

-- the labels of the code are those of the extended function
labels_are : (m : Model) (values : List ℕ) (blocks : List ExtBlock) (b : ℕ)
    → option_map (λ (c : CodeBlock). c.label) (slice_get (map (λ (b : ExtBlock × BlockVars). code_block m values b.0 b.1)
    (zip blocks (blocks_vars 0 blocks))) b)
    ≡ option_map (λ (c : ExtBlock). c.label) (slice_get blocks b)
labels_are m values blocks b =
    let cs = map (λ (b : ExtBlock × BlockVars). code_block m values b.0 b.1) (zip blocks (blocks_vars 0 blocks)) in
    sym (slice_get-map (λ (c : CodeBlock). c.label) cs b) ∙ ap (λ ls. slice_get ls b) (labels_kept m values 0 blocks)
    ∙ slice_get-map (λ (c : ExtBlock). c.label) blocks b

module _ (e : Ext) (o : Options) (values : List ℕ) (h : Solved e o values) (f : Function) (lists : List (List NameId))
    (of : IsOfSource f lists e) (code : Code) (is : IsEmitted (model_of e o) values code) where
  module _ (start : Start) (can : CanStart start code.frame) where
    stops : (x : SourceStop) (st : SourceState) (y : PacketStop) (p : PacketState)
        → StopsAlike e o values h (slice_index start.regs STACK) (stop_with e.table start lists st.values x) y p
        → StopsAgree e.table f (start_places (model_of e o) values) code start x st y p
    stops (Returned v) st (ReturnedTo r target) p a = (
      a.0,
      a.1,
      record {
        saved = λ r lt q. same_at (slice_index p.regs) (slice_index start.regs) (callee_saved e.table) r a.2 (is_saved e.table r lt q);
        stack = a.3;
      },
    )
    stops (Returned v) st TrappedAt p a = absurd a
    stops (Returned v) st (WaitingFor d) p a = absurd a
    stops (Returned v) st (RunningAt d) p a = absurd a
    stops Trapped st (ReturnedTo r target) p a = absurd a
    stops Trapped st TrappedAt p a = tt
    stops Trapped st (WaitingFor d) p a = absurd a
    stops Trapped st (RunningAt d) p a = absurd a
    stops (Waiting c) st (ReturnedTo r target) p a = absurd a
    stops (Waiting c) st TrappedAt p a = absurd a
    stops (Waiting c) st (WaitingFor d) p a = a
    stops (Waiting c) st (RunningAt d) p a = absurd a
    stops (Running b) st (ReturnedTo r target) p a = absurd a
    stops (Running b) st TrappedAt p a = absurd a
    stops (Running b) st (WaitingFor d) p a = absurd a
    stops (Running b) st (RunningAt d) p a = (
      labels_at f lists e of b ∙ sym (labels_are (model_of e o) values e.blocks b)
          ∙ ap (λ n. option_map (λ (c : CodeBlock). c.label) (slice_get (code_blocks (model_of e o) values) n)) a.0
          ∙ ap (λ (bs : List CodeBlock). option_map (λ (c : CodeBlock). c.label) (slice_get bs d)) (sym is.blocks),
      live_stand e o values h f lists of start b st p a.1,
    )

    can_here : CanStart start (frame_of (model_of e o) values)
    can_here = subst (CanStart start) is.frame can

    run_is : (n : ℕ) → enter e.table (code_blocks (model_of e o) values) n 0 (first_state (frame_of (model_of e o) values) start) ≡
        packet_run e.table code start n
    run_is n = ap (λ (bs : List CodeBlock). enter e.table bs n 0 (first_state (frame_of (model_of e o) values) start)) (sym is.blocks)
        ∙ ap (λ (m : ℕ). enter e.table code.blocks n 0 (first_state m start)) (sym is.frame)

    pub agrees : (n : ℕ) → Agrees e.table f (start_places (model_of e o) values) code start (source_run f start n)
        (packet_run e.table code start n)
    agrees n =
        let a = (runs_alike e o values h start can_here n).0 in
        let b = subst (λ (l : LinearRun). RunsAlike e o values h (slice_index start.regs STACK) l
        (enter e.table (code_blocks (model_of e o) values) n 0 (first_state (frame_of (model_of e o) values) start)))
        (of.runs start n can.regs_len) a in
        let c = subst (λ (p : PacketRun). RunsAlike e o values h (slice_index start.regs STACK)
        (as_linear e.table start lists (source_run f start n)) p) (run_is n) b in
        let x = source_run f start n in
        let y = packet_run e.table code start n in
        record {
          stop = stops x.stop x.state y.stop y.state c.stop;
          memory = sym (ap (λ (w : World). w.memory) c.world);
          calls = sym (ap (λ (w : World). w.calls) c.world);
        }

    pub never_waits : (n : ℕ) → NeverWaits e.table code.blocks n 0 (first_state code.frame start)
    never_waits n =
        let a = (runs_alike e o values h start can_here n).1 in
        subst (λ (m : ℕ). NeverWaits e.table code.blocks n 0 (first_state m start)) (sym is.frame)
        (subst (λ (bs : List CodeBlock). NeverWaits e.table bs n 0 (first_state (frame_of (model_of e o) values) start)) (sym is.blocks)
        a)

  -- the rules of code bound the frame, so there is a start with room for it
  frame_small : code.frame ≤ FRAME
  frame_small = ∥∥₁_elim code.rules le_prop (λ k. k.small)

  pub simulates : Simulates e.table f (start_places (model_of e o) values) code
  simulates = record {
    has_start = start_for code.frame frame_small;
    agrees = λ s n can. agrees s can n;
    never_waits = λ s n can. never_waits s can n;
  }
