-- The emitted code of a solution keeps the rules of code, which the type `Code` asks of its parts. What emits it needs this alone:
--   keeps_rules : (e : Ext) (o : Options) (values : List ℕ) → Solved e o values
--       → KeepsRules (frame_of (model_of e o) values) (code_blocks (model_of e o) values)
use Rattle.std.proofs.Common.{ℕ, ◌≡◌, ◌≢◌, ◌<◌, ◌≤◌, ◌+◌, ◌-◌, true, List, [], ◌∷◌, length, map, refl, sym, ap, ◌∙◌, subst, arith, All}
use Rattle.std.proofs.Common.{AllPairs, Contains}
use Rattle.std.specs.Prelude.{Some, slice_get, IsSomeAnd}
use Rattle.std.specs.List.{range_with_len}
use Rattle.std.specs.Option.{option_map}
use Rattle.un_base.specs.Names.{is_name}
use Rattle.un_ir.specs.declared.extended.ExtBlock.{ExtBlock}
use Rattle.un_ir.specs.declared.extended.Ext.{Ext}
use Rattle.un_model.specs.declared.model.Options.{Options}
use Rattle.un_model.specs.Emission.{frame_of}
use Rattle.un_model.specs.Variables.{model_of}
use Rattle.un_packet.specs.CodeRules.{KeepsRules, IsGoodCodeBlock, IsGoodPacket, IsGoodInstr, EndsByLeaving, TransfersLast, labels_of}
use Rattle.un_packet.specs.declared.code.CodeBlock.{CodeBlock}
use Rattle.un_packet.specs.declared.code.Packet.{Packet}
use Rattle.un_emit.specs.Emitted.{code_blocks}
use Rattle.un_emit.proofs.BlockJobs.{each_job}
use Rattle.un_emit.proofs.BlockTimed.{here}
use Rattle.un_emit.proofs.Codes.{labels_kept}
use Rattle.un_emit.proofs.Costs.{block_number, frame_whole}
use Rattle.un_emit.proofs.Cycles.{packet_of, each_packet}
use Rattle.un_emit.proofs.Emission.{is_code}
use Rattle.un_emit.proofs.JobDeeds.{temps_of}
use Rattle.un_lists.proofs.Lists.{Pairwise, each_of, each_map, get_below, slice_get-map, length_get, pairwise_all, pairwise_map}
use Rattle.un_lists.proofs.Lists.{pairwise_of_map}
use Rattle.un_model.proofs.Placed.{region_placed}
use Rattle.un_emit.proofs.Places.{words, placing}
use Rattle.un_model.proofs.Readings.{Solved, good}
use Rattle.un_emit.proofs.RulesCounts.{few_packets}
use Rattle.un_emit.proofs.RulesEnds.{packets, jobs, the_end, timed, AllLead, LastLeaves, transfers_last, targets, ends_by_leaving}
use Rattle.un_emit.proofs.RulesFrame.{small}
use Rattle.un_emit.proofs.RulesFresh.{fresh}
use Rattle.un_emit.proofs.RulesInstrs.{good_instr, named_blocks}
use Rattle.un_emit.proofs.RulesLists.{all_each, all_pairwise, all_places, contains_at, some_and, range_below}
use Rattle.un_emit.proofs.RulesRoom.{fit_packet, idle_alone}
use Rattle.un_emit.proofs.RulesWriters.{one_writer}
use Rattle.un_emit.proofs.Runs.{region}
use Rattle.un_emit.proofs.Timed.{Job, instrs, nop, jobs_at, or_rest, packet_jobs, together}

abbrev label_of : ExtBlock → List ℕ
label_of block = block.label

good_nop : (frame : ℕ) → IsGoodInstr frame nop
good_nop frame = record { reads = refl; writes = refl; stack = λ z. absurd (cc z); base = tt; literal = refl; label = refl }

some_rest : (c : ℕ) (js : List Job) → 0 < length (instrs (or_rest c js))
some_rest c [] = omega arith
some_rest c (j ∷ js) = omega arith

module _ (e : Ext) (o : Options) (values : List ℕ) (h : Solved e o values) where
  abbrev frame : ℕ
  frame = frame_of (model_of e o) values

  abbrev blocks : List CodeBlock
  blocks = code_blocks (model_of e o) values

  -- ---- labels

  abbrev labels : List (List ℕ)
  labels = labels_of (code_blocks (model_of e o) values)

  labels_are : labels ≡ map (λ (b : ExtBlock). b.label) e.blocks
  labels_are = labels_kept (model_of e o) values 0 e.blocks

  known : (b : ℕ) (to : ExtBlock) → slice_get e.blocks b ≡ Some to → Contains labels to.label
  known b to q =
      let mapped = slice_get-map (λ (b : ExtBlock). b.label) e.blocks b in
      contains_at labels b to.label (ap (λ ls. slice_get ls b) labels_are ∙ mapped ∙ ap (option_map (λ (b : ExtBlock). b.label)) q)

  abbrev Differ : List ℕ → List ℕ → Type 0
  Differ a b = a ≢ b

  distinct : AllPairs (λ (a b : CodeBlock). a.label ≢ b.label) blocks
  distinct =
      let g = good e o values h in
      let own = pairwise_all (λ (a b : ExtBlock). a.label ≢ b.label) e.blocks g.distinct_labels in
      let pairs = subst (Pairwise Differ) (sym labels_are) (pairwise_map Differ (λ (b : ExtBlock). b.label) e.blocks own) in
      all_pairwise (λ (a b : CodeBlock). a.label ≢ b.label) blocks (pairwise_of_map Differ (λ (c : CodeBlock). c.label) blocks pairs)

  named_at : (k : ℕ) (c : CodeBlock) → slice_get blocks k ≡ Some c → is_name c.label ≡ true
  named_at k c q =
      let n = block_number e o values in
      let lt = length_get blocks k c q in
      let b = get_below e.blocks k (omega (arith, n, lt)) in
      let own : Some c.label ≡ Some (label_of b.0) =
      sym (slice_get-map (λ (x : CodeBlock). x.label) blocks k ∙ ap (option_map (λ (x : CodeBlock). x.label)) q)
      ∙ ap (λ ls. slice_get ls k) labels_are ∙ slice_get-map label_of e.blocks k ∙ ap (option_map label_of) b.1 in
      let same : c.label ≡ label_of b.0 = cc own in
      rw same (named_blocks e o values h k b.0 b.1)

  -- ---- blocks

  module _ (k : ℕ) (block : ExtBlock) (at : slice_get e.blocks k ≡ Some block) where
    abbrev own_jobs : List Job
    own_jobs = jobs e o values h k block (region e o values h k block at) at

    abbrev own_end : ℕ
    own_end = the_end e o values h k block (region e o values h k block at) at

    abbrev own_packets : List Packet
    own_packets = packets e o values h k block (region e o values h k block at) at

    good_jobs : (c : ℕ) → All (IsGoodInstr frame) (instrs (packet_jobs own_jobs c))
    good_jobs c =
        let r = region e o values h k block at in
        let js = packet_jobs own_jobs c in
        let Good : Job → Type 0 = λ j. IsGoodInstr frame j.instr in
        let each = each_packet Good own_jobs c (each_job e o values h Good (region_placed r.region) (λ p j m g.
        good_instr e o values h p (here e o values h (words e o values h) (placing e o values h) k block r p m) j g)) (good_nop frame) in
        all_each (IsGoodInstr frame) (instrs js) (each_map (IsGoodInstr frame) (λ (j : Job). j.instr) js each)

    good_packet : (c : ℕ) → 1 ≤ c → IsGoodPacket frame (packet_of own_jobs c)
    good_packet c le =
        let r = region e o values h k block at in
        let t = timed e o values h k block r at in
        let temps = temps_of e o values h k in
        let w = together e.table temps (words e o values h) own_end own_jobs c t le in
        record {
          some = some_rest c (jobs_at own_jobs c);
          instrs = good_jobs c;
          counts = fit_packet e o values h k block r c;
          idle = idle_alone e o values h k block r c;
          one_writer = one_writer e.table temps (words e o values h) c h.fit t.temps (packet_jobs own_jobs c) w;
          fresh = fresh e.table temps (words e o values h) c (packet_jobs own_jobs c) w;
        }

    good_packets : All (IsGoodPacket frame) own_packets
    good_packets =
        let cycles = range_with_len 1 (own_end - 1) in
        let Good : ℕ → Type 0 = λ c. IsGoodPacket frame (packet_of own_jobs c) in
        all_each (IsGoodPacket frame) own_packets (each_map (IsGoodPacket frame) (packet_of own_jobs) cycles
        (each_of Good cycles (λ c m. good_packet c (range_below 1 (own_end - 1) c m).0)))

    abbrev code_at : (c : CodeBlock) × (slice_get blocks k ≡ Some c) × (c.packets ≡ own_packets)
    code_at = let x = is_code e o values h in x.code_at k block at

    good_block : IsGoodCodeBlock frame labels code_at.0
    good_block =
        let c = code_at in
        let r = region e o values h k block at in
        record {
          packets = subst (All (IsGoodPacket frame)) (sym c.2) good_packets;
          transfers_last = subst TransfersLast (sym c.2) (transfers_last e o values h k block r at);
          targets = subst (All (AllLead labels)) (sym c.2) (targets e o values h k block r at labels known);
        }

    leaving : k + 1 ≡ length e.blocks → EndsByLeaving code_at.0
    leaving s = let c = code_at in subst LastLeaves (sym c.2) (ends_by_leaving e o values h k block (region e o values h k block at) at s)

  good_at : (k : ℕ) (c : CodeBlock) → slice_get blocks k ≡ Some c → IsGoodCodeBlock frame labels c
  good_at k c q =
      let n = block_number e o values in
      let lt = length_get blocks k c q in
      let b = get_below e.blocks k (omega (arith, n, lt)) in
      let z = code_at k b.0 b.1 in
      let same : Some z.0 ≡ Some c = sym z.1 ∙ q in
      subst (IsGoodCodeBlock frame labels) (cc same) (good_block k b.0 b.1)

  last_at : (k : ℕ) → k + 1 ≡ length blocks → IsSomeAnd (slice_get blocks k) EndsByLeaving
  last_at k s =
      let n = block_number e o values in
      let b = get_below e.blocks k (omega (arith, n, s)) in
      let z = code_at k b.0 b.1 in
      some_and EndsByLeaving (slice_get blocks k) z.0 z.1 (leaving k b.0 b.1 (s ∙ n))

  pub keeps_rules : KeepsRules (frame_of (model_of e o) values) (code_blocks (model_of e o) values)
  keeps_rules =
      let g = good e o values h in
      let n = block_number e o values in
      let entry = g.entry in
      let few = g.few in
      record {
        whole = frame_whole e o values;
        small = small e o values h;
        some = omega (arith, n, entry);
        few_blocks = omega (arith, n, few);
        few_packets = few_packets e o values h;
        named = all_places (λ (b : CodeBlock). is_name b.label ≡ true) blocks named_at;
        distinct_labels = distinct;
        good_blocks = all_places (IsGoodCodeBlock frame labels) blocks good_at;
        last = last_at;
      }
