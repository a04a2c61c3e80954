-- An operation of the source: its operands are reloaded, it issues, and its result is spilled.
use Rattle.std.proofs.Common.{◌≡◌, ◌≢◌, ℕ, ◌+◌, ◌≤◌, Bool, true, false, List, [], ◌∷◌, ◌++◌, length, map, replicate, Option, Some, None}
use Rattle.std.proofs.Common.{refl, sym, ap, subst, ◌∙◌, append_assoc, arith}
use Rattle.std.specs.Prelude.{nat_lt, if◌then◌else◌, slice_index, IfSome, All}
use Rattle.std.specs.Option.{option_to_list}
use Rattle.std.proofs.lemmas.Bool.Decides.{nat_tests}
use Rattle.std.proofs.lemmas.List.{length-append, length-map}
use Rattle.std.proofs.lemmas.List.Elements.{All-nil, All-cons}
use Rattle.un_base.specs.declared.ids.NameId.{NameId}
use Rattle.un_base.specs.declared.ids.TempId.{TempId}
use Rattle.un_isa.specs.declared.op.Op.{Op}
use Rattle.un_isa.specs.declared.op.Op.TheVariants.{Call, Spill, P2R}
use Rattle.un_isa.specs.declared.reg.Space.{Space}
use Rattle.un_isa.specs.declared.reg.Space.TheVariants.{R, P, M}
use Rattle.un_isa.specs.Facts.{result_space}
use Rattle.un_isa.specs.Fit.{IsFit}
use Rattle.un_isa.specs.Tables.{latency_of, in_mask}
use Rattle.un_ir.specs.declared.function.Kind.{Kind}
use Rattle.un_ir.specs.declared.function.Kind.TheVariants.{General, Pred}
use Rattle.un_ir.specs.declared.function.SrcOp.{SrcOp}
use Rattle.un_ir.specs.declared.extended.NodeCopy.TheVariants.{D, D2}
use Rattle.un_ir.specs.declared.extended.ExtKind.TheVariants.{Body}
use Rattle.un_ir.specs.declared.extended.Operand.{Operand}
use Rattle.un_ir.specs.declared.extended.ExtOp.{ExtOp}
use Rattle.un_ir.specs.declared.extended.ExtBlock.{ExtBlock}
use Rattle.un_ir.specs.declared.extended.Ext.{Ext}
use Rattle.un_ir.specs.declared.extended.Growth.{Growth}
use Rattle.un_ir.specs.declared.extended.Sort.{Sort}
use Rattle.un_ir.specs.declared.extended.TheConstants.{SPILL, FROM_PREDICATE}
use Rattle.un_ir.specs.Extended.{temp, name_kind}
use Rattle.un_ir.specs.ExtendOf.{copy_op, copy_count_by, own_temps, with_value, with_operands, new_operands, with_results, with_extended}
use Rattle.un_ir.specs.WellFormed.{kind_given, result_kind}
use Rattle.un_model.specs.declared.schedule.Read.{Read}
use Rattle.un_model.specs.Instructions.{space_given, gives_truth, is_predicate_space}
use Rattle.un_model.specs.Pairs.{places_from}
use Rattle.un_model.specs.Schedules.{chosen}
use Rattle.un_model.specs.Solutions.{InSpace}
use Rattle.un_baseline.specs.declared.plan.Definer.TheVariants.{Assigns}
use Rattle.un_baseline.specs.declared.plan.Setting.{Setting}
use Rattle.un_baseline.specs.declared.plan.Progress.{Progress}
use Rattle.un_baseline.specs.declared.plan.TheConstants.{PREDICATE}
use Rattle.un_baseline.specs.Plans.{Step, planned_issue, planned_read}
use Rattle.un_baseline.specs.SpillEverywhere.{purpose_at, slot_of, last_place, kept_place, kept_by_kind, first_copy, second_copy}
use Rattle.un_baseline.specs.SpillEverywhere.{operand_place, copies_of, other_progress, assigning}
use Rattle.un_baseline.proofs.Made.{made_at}
use Rattle.un_baseline.proofs.Carried.{Carries, carries_same, carries_operands, carries_value, carries_new, operands_onward}
use Rattle.un_baseline.proofs.Grown.{copy_ops, operands_ops, extended_ops, value_next, enter_none, enter_same}
use Rattle.un_baseline.proofs.Sound.{Seen, after}
use Rattle.un_baseline.proofs.Standing.{IsFew, no_item, one_item, Stands, Front, goes_front, goes_ok, goes_stands, goes_new_stands}
use Rattle.un_baseline.proofs.Walk.{Good, moving_copy}
use Rattle.un_baseline.proofs.Arrivals.{Kept, AreArrived, AreFor, AreReady, operands_arrive, reads_good, reads_timed, last_places}
use Rattle.un_baseline.proofs.Arrivals.{slot_space, sort_by}
use Rattle.un_baseline.proofs.Items.{append_nil}

module _ (c : ℕ) (H : Seen → List Read → Type 0) (b end : ℕ) (e : Ext) (block : ExtBlock) (s : Setting) (fit : IsFit e.table) where
  abbrev G : ℕ → Progress → Seen → List ExtOp → Type 0
  G = Good c H b end e block s fit

  -- ---- the operation

  pub record Ran (o : Op) (registers : List ℕ) (now : ℕ) (seen seen' : Seen) : Type 0 where
    pub longer : length seen'.made ≡ length seen.made + length registers
    pub front : Front c b now seen'
    pub new : (r : ℕ) → registers ≡ r ∷ [] → Stands c b (length seen.made) r seen'
    pub stands : (k q : ℕ) → All (λ (x : ℕ). x ≢ q) registers → (o ≡ Call → in_mask c q ≡ false) → Stands c b k q seen
        → Stands c b k q seen'

  abbrev body : SrcOp → List Operand → List TempId → ExtOp
  body o ys results = record { kind = Body o; operands = ys; results = results }

  abbrev pub body_register : Op → ℕ
  body_register o = if gives_truth o then PREDICATE else 0

  pub body_runs : (n : ℕ) (p : Progress) (seen : Seen) (o : SrcOp) (ys : List Operand) (results : List TempId) (rest : List ExtOp)
      (rooms : List ℕ)
      → AreArrived c H b end e block s fit rooms ys seen → AreFor c H b end e block s fit o.op 0 rooms ys → Front c b p.cycle seen
      → IsFew (replicate (length results) (body_register o.op))
      → All (λ (r : ℕ). InSpace r (space_given (Some o.op))) (replicate (length results) (body_register o.op))
      → ((seen' : Seen) → Ran o.op (replicate (length results) (body_register o.op)) (p.cycle + latency_of e.table o.op) seen seen'
      → G (n + 1) (other_progress (p.cycle + latency_of e.table o.op) (assigning o.dst)) seen' rest)
      → G n p seen (body o ys results ∷ rest)
  body_runs n p seen o ys results rest rooms arrived for front few given go =
      let registers = replicate (length results) (body_register o.op) in
      let op = body o ys results in
      let st : Step = record { instr = 0; cycle = p.cycle; choices = map operand_place ys; registers = registers } in
      let i = planned_issue b end n op st in
      let rs = places_from (planned_read i st) 0 ys in
      let good = reads_good c H b end e block s fit i st o.op seen refl refl rooms ys 0
      (λ m y got. (let at : 0 + m ≡ m = omega arith in ap (slice_index (map operand_place ys)) at)
      ∙ last_places c H b end e block s fit ys m y got) arrived for in
      let times = reads_timed c H b end e block s fit i st 0 ys in
      let seen' = after seen i rs (map (made_at i) registers) in
      let positive = (fit.latencies o.op).0 in
      let same_op : (call : Some o.op ≡ Some Call) → o.op ≡ Call = λ call. cc call in
      let ran : Ran o.op registers (p.cycle + latency_of e.table o.op) seen seen' = record {
        longer = length-append seen.made (map (made_at i) registers) ∙ ap (λ (k : ℕ). length seen.made + k)
            (length-map registers (made_at i));
        front = goes_front c b seen i rs registers p.cycle few refl front (omega arith) times good (p.cycle + latency_of e.table o.op)
            (omega arith);
        new = λ r is. subst (λ (xs : List ℕ). Stands c b (length seen.made) r (after seen i rs (map (made_at i) xs))) (sym is)
            (goes_new_stands c b seen i rs registers p.cycle few refl front (omega arith) times good r refl);
        stands = λ k q others call st'. goes_stands c b seen i rs registers p.cycle few refl front (omega arith) times good k q st' others
            (λ is. call (same_op is));
      } in
      ((goes_ok c b seen i rs registers p.cycle few refl front (omega arith) times good given, tt), go seen' ran)

  -- ---- its result

  -- what the copies of a result leave: it is kept in its slot
  pub record Spilled (name : NameId) (kind : Kind) (m now : ℕ) (seen seen' : Seen) : Type 0 where
    pub longer : length seen'.made ≡ m + 1 + copy_count_by kind true
    pub front : Front c b now seen'
    pub new : Stands c b (m + copies_of kind) (slot_of name) seen'
    pub stands : (k q : ℕ) → q ≢ 0 → q ≢ slot_of name → Stands c b k q seen → Stands c b k q seen'

  abbrev register_by : Kind → ℕ
  register_by General = 0
  register_by Pred = PREDICATE

  first_by : (p : Progress) (name : NameId) (kind : Kind) → p.definer ≡ Assigns name → name_kind e.names name ≡ kind
      → first_copy e.names block.live_in s p p.definer ≡ kept_by_kind kind name p.cycle
  first_by p name kind d k = ap (first_copy e.names block.live_in s p) d ∙ ap (λ (x : Kind). kept_by_kind x name p.cycle) k

  pub result_spills : (kind : Kind) (n m : ℕ) (p : Progress) (seen : Seen) (name : NameId) (rest : List ExtOp) → p.definer ≡ Assigns name
      → name_kind e.names name ≡ kind → Stands c b m (register_by kind) seen → length seen.made ≡ m + 1 → Front c b p.cycle seen
      → ((k : ℕ) (p' : Progress) (seen' : Seen) → p.cycle ≤ p'.cycle → p'.operands ≡ p.operands → Spilled name kind m p'.cycle seen seen'
      → G k p' seen' rest)
      → G n p seen (copy_ops D D2 kind true (temp m ∷ []) (m + 1) ++ rest)
  result_spills General n m p seen name rest d is stands size front go =
      moving_copy c H b end e block s fit n p seen D (temp m ∷ []) (m + 1) rest (purpose_at s.term rest) SPILL 0
      (slot_of name) Spill m 0 refl
      (first_by p name General d is) refl (λ z. cc z) refl refl stands front refl (slot_space (slot_of name) (omega arith))
      (λ seen' moved. go (n + 1) (record {
        cycle = p.cycle + latency_of e.table Spill;
        values = p.values + 1;
        operands = p.operands;
        definer = p.definer;
      }) seen' (omega arith) refl (record {
        longer = moved.longer ∙ ap (λ (k : ℕ). k + 1) size;
        front = moved.front;
        new = subst (λ (k : ℕ). Stands c b k (slot_of name) seen') size moved.new;
        stands = λ k q low other st. moved.stands k q other st;
      }))
  result_spills Pred n m p seen name rest d is stands size front go =
      let alts = (temp m ∷ []) ++ temp (m + 1) ∷ [] in
      let p' : Progress = record {
        cycle = p.cycle + latency_of e.table P2R;
        values = p.values + 1;
        operands = p.operands;
        definer = p.definer;
      } in
      moving_copy c H b end e block s fit n p seen D (temp m ∷ []) (m + 1) (copy_op D2 alts (m + 1 + 1) ∷ rest)
      (purpose_at s.term rest) FROM_PREDICATE 0 0 P2R m PREDICATE refl
      (first_by p name Pred d is) refl (λ z. cc z) refl refl stands front refl refl
      (λ mid moved.
      moving_copy c H b end e block s fit (n + 1) p' mid D2 alts (m + 1 + 1) rest (purpose_at s.term rest) SPILL (last_place alts)
      (slot_of name) Spill (length seen.made) 0 refl
      (ap (second_copy p' alts) d) refl (λ z. cc z) refl (sym size) moved.new moved.front refl (slot_space (slot_of name) (omega arith))
      (λ seen' moved'. go (n + 1 + 1) (record {
        cycle = p'.cycle + latency_of e.table Spill;
        values = p'.values;
        operands = p'.operands;
        definer = p'.definer;
      }) seen' (omega arith) refl (record {
        longer = (let l = moved.longer in let l' = moved'.longer in omega arith);
        front = moved'.front;
        new = subst (λ (k : ℕ). Stands c b k (slot_of name) seen') (let l = moved.longer in omega arith) moved'.new;
        stands = λ k q low other st. moved'.stands k q other (moved.stands k q low st);
      })))

  -- ---- all of it

  -- registers that operations leave alone
  pub record Safe (r : ℕ) : Type 0 where
    pub high : 6 ≤ r
    pub other : r ≢ PREDICATE
    pub spared : in_mask c r ≡ false

  -- a name's value is kept in its slot
  pub record Named (g : Growth) (seen : Seen) (x : ℕ) (name : NameId) : Type 0 where
    pub kept : Kept c H b end e block s fit g seen x (name_kind e.names name)
    pub room : kept.room ≡ slot_of name

  pub record Grew (dst : Option NameId) (g g' : Growth) (now : ℕ) (seen seen' : Seen) : Type 0 where
    pub size : length seen'.made ≡ g'.next
    pub grows : g.next ≤ g'.next
    pub front : Front c b now seen'
    pub stands : (k r : ℕ) → Safe r → IfSome dst (λ (name : NameId). r ≢ slot_of name) → Stands c b k r seen → Stands c b k r seen'
    pub carries : (x : ℕ) (own : List TempId) (sort : Sort) → Carries g x own sort → Carries g' x own sort
    pub values : length g'.values ≡ length g.values + length (option_to_list dst)
    pub new : IfSome dst (Named g' seen' (length g.values))

  -- ---- one operation of the linear function

  register_is : (space : Option Space) → register_by (kind_given space) ≡ (if is_predicate_space space then PREDICATE else 0)
  register_is None = refl
  register_is (Some R) = refl
  register_is (Some P) = refl
  register_is (Some M) = refl

  pub not_placed : (m placed : ℕ) → placed ≤ m → nat_lt m placed ≡ false
  not_placed m placed le = grind (arith, nat_tests)

  pub own_size : (kind : Kind) (m : ℕ) (here : Growth) → length (own_temps m (sort_by kind) here) ≡ 1 + copies_of kind
  own_size General m here = refl
  own_size Pred m here = refl

  pub own_last : (kind : Kind) (m : ℕ) (here : Growth) → here.next ≡ m + 1
      → (chosen (own_temps m (sort_by kind) here) (last_place (own_temps m (sort_by kind) here))).0 ≡ m + copies_of kind
  own_last General m here e = e
  own_last Pred m here e = omega arith

  kept_last : (kind : Kind) (m : ℕ) (here : Growth) → s.placed ≤ m → here.next ≡ m + 1
      → (chosen (own_temps m (sort_by kind) here) (kept_place s (own_temps m (sort_by kind) here))).0 ≡ m + copies_of kind
  kept_last kind m here le e =
      let own = own_temps m (sort_by kind) here in
      ap (λ (t : Bool). (chosen own (if t then 0 else last_place own)).0) (not_placed m s.placed le) ∙ own_last kind m here e

  pub record IsReadyOp (o : SrcOp) (xs : List Operand) (g : Growth) (seen : Seen) : Type 0 where
    pub rooms : List ℕ
    pub ready : AreReady c H b end e block s fit g seen xs rooms
    pub few : length xs ≤ 6
    pub for : AreFor c H b end e block s fit o.op 0 rooms (new_operands xs g)
    pub kind : IfSome o.dst (λ (name : NameId). name_kind e.names name ≡ result_kind o.op)
    pub given : IfSome o.dst (λ (name : NameId). InSpace (body_register o.op) (space_given (Some o.op)))

  module _ (live_in : List NameId) (entry saved : Bool) where
    abbrev body_at : SrcOp → List Operand → Option NameId → ℕ → ExtOp
    body_at o xs dst first = record { kind = Body o; operands = xs; results = map (λ (name : NameId). temp first) (option_to_list dst) }

    abbrev grown : ExtOp → Growth → Growth
    grown op g = with_extended e.names live_in entry saved op g

    body_with : (o : SrcOp) (xs : List Operand) (dst : Option NameId) (first n : ℕ) (p : Progress) (seen : Seen) (g : Growth)
        (rest : List ExtOp)
        → o.dst ≡ dst → IsReadyOp o xs g seen → s.placed ≤ g.next → p.operands ≡ 0 → Front c b p.cycle seen → length seen.made ≡ g.next
        → ((m : ℕ) (p' : Progress) (seen' : Seen) → p.cycle ≤ p'.cycle → p'.operands ≡ 0
        → Grew dst g (grown (body_at o xs dst first) g) p'.cycle seen seen' → G m p' seen' rest)
        → G n p seen (extended_ops e.names live_in entry saved (body_at o xs dst first) g ++ rest)
    body_with o xs None first n p seen g rest is ready placed none front size go =
        let read = with_operands xs g in
        let here = with_results (Body o) (new_operands xs g) 0 read in
        let made : ExtOp = record { kind = Body o; operands = new_operands xs g; results = [] } in
        let on = operands_onward xs g in
        let values = on.values in
        let next = on.next in
        subst (λ (es : List ExtOp). G n p seen ((operands_ops xs g ++ (made ∷ es)) ++ rest)) (sym (enter_none entry (Body o) (λ h. cc h)))
        (subst (G n p seen) (sym (append_assoc (operands_ops xs g) (made ∷ []) rest))
        (operands_arrive c H b end e block s fit xs ready.rooms n p seen g (made ∷ rest) ready.ready none ready.few front size refl
        (λ m q mid le a.
        body_runs m q mid o (new_operands xs g) [] rest ready.rooms a.arrived ready.for a.front no_item
        (All-nil (λ (r : ℕ). InSpace r (space_given (Some o.op))))
        (λ seen' ran. go (m + 1) (other_progress (q.cycle + latency_of e.table o.op) (assigning o.dst)) seen' (omega arith) refl
        (subst (λ (g' : Growth). Grew None g g' (q.cycle + latency_of e.table o.op) seen seen') (sym (enter_same entry o here))
        (record {
          size = ran.longer ∙ ap (λ (k : ℕ). k + 0) a.longer;
          grows = omega arith;
          front = ran.front;
          stands = λ k r safe other st. ran.stands k r (All-nil (λ (x : ℕ). x ≢ r)) (λ call. safe.spared)
              (a.stands k r safe.high safe.other st);
          carries = λ x own sort h. carries_same read here x own sort refl (carries_operands xs g x own sort h);
          values = omega arith;
          new = tt;
        }))))))
    body_with o xs (Some name) first n p seen g rest is ready placed none front size go =
        let kind = result_kind o.op in
        let sort = sort_by kind in
        let read = with_operands xs g in
        let here = with_results (Body o) (new_operands xs g) 1 read in
        let g' = with_value read.next sort here in
        let made : ExtOp = record { kind = Body o; operands = new_operands xs g; results = temp read.next ∷ [] } in
        let ds = copy_ops D D2 kind true (temp read.next ∷ []) (read.next + 1) in
        let on = operands_onward xs g in
        let values = on.values in
        let next = on.next in
        let register = body_register o.op in
        let same : register_by kind ≡ register = register_is (result_space o.op) in
        let kind_is : name_kind e.names name ≡ kind = subst (λ (d : Option NameId). IfSome d (λ (x : NameId). name_kind e.names x ≡ kind))
        is ready.kind in
        let given : InSpace register (space_given (Some o.op)) = subst (λ (d : Option NameId). IfSome d
        (λ (x : NameId). InSpace register (space_given (Some o.op)))) is ready.given in
        let tail : ((ds ++ []) ++ []) ++ rest ≡ ds ++ rest = ap (λ (os : List ExtOp). os ++ rest) (append_nil (ds ++ []) ∙ append_nil ds) in
        subst (λ (es : List ExtOp). G n p seen ((operands_ops xs g ++ (made ∷ ((ds ++ []) ++ es))) ++ rest))
        (sym (enter_none entry (Body o) (λ h. cc h)))
        (subst (G n p seen) (sym (append_assoc (operands_ops xs g) (made ∷ ((ds ++ []) ++ [])) rest))
        (operands_arrive c H b end e block s fit xs ready.rooms n p seen g (made ∷ (((ds ++ []) ++ []) ++ rest)) ready.ready none
        ready.few front size refl
        (λ m q mid le a.
        let after_body = other_progress (q.cycle + latency_of e.table o.op) (assigning o.dst) in
        body_runs m q mid o (new_operands xs g) (temp read.next ∷ []) (((ds ++ []) ++ []) ++ rest) ready.rooms a.arrived ready.for a.front
        (one_item register)
        (All-cons (λ (r : ℕ). InSpace r (space_given (Some o.op))) register [] given
        (All-nil (λ (r : ℕ). InSpace r (space_given (Some o.op)))))
        (λ seen1 ran.
        subst (λ (os : List ExtOp). G (m + 1) after_body seen1 os) (sym tail)
        (result_spills kind (m + 1) read.next after_body seen1 name rest (ap assigning is) kind_is
        (subst (λ (k : ℕ). Stands c b k (register_by kind) seen1) a.longer (subst (λ (r : ℕ). Stands c b (length mid.made) r seen1)
        (sym same) (ran.new register refl)))
        (ran.longer ∙ ap (λ (k : ℕ). k + 1) a.longer) ran.front
        (λ k q' seen' le' ops sp. go k q' seen' (omega arith) ops
        (subst (λ (x : Growth). Grew (Some name) g x q'.cycle seen seen') (sym (enter_same entry o g'))
        (record {
          size = sp.longer ∙ sym (value_next read.next sort here);
          grows = (let v = value_next read.next sort here in omega arith);
          front = sp.front;
          stands = λ k' r safe other st.
              let high = safe.high in
              let not_p = safe.other in
              sp.stands k' r (λ z. omega arith) other
              (ran.stands k' r (All-cons (λ (x : ℕ). x ≢ r) register [] (register_other r safe.high safe.other (gives_truth o.op))
              (All-nil (λ (x : ℕ). x ≢ r))) (λ call. safe.spared)
              (a.stands k' r safe.high safe.other st));
          carries = λ x own t h. carries_value read.next sort here x own t (carries_same read here x own t refl
              (carries_operands xs g x own t h));
          values = length-append here.values _ ∙ ap (λ (k' : ℕ). k' + 1) values;
          new = record {
            kept = record {
              own = own_temps read.next sort here;
              carries = subst (λ (x : ℕ). Carries g' x (own_temps read.next sort here) (sort_by (name_kind e.names name))) values
                  (subst (λ (x : Kind). Carries g' (length here.values) (own_temps read.next sort here) (sort_by x)) (sym kind_is)
                  (carries_new read.next sort here));
              size = own_size kind read.next here ∙ ap (λ (x : Kind). 1 + copies_of x) (sym kind_is);
              room = slot_of name;
              slot = omega arith;
              stands = subst (λ (x : ℕ). Stands c b x (slot_of name) seen') (sym (kept_last kind read.next here (omega arith) refl)) sp.new;
            };
            room = refl;
          };
        }))))))))
      where
        register_other : (r : ℕ) → 6 ≤ r → r ≢ PREDICATE → (t : Bool) → (if t then PREDICATE else 0) ≢ r
        register_other r high other true z = other (sym z)
        register_other r high other false z = omega arith

    -- one operation of the linear function
    pub body_good : (o : SrcOp) (xs : List Operand) (first n : ℕ) (p : Progress) (seen : Seen) (g : Growth) (rest : List ExtOp)
        → IsReadyOp o xs g seen → s.placed ≤ g.next → p.operands ≡ 0 → Front c b p.cycle seen → length seen.made ≡ g.next
        → ((m : ℕ) (p' : Progress) (seen' : Seen) → p.cycle ≤ p'.cycle → p'.operands ≡ 0
        → Grew o.dst g (grown (body_at o xs o.dst first) g) p'.cycle seen seen' → G m p' seen' rest)
        → G n p seen (extended_ops e.names live_in entry saved (body_at o xs o.dst first) g ++ rest)
    body_good o xs first n p seen g rest = body_with o xs o.dst first n p seen g rest refl
