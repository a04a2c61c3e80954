-- The arguments of a call that an earlier call leaves to be written are defined by as many operations, of which a packet has room
-- for four.
use Rattle.std.proofs.Common.{ℕ, zero, suc, ◌≡◌, ◌+◌, ◌<◌, ◌≤◌, Bool, true, false, List, [], ◌∷◌, inl, inr, refl, sym, ap, ◌∙◌, subst}
use Rattle.std.proofs.Common.{arith, eq-eqb, length, map, take}
use Rattle.std.specs.Prelude.{Option, Some, None, IfSome, ◌&&◌, ◌||◌, ◌==◌, is_some, slice_get, sum_by, if◌then◌else◌}
use Rattle.std.specs.Option.{option_to_list}
use Rattle.std.proofs.lemmas.Bool.{cases_lt, eqb-true}
use Rattle.std.proofs.lemmas.List.Sums.{sum_by-cons}
use Rattle.un_base.specs.declared.ids.NameId.{NameId}
use Rattle.un_base.specs.declared.ids.TempId.{TempId}
use Rattle.un_isa.specs.declared.op.Op.{Op}
use Rattle.un_isa.specs.declared.packet_counts.Resource.TheVariants.{Instructions}
use Rattle.un_isa.specs.declared.reg.Reg.{Reg}
use Rattle.un_isa.proofs.DoesLaws.{call_is}
use Rattle.un_ir.specs.declared.extended.ExtKind.{ExtKind}
use Rattle.un_ir.specs.declared.extended.ExtKind.TheVariants.{In, Out, Body, End, Copy, Enter, Leave}
use Rattle.un_ir.specs.declared.extended.Operand.{Operand}
use Rattle.un_ir.specs.declared.extended.Ext.{Ext}
use Rattle.un_ir.specs.declared.extended.ExtBlock.{ExtBlock}
use Rattle.un_ir.specs.Extended.{Want, word_in, at_register, wants_of, wants_of_op, result_count}
use Rattle.un_model.specs.declared.model.Options.{Options}
use Rattle.un_ir.specs.Kinds.{is_mandatory, is_delimiter, is_call_kind}
use Rattle.un_model.specs.Instructions.{instruction_of}
use Rattle.un_model.specs.Registers.{reg_at}
use Rattle.un_model.proofs.Gaps.{call_waits}
use Rattle.un_model.specs.Schedules.{schedule_of, issues_of, value_by, cycle_by}
use Rattle.un_model.specs.Solutions.{IsSchedule, latency_gap, share_of}
use Rattle.un_model.specs.Variables.{model_of, count_if}
use Rattle.un_lists.proofs.Lists.{Each, Pairwise, Member, each_of, each_more, each_member, length_get}
use Rattle.un_model.proofs.Placed.{Placed, Region, region_placed, vars_of, issue_at, Spot, all_count, at_number}
use Rattle.un_model.proofs.PlacedSchedules.{all, spots, spot_range, one_spot}
use Rattle.un_sites.specs.CallBefores.{reads_anew, count_from}
use Rattle.un_post.proofs.Blocks.{blocks, in_all, stands_in}
use Rattle.un_post.proofs.CallAnew.{Rewritten, rewritten}
use Rattle.un_post.proofs.Facts.{Given, numbered, good_op, definer_is, Reading as Asking, reading as asked_of}
use Rattle.un_post.proofs.Packets.{no_room, share, sum_part, whole_taken}
use Rattle.un_post.proofs.Placing.{place_of}
use Rattle.un_model.proofs.Regions.{of_region}

-- ---- sums

-- without what operation n adds
abbrev but : ℕ → (Placed → ℕ) → Placed → ℕ
but n f p = if p.number == n then 0 else f p

but_less : (n : ℕ) (f : Placed → ℕ) (p : Placed) → but n f p ≤ f p
but_less n f p = by (p.number == n)
  where
    by : (b : Bool) → (if b then 0 else f p) ≤ f p
    by true = omega arith
    by false = omega arith

but_own : (f : Placed → ℕ) (p : Placed) → but p.number f p ≡ 0
but_own f p = ap (λ (b : Bool). if b then 0 else f p) (eq-eqb p.number p.number refl)

but_other : (n : ℕ) (f : Placed → ℕ) (p : Placed) → (p.number ≡ n → ⊥) → but n f p ≡ f p
but_other n f p apart = by (p.number == n) refl
  where
    by : (b : Bool) → (p.number == n) ≡ b → (if b then 0 else f p) ≡ f p
    by true e = absurd (apart (eqb-true p.number n e))
    by false e = refl

sum_less : (n : ℕ) (f : Placed → ℕ) (ps : List Placed) → sum_by (but n f) ps ≤ sum_by f ps
sum_less n f [] = omega arith
sum_less n f (p ∷ ps) =
    let a = sum_by-cons (but n f) p ps in
    let b = sum_by-cons f p ps in
    let c = but_less n f p in
    let rest = sum_less n f ps in omega (arith, a, b, c, rest)

sum_own : (f : Placed → ℕ) (ps : List Placed) (d : Placed) → Member d ps → f d + sum_by (but d.number f) ps ≤ sum_by f ps
sum_own f [] d m = elim m [ ]
sum_own f (p ∷ ps) d (inl e) =
    let a = sum_by-cons (but d.number f) p ps in
    let b = sum_by-cons f p ps in
    let c : but d.number f p ≡ 0 = ap (but d.number f) e ∙ but_own f d in
    let same : f p ≡ f d = ap f e in
    let rest = sum_less d.number f ps in omega (arith, a, b, c, same, rest)
sum_own f (p ∷ ps) d (inr m) =
    let a = sum_by-cons (but d.number f) p ps in
    let b = sum_by-cons f p ps in
    let c = but_less d.number f p in
    let rest = sum_own f ps d m in omega (arith, a, b, c, rest)

abbrev Apart : Placed → Placed → Type 0
Apart a b = a.number ≡ b.number → ⊥

-- so many different operations that each add something
sum_many : (f : Placed → ℕ) (ps ds : List Placed) → Each (λ d. Member d ps × (1 ≤ f d)) ds → Pairwise Apart ds → length ds ≤ sum_by f ps
sum_many f ps [] h apart = omega arith
sum_many f ps (d ∷ ds) h apart =
    let own = sum_own f ps d h.0.0 in
    let one = h.0.1 in
    let rest = sum_many (but d.number f) ps ds (each_of _ ds (λ b mb.
    let k = each_member _ ds b h.1 mb in
    let other = each_member _ ds b apart.0 mb in
    let le = k.1 in
    let same = but_other d.number f b (λ z. other (sym z)) in
    (k.0, omega (arith, same, le)))) apart.1 in
    omega (arith, own, one, rest)

-- ---- the homes of a call's arguments

word_at : (args : List ℕ) (n j : ℕ) (want : Want) → slice_get (map word_in (take n args)) j ≡ Some want
    → (a : ℕ) × (slice_get args j ≡ Some a) × (want.home ≡ at_register a)
word_at args zero j want h = absurd (cc h)
word_at [] (suc n) j want h = absurd (cc h)
word_at (a ∷ args) (suc n) zero want h =
    let same : word_in a ≡ want = cc h in (a, refl, sym (ap (λ (w : Want). w.home) same))
word_at (a ∷ args) (suc n) (suc j) want h = word_at args n j want h

arg_is : (j a : ℕ) → slice_get (0 ∷ 1 ∷ 2 ∷ 3 ∷ 4 ∷ 5 ∷ []) j ≡ Some a → a ≡ j
arg_is zero a h = let e : 0 ≡ a = cc h in sym e
arg_is (suc zero) a h = let e : 1 ≡ a = cc h in sym e
arg_is (suc (suc zero)) a h = let e : 2 ≡ a = cc h in sym e
arg_is (suc (suc (suc zero))) a h = let e : 3 ≡ a = cc h in sym e
arg_is (suc (suc (suc (suc zero)))) a h = let e : 4 ≡ a = cc h in sym e
arg_is (suc (suc (suc (suc (suc zero))))) a h = let e : 5 ≡ a = cc h in sym e
arg_is (suc (suc (suc (suc (suc (suc j)))))) a h = absurd (cc h)

home_is : (home : Option Reg) (reg a : ℕ) → home ≡ at_register a → IfSome home (λ (r : Reg). reg ≡ r.0) → reg ≡ a
home_is None reg a e h = absurd (cc e)
home_is (Some r) reg a e h = let same : r ≡ reg_at a = cc e in h ∙ ap (λ (r : Reg). r.0) same

module _ (e : Ext) (o : Options) (x : List ℕ) (given : Given e o x) where
  -- what the argument at place j reads is in register j
  arg_home : (q : Placed) (j : ℕ) (operand : Operand) (reg : ℕ) (asked : Asking e o x given q j operand) (kind : ExtKind)
      → is_call_kind kind ≡ true → slice_get (wants_of e.table e.names e.blocks q.owner kind q.op) j ≡ Some asked.want
      → IfSome operand.home (λ (r : Reg). reg ≡ r.0) → reg ≡ j
  arg_home q j operand reg asked (Body so) c wants home =
      let fit = given.fit in
      let fits = asked.fits in
      let here = subst (λ (op : Op). slice_get (wants_of_op e.table so op) j ≡ Some asked.want) (call_is so.op c) wants in
      let w = word_at (e.table).args (length so.srcs) j asked.want here in
      let a = arg_is j w.0 (subst (λ (args : List ℕ). slice_get args j ≡ Some w.0) fit.args w.1) in
      home_is operand.home reg w.0 (fits.home ∙ w.2) home ∙ a
  arg_home q j operand reg asked In c wants home = absurd (cc c)
  arg_home q j operand reg asked Out c wants home = absurd (cc c)
  arg_home q j operand reg asked (End term) c wants home = absurd (cc c)
  arg_home q j operand reg asked (Copy node) c wants home = absurd (cc c)
  arg_home q j operand reg asked Enter c wants home = absurd (cc c)
  arg_home q j operand reg asked Leave c wants home = absurd (cc c)

  arg_register : (q : Placed) (j : ℕ) (operand : Operand) (reg : ℕ) → Member q (all e o x) → is_call_kind q.op.kind ≡ true
      → slice_get q.op.operands j ≡ Some operand → IfSome operand.home (λ (r : Reg). reg ≡ r.0) → reg ≡ j
  arg_register q j operand reg mq call at home =
      let asked = asked_of e o x given q j operand mq at in
      arg_home q j operand reg asked q.op.kind call asked.wants home

  -- ---- one result an operation

  start_cycle : (q : Placed) → 1 ≤ (issue_at x q).cycle → (let op = q.op in op.kind ≡ In → ⊥)
  start_cycle q le k =
      let v = vars_of q in
      let z : (issue_at x q).cycle ≡ 0 = ap (λ (k : ExtKind). cycle_by x (issue_at x q).end k v) k in
      absurd (omega (arith, z, le))

  few_results : (q : Placed) (kind : ExtKind) → (kind ≡ In → ⊥) → result_count e.table q.owner kind ≤ 1
  few_results q In start = absurd (start refl)
  few_results q (Body so) start = by so.dst
    where
      by : (dst : Option NameId) → length (option_to_list dst) ≤ 1
      by None = omega arith
      by (Some name) = omega arith
  few_results q (Copy node) start = omega arith
  few_results q Out start = omega arith
  few_results q (End term) start = omega arith
  few_results q Enter start = omega arith
  few_results q Leave start = omega arith

  -- two results of one operation that is not at a block's start are one
  one_result : (s t : Spot) → Member s (spots e o x) → Member t (spots e o x) → (let a = s.definer in let b = t.definer in
      a.number ≡ b.number) → (let a = s.definer in 1 ≤ (issue_at x a).cycle) → s ≡ t
  one_result s t ms mt same le =
      let a = s.definer in
      let b = t.definer in
      let da = definer_is e o x given s ms in
      let db = definer_is e o x given t mt in
      let na = at_number 0 (all e o x) a a.number (all_count 0 0 0 e.blocks) da.0 (omega arith) in
      let nb = at_number 0 (all e o x) b a.number (all_count 0 0 0 e.blocks) db.0 (sym same ∙ omega arith) in
      let both : Some a ≡ Some b = sym na ∙ nb in
      let is : a ≡ b = cc both in
      let g = good_op e o x given a da.0 in
      let keeps = g.keeps in
      let count = keeps.results in
      let few = few_results a a.op.kind (start_cycle a le) in
      let la = length_get a.op.results s.place s.temp da.1 in
      let there : slice_get a.op.results t.place ≡ Some t.temp = ap (λ (p : Placed). slice_get p.op.results t.place) is ∙ db.1 in
      let lb = length_get a.op.results t.place t.temp there in
      let place : s.place ≡ t.place = omega (arith, count, few, la, lb) in
      let temps : Some s.temp ≡ Some t.temp = sym da.1 ∙ ap (slice_get a.op.results) place ∙ there in
      let one : s.temp ≡ t.temp = cc temps in
      one_spot e o x (numbered e o x given) s t ms mt (ap (λ (t : TempId). t.0) one)

  -- ---- a cycle

  module _ (schedule : IsSchedule (latency_gap e.table) (model_of e o).domains (model_of e o) x (schedule_of (model_of e o) x))
      (r : Region) (mr : Member r (blocks e o x)) where
    -- an operation that issues an instruction in a cycle
    record Issued (n : ℕ) (d : Placed) : Type 0 where
      member : Member d (region_placed r)
      cycle : (issue_at x d).cycle ≡ n
      width : share_of e.table Instructions (issue_at x d).instr ≡ 1

    room : (n : ℕ) (ds : List Placed) → Each (Issued n) ds → Pairwise Apart ds → length ds ≤ 4
    room n ds h apart =
        let f = share e o x given Instructions r.block n in
        let packets = schedule.packets in
        let fits = (no_room e.table (issues_of (model_of e o) x) r.block n).1 (packets r.block n) Instructions in
        let whole = whole_taken e o x given Instructions r.block n in
        let part = sum_part f region_placed (blocks e o x) r mr in
        let many = sum_many f (region_placed r) ds
        (each_more (Issued n) (λ d. Member d (region_placed r) × (1 ≤ f d)) ds (λ d i. (i.member, takes d i)) h) apart in
        omega arith
      where
        takes : (d : Placed) → Issued n d → 1 ≤ share e o x given Instructions r.block n d
        takes d i =
            let here : (d.block == r.block) ≡ true = eq-eqb d.block r.block (of_region r d i.member) in
            let now : ((issue_at x d).cycle == n) ≡ true = eq-eqb (issue_at x d).cycle n i.cycle in
            let is : share e o x given Instructions r.block n d ≡ share_of e.table Instructions (issue_at x d).instr =
            ap (λ (b : Bool). if b && ((issue_at x d).cycle == n) then share_of e.table Instructions (issue_at x d).instr else 0) here
            ∙ ap (λ (b : Bool). if b then share_of e.table Instructions (issue_at x d).instr else 0) now in
            let one = i.width in
            omega (arith, is, one)

    width_one : (k : ExtKind) (n : ℕ) → (is_delimiter k || is_some (instruction_of k n)) ≡ true → is_delimiter k ≡ false
        → share_of e.table Instructions (instruction_of k n) ≡ 1
    width_one k n act off = by (instruction_of k n) (subst (λ (b : Bool). (b || is_some (instruction_of k n)) ≡ true) off act)
      where
        by : (i : Option Op) → is_some i ≡ true → share_of e.table Instructions i ≡ 1
        by None h = absurd (cc h)
        by (Some op) h = refl

    no_delimiter : (k : ExtKind) (owner : ExtBlock) → (k ≡ In → ⊥) → 0 < result_count e.table owner k → is_delimiter k ≡ false
    no_delimiter In owner off some = absurd (off refl)
    no_delimiter Out owner off some = absurd (omega arith)
    no_delimiter (Body so) owner off some = refl
    no_delimiter (End term) owner off some = refl
    no_delimiter (Copy node) owner off some = refl
    no_delimiter Enter owner off some = refl
    no_delimiter Leave owner off some = refl

    module _ (c q : Placed) (mc : Member c (region_placed r)) (mq : Member q (region_placed r)) (call : is_call_kind c.op.kind ≡ true)
        (behind : (issue_at x c).cycle + 1 ≤ (issue_at x q).cycle) (later : is_call_kind q.op.kind ≡ true)
        (mandatory : is_mandatory q.op.kind ≡ true) (close : (issue_at x q).cycle ≤ (issue_at x c).cycle + 2) where
      -- an operation defines what the argument at place j reads
      record Writes (j : ℕ) (d : Placed) : Type 0 where
        spot : Spot
        member : Member spot (spots e o x)
        is : spot.definer ≡ d
        reg : (spot_range e o x spot).reg ≡ j
        issued : Issued ((issue_at x c).cycle + 1) d

      module _ (j : ℕ) (operand : Operand) (at : slice_get q.op.operands j ≡ Some operand)
          (anew : reads_anew e.table (place_of c) q.op.kind j operand ≡ true) (w : Rewritten e o x given schedule r c q operand) where
        abbrev s : Spot
        s = w.spot

        abbrev d : Placed
        d = s.definer

        cycle : (issue_at x d).cycle ≡ (issue_at x c).cycle + 1
        cycle = let late = w.late in let early = w.early in let waits = call_waits e.table q.op.kind 0 later in
            omega (arith, late, early, waits, close)

        here : Member d (region_placed r)
        here = stands_in e o x r d mr (definer_is e o x given s w.member).0 (w.block ∙ of_region r q mq)

        width : share_of e.table Instructions (issue_at x d).instr ≡ 1
        width =
            let v = vars_of d in
            let p = definer_is e o x given s w.member in
            let g = good_op e o x given d p.0 in
            let keeps = g.keeps in
            let count = keeps.results in
            let lt = length_get d.op.results s.place s.temp p.1 in
            let start = start_cycle d (let z = cycle in omega (arith, z)) in
            width_one d.op.kind (value_by x v.instr) w.active (no_delimiter d.op.kind d.owner start (omega (arith, count, lt)))

        found : Writes j d
        found = record {
          spot = s;
          member = w.member;
          is = refl;
          reg = arg_register q j operand (spot_range e o x s).reg (in_all e o x r q mr mq) later at w.home;
          issued = record { member = here; cycle = cycle; width = width };
        }

      writes : (j : ℕ) (operand : Operand) → slice_get q.op.operands j ≡ Some operand
          → reads_anew e.table (place_of c) q.op.kind j operand ≡ true → (d : Placed) × Writes j d
      writes j operand at anew =
          let w = rewritten e o x given schedule r mr c q mc mq call behind mandatory j operand at anew in
          let spot = w.spot in
          (spot.definer, found j operand at anew w)

      different : (j k : ℕ) (a b : Placed) → j < k → Writes j a → Writes k b → Apart a b
      different j k a b lt wa wb same =
          let number : (let p = (wa.spot).definer in let q = (wb.spot).definer in p.number ≡ q.number) =
          ap (λ (p : Placed). p.number) wa.is ∙ same ∙ sym (ap (λ (p : Placed). p.number) wb.is) in
          let issued = wa.issued in
          let cycle = issued.cycle in
          let same_cycle : (issue_at x (wa.spot).definer).cycle ≡ (issue_at x a).cycle = ap (λ (p : Placed). (issue_at x p).cycle) wa.is in
          let one = one_result wa.spot wb.spot wa.member wb.member number (omega (arith, cycle, same_cycle)) in
          let reg : j ≡ k = sym wa.reg ∙ ap (λ (s : Spot). (spot_range e o x s).reg) one ∙ wb.reg in
          absurd (omega (arith, reg, lt))

      -- one that is read at place i or later
      abbrev Later : ℕ → Placed → Type 0
      Later i d = (j : ℕ) × (i ≤ j) × Writes j d

      abbrev anew : ℕ → Operand → Bool
      anew = reads_anew e.table (place_of c) q.op.kind

      -- as many different ones as arguments have to be written
      record Collected (i : ℕ) (xs : List Operand) : Type 0 where
        found : List Placed
        many : length found ≡ count_from anew i xs
        each : Each (Later i) found
        apart : Pairwise Apart found

      collect : (i : ℕ) (xs : List Operand)
          → ((j : ℕ) (operand : Operand) → slice_get xs j ≡ Some operand → anew (i + j) operand ≡ true → (d : Placed) × Writes (i + j) d)
          → Collected i xs
      collect i [] f = record { found = []; many = refl; each = tt; apart = tt }
      collect i (y ∷ ys) f = by (anew i y) refl (collect (i + 1) ys (λ j operand at t.
          let z : i + suc j ≡ i + 1 + j = omega arith in
          let w = f (suc j) operand at (subst (λ n. anew n operand ≡ true) (sym z) t) in
          (w.0, subst (λ n. Writes n w.0) z w.1)))
        where
          more : (p : Placed) → Later (i + 1) p → Later i p
          more p l = let le = l.1 in (l.0, omega (arith, le), l.2)

          by : (b : Bool) → anew i y ≡ b → Collected (i + 1) ys → Collected i (y ∷ ys)
          by false t rest = record {
            found = rest.found;
            many = (let m = rest.many in let z : count_if (anew i y) ≡ 0 = ap count_if t in omega (arith, m, z));
            each = each_more (Later (i + 1)) (Later i) rest.found more rest.each;
            apart = rest.apart;
          }
          by true t rest =
              let z : i + 0 ≡ i = omega arith in
              let w = f 0 y refl (subst (λ n. anew n y ≡ true) (sym z) t) in
              let mine = subst (λ n. Writes n w.0) z w.1 in
              let many = rest.many in
              let one : count_if (anew i y) ≡ 1 = ap count_if t in
              record {
                found = w.0 ∷ rest.found;
                many = omega (arith, many, one);
                each = ((i, omega arith, mine), each_more (Later (i + 1)) (Later i) rest.found more rest.each);
                apart = (
                  each_more (Later (i + 1)) (Apart w.0) rest.found
                      (λ p l. let le = l.1 in different i l.0 w.0 p (omega (arith, le)) mine l.2) rest.each,
                  rest.apart,
                );
              }

      few : count_from anew 0 q.op.operands ≤ 4
      few =
          let all = collect 0 q.op.operands (λ j operand at t.
          let z : 0 + j ≡ j = omega arith in
          let w = writes j operand at (subst (λ n. anew n operand ≡ true) z t) in
          (w.0, subst (λ n. Writes n w.0) (sym z) w.1)) in
          let many = all.many in
          let most = room ((issue_at x c).cycle + 1) all.found
          (each_more (Later 0) (Issued ((issue_at x c).cycle + 1)) all.found (λ d l. let w = l.2 in w.issued) all.each) all.apart in
          omega (arith, many, most)

    -- a call of which more arguments have to be written than a packet has room for is three cycles after an earlier one
    pub three_after : (c q : Placed) → Member c (region_placed r) → Member q (region_placed r) → is_call_kind c.op.kind ≡ true
        → (issue_at x c).cycle + 1 ≤ (issue_at x q).cycle → is_call_kind q.op.kind ≡ true → is_mandatory q.op.kind ≡ true
        → 5 ≤ count_from (reads_anew e.table (place_of c) q.op.kind) 0 q.op.operands → (issue_at x c).cycle + 3 ≤ (issue_at x q).cycle
    three_after c q mc mq call behind later mandatory many =
        elim (cases_lt ((issue_at x c).cycle + 2) (issue_at x q).cycle) [
          | inl lt ↦ omega (arith, lt)
          | inr le ↦ (let k = few c q mc mq call behind later mandatory le in absurd (omega (arith, k, many)))
        ]
