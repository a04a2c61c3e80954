-- The operations of a block: each name that is live has its value in its temporary.
use Rattle.std.proofs.Common.{◌≡◌, ◌≢◌, ℕ, zero, suc, ◌+◌, ◌<◌, ◌≤◌, ◌++◌, Bool, true, false, nat_eq, List, [], ◌∷◌, Option, Some, None}
use Rattle.std.proofs.Common.{map, length, drop, get_or, slice_get, Contains, if◌then◌else◌, refl, sym, ap, ◌∙◌, arith, subst, add-one}
use Rattle.std.proofs.Common.{length-set}
use Rattle.std.specs.Option.{option_to_list}
use Rattle.std.proofs.lemmas.Bool.{eqb-true}
use Rattle.std.proofs.lemmas.List.{get_or-set_same, get_or-set_other}
use Rattle.std.proofs.lemmas.List.Elements.{Contains-get_or}
use Rattle.std.proofs.lemmas.Option.{slice_get_within}
use Rattle.un_base.specs.declared.ids.NameId.{NameId}
use Rattle.un_isa.specs.declared.op.Op.TheVariants.{Store}
use Rattle.un_isa.specs.declared.start.Start.{Start}
use Rattle.un_isa.specs.declared.table.Table.{Table}
use Rattle.un_ir.specs.declared.function.SrcOp.{SrcOp}
use Rattle.un_ir.specs.declared.function.Block.{Block}
use Rattle.un_ir.specs.declared.extended.ExtOp.{ExtOp}
use Rattle.un_ir.specs.Extended.{temp}
use Rattle.un_ir.specs.Live.{IsLive, used, kept, read_by, read_at, assigned_by, next_by}
use Rattle.un_ir.specs.Source.{SourceState, SourceStep, SourceStop, BlockEnd, op_step, ops_run, then_ops, value_in, assigned as valued}
use Rattle.un_ir.specs.Linear.{World, Effect, Values, effect_of, defined, defined_all, after_effect, LinearStop, LinearEnd}
use Rattle.un_ir.specs.Linear.{then_ops as then_linear, ops_run as linear_run_ops}
use Rattle.un_ir.specs.LinearOf.{assigned, past, body_ops, current_after, past_all}
use Rattle.un_ir.specs.Runs.{world_of, stop_with}
use Rattle.un_ir.proofs.NameBounds.{NamesAreSmall}
use Rattle.un_lssa.proofs.StepSim.{gone, StepSim, goes, traps, waits, step_sim, AreValues, operands_values}

-- what stands at a place
record Standing {X : Type 0} (xs : List X) (k : ℕ) (x : X) (rest : List X) : Type 0 where
  got : slice_get xs k ≡ Some x
  later : drop (suc k) xs ≡ rest

standing : {X : Type 0} (xs : List X) (k : ℕ) (x : X) (rest : List X) → drop k xs ≡ x ∷ rest → Standing xs k x rest
standing [] zero x rest e = absurd (cc e)
standing [] (suc k) x rest e = absurd (cc e)
standing (y ∷ ys) zero x rest e = let a : y ≡ x = cc e in let b : ys ≡ rest = cc e in record { got = ap Some a; later = b }
standing (y ∷ ys) (suc k) x rest e = let s = standing ys k x rest e in record { got = s.got; later = s.later }

at_end : {X : Type 0} (xs : List X) (k : ℕ) → drop k xs ≡ [] → k ≤ length xs → k ≡ length xs
at_end [] zero e h = refl
at_end [] (suc k) e h = absurd (omega arith)
at_end (y ∷ ys) zero e h = absurd (cc e)
at_end (y ∷ ys) (suc k) e h = ap suc (at_end ys k e (omega arith))

module _ (blocks : List Block) (names : ℕ) (small : NamesAreSmall names blocks)
    (stores : (b k : ℕ) (block : Block) (o : SrcOp) → slice_get blocks b ≡ Some block → slice_get block.ops k ≡ Some o → o.op ≡ Store
    → o.dst ≡ None)
    (t : Table) (start : Start) (lists : List (List NameId)) (b : ℕ) (block : Block) (here : slice_get blocks b ≡ Some block) where
  -- each name that is live at place k has its value in its temporary, which is below n
  pub record Agrees (k : ℕ) (current : List ℕ) (n : ℕ) (v : Values) (values : List ℕ) : Type 0 where
    pub long : length current ≡ names
    pub wide : length values ≡ names
    pub same : (name : NameId) → IsLive blocks name b k → v (get_or current name.0 0) ≡ get_or values name.0 0
    pub below : (name : NameId) → IsLive blocks name b k → get_or current name.0 0 < n

  live_before : (k : ℕ) (o : SrcOp) (name : NameId) → slice_get block.ops k ≡ Some o → IsLive blocks name b (k + 1) → o.dst ≢ Some name
      → IsLive blocks name b k
  live_before k o name got live other =
      let h : k ≤ length block.ops = let r = slice_get_within block.ops k o got in omega (arith, r) in
      kept b k block b (k + 1) here h
      (subst (λ (x : Option SrcOp). assigned_by x ≢ Some name) (sym got) other)
      (subst (λ (x : Option SrcOp). Contains {X = ℕ × ℕ} (next_by b k x block.term) (b, k + 1)) (sym got) (0, omega arith, refl))
      live

  read_values : (k : ℕ) (o : SrcOp) (current : List ℕ) (n : ℕ) (v : Values) (values : List ℕ) → slice_get block.ops k ≡ Some o
      → Agrees k current n v values → AreValues v current values o.srcs
  read_values k o current n v values got a j d below =
      let name = get_or o.srcs j d in
      let h : k ≤ length block.ops = let r = slice_get_within block.ops k o got in omega (arith, r) in
      let has : Contains (read_at block k) name = subst (λ (x : Option SrcOp). Contains (read_by x block.term) name) (sym got)
      (Contains-get_or o.srcs j d below) in
      a.same name (used b k block here h has)

  -- a temporary that is not the one defined keeps its value
  other_value : (v : Values) (n y x : ℕ) → y < n → defined v (temp n) x y ≡ v y
  other_value v n y x h = by (nat_eq y n) refl
    where
      by : (w : Bool) → nat_eq y n ≡ w → (if w then x else v y) ≡ v y
      by true e = let same : y ≡ n = eqb-true y n e in absurd (omega (arith, same))
      by false e = refl

  own_value : (v : Values) (n x : ℕ) → defined v (temp n) x n ≡ x
  own_value v n x = let e : nat_eq n n ≡ true = grind arith in rw e refl

  abbrev After : Option NameId → Values → ℕ → ℕ → Values
  After dst v n x = defined_all v (map (λ (name : NameId). temp n) (option_to_list dst)) (x ∷ [])

  agrees_by : (dst : Option NameId) (k : ℕ) (o : SrcOp) (current : List ℕ) (n : ℕ) (v : Values) (values : List ℕ) (x : ℕ) → o.dst ≡ dst
      → slice_get block.ops k ≡ Some o
      → Agrees k current n v values → Agrees (k + 1) (assigned current dst n) (past dst n) (After dst v n x) (valued values dst x)
  agrees_by None k o current n v values x e got a = record {
    long = a.long;
    wide = a.wide;
    same = λ name live. a.same name (live_before k o name got live (λ is. cc (sym e ∙ is)));
    below = λ name live. a.below name (live_before k o name got live (λ is. cc (sym e ∙ is)));
  }
  agrees_by (Some d) k o current n v values x e got a = record {
    long = length-set current d.0 n ∙ a.long;
    wide = length-set values d.0 x ∙ a.wide;
    same = λ name live. same name live (nat_eq d.0 name.0) refl;
    below = λ name live. below name live (nat_eq d.0 name.0) refl;
  }
    where
      inside : d.0 < names
      inside = small.assigns b k block o d here got e

      own : (name : NameId) → nat_eq d.0 name.0 ≡ true → d.0 ≡ name.0
      own name is = eqb-true d.0 name.0 is

      other : (name : NameId) → nat_eq d.0 name.0 ≡ false → name.0 ≢ d.0
      other name off is = let on : nat_eq d.0 name.0 ≡ true = rw is (grind arith) in cc (sym off ∙ on)

      before : (name : NameId) → IsLive blocks name b (k + 1) → nat_eq d.0 name.0 ≡ false → IsLive blocks name b k
      before name live off = live_before k o name got live (λ is.
          (let s : Some d ≡ Some name = sym e ∙ is in let q : d ≡ name = cc s in other name off (ap (λ (m : NameId). m.0) (sym q))))

      kept_temp : (name : NameId) → nat_eq d.0 name.0 ≡ false → get_or (assigned current (Some d) n) name.0 0 ≡ get_or current name.0 0
      kept_temp name off = get_or-set_other current d.0 name.0 n 0 (other name off)

      new_temp : (name : NameId) → nat_eq d.0 name.0 ≡ true → get_or (assigned current (Some d) n) name.0 0 ≡ n
      new_temp name on = let long : d.0 < length current = rw a.long inside in rw (← own name on) (get_or-set_same current d.0 n 0 long)

      same : (name : NameId) → IsLive blocks name b (k + 1) → (w : Bool) → nat_eq d.0 name.0 ≡ w
          → defined v (temp n) x (get_or (assigned current (Some d) n) name.0 0) ≡ get_or (valued values (Some d) x) name.0 0
      same name live true on =
          let wide : d.0 < length values = rw a.wide inside in
          let value : get_or (valued values (Some d) x) name.0 0 ≡ x = rw (← own name on) (get_or-set_same values d.0 x 0 wide) in
          ap (defined v (temp n) x) (new_temp name on) ∙ own_value v n x ∙ sym value
      same name live false off =
          let old = before name live off in
          ap (defined v (temp n) x) (kept_temp name off) ∙ other_value v n (get_or current name.0 0) x (a.below name old) ∙ a.same name old
          ∙ sym (get_or-set_other values d.0 name.0 x 0 (other name off))

      below : (name : NameId) → IsLive blocks name b (k + 1) → (w : Bool) → nat_eq d.0 name.0 ≡ w
          → get_or (assigned current (Some d) n) name.0 0 < n + 1
      below name live true on = let e = new_temp name on in omega (arith, e)
      below name live false off = let e = kept_temp name off in let l = a.below name (before name live off) in omega (arith, e, l)

  -- ---- all operations

  -- the source's operations and those of the linear function, with `rest` behind them, stop alike, or both go on
  pub data BodySim (n : ℕ) (v : Values) (after : List ℕ) (last : ℕ) (rest : List ExtOp) : BlockEnd → LinearEnd → Type 0 where
    stops : (e : SourceStop) (l : LinearStop) (s : SourceState) (w : Values) → ((values : List ℕ) → stop_with t start lists values e ≡ l)
        → BodySim n v after last rest (record { stop = Some e; state = s })
        (record { stop = Some l; state = record { values = w; world = world_of s } })
    ends : (s : SourceState) (w : Values) → Agrees (length block.ops) after last w s.values → ((x : ℕ) → x < n → w x ≡ v x)
        → BodySim n v after last rest (record { stop = None; state = s }) (linear_run_ops rest (record { values = w; world = world_of s }))

  weaken : (n m : ℕ) (v w : Values) (after : List ℕ) (last : ℕ) (rest : List ExtOp) (q : BlockEnd) (r : LinearEnd) → n ≤ m
      → ((x : ℕ) → x < n → w x ≡ v x)
      → BodySim m w after last rest q r → BodySim n v after last rest q r
  weaken n m v w after last rest q r h old (stops e l s u same) = stops e l s u same
  weaken n m v w after last rest q r h old (ends s u a stay) = ends s u a (λ x below. stay x (omega arith) ∙ old x below)

  after_old : (dst : Option NameId) (v : Values) (n x y : ℕ) → y < n → After dst v n x y ≡ v y
  after_old None v n x y h = refl
  after_old (Some d) v n x y h = other_value v n y x h

  past_least : (dst : Option NameId) (n : ℕ) → n ≤ past dst n
  past_least None n = omega arith
  past_least (Some d) n = omega arith

  by_step : (o : SrcOp) (os : List SrcOp) (current : List ℕ) (n : ℕ) (v : Values) (s : SourceState) (rest : List ExtOp)
      → ((x : ℕ) (w : World) → BodySim (past o.dst n) (After o.dst v n x) (current_after (assigned current o.dst n) (past o.dst n) os)
      (past_all (past o.dst n) os) rest
      (ops_run os (gone o s x w)) (linear_run_ops (body_ops t (assigned current o.dst n) (past o.dst n) os ++ rest)
      (record { values = After o.dst v n x; world = w })))
      → (q : SourceStep) (r : Effect) → StepSim o s q r
      → BodySim n v (current_after current n (o ∷ os)) (past_all n (o ∷ os)) rest (then_ops q s (ops_run os))
      (then_linear (after_effect (map (λ (name : NameId). temp n) (option_to_list o.dst)) (record { values = v; world = world_of s }) r)
      (record { values = v; world = world_of s })
      (linear_run_ops (body_ops t (assigned current o.dst n) (past o.dst n) os ++ rest)))
  by_step o os current n v s rest ih q r (goes x w) =
      weaken n (past o.dst n) v (After o.dst v n x) _ _ rest _ _ (past_least o.dst n) (λ y h. after_old o.dst v n x y h) (ih x w)
  by_step o os current n v s rest ih q r traps = stops _ _ s v (λ values. refl)
  by_step o os current n v s rest ih q r (waits c) = stops _ _ s v (λ values. refl)

  pub body_sim : (os : List SrcOp) (k : ℕ) (current : List ℕ) (n : ℕ) (v : Values) (s : SourceState) (rest : List ExtOp)
      → drop k block.ops ≡ os → k ≤ length block.ops
      → Agrees k current n v s.values
      → BodySim n v (current_after current n os) (past_all n os) rest (ops_run os s)
      (linear_run_ops (body_ops t current n os ++ rest) (record { values = v; world = world_of s }))
  body_sim [] k current n v s rest e h a = ends s v (subst (λ (m : ℕ). Agrees m current n v s.values) (at_end block.ops k e h) a)
      (λ x below. refl)
  body_sim (o ∷ os) k current n v s rest e h a =
      let st = standing block.ops k o os e in
      let xs = operands_values t v current s.values o.op o.srcs (read_values k o current n v s.values st.got a) in
      let inside : k + 1 ≤ length block.ops = let r = slice_get_within block.ops k o st.got in omega (arith, r) in
      let sim = step_sim o s (stores b k block o here st.got) in
      let later : drop (k + 1) block.ops ≡ os = rw add-one st.later in
      rw xs (by_step o os current n v s rest
      (λ x w. body_sim os (k + 1) (assigned current o.dst n) (past o.dst n) (After o.dst v n x) (gone o s x w) rest later inside
      (agrees_by o.dst k o current n v s.values x refl st.got a))
      (op_step o s) (effect_of o (map (value_in s) o.srcs) (world_of s)) sim)
