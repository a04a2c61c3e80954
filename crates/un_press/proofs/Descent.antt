-- Down from a reader: what carries a value in a cycle after its definer's and before the reader's. What the reader chose is there, or
-- is a copy that issues later, which reads on.
use Rattle.std.proofs.Common.{ℕ, zero, suc, ◌≡◌, ◌<◌, ◌≤◌, ◌+◌, ◌⊎◌, true, List, [], ◌∷◌, inl, inr, refl, sym, ap, ◌∙◌, subst, arith}
use Rattle.std.specs.Prelude.{Some, slice_get}
use Rattle.std.specs.List.{AllZip}
use Rattle.std.proofs.lemmas.Bool.{cases_lt}
use Rattle.un_base.specs.declared.ids.TempId.{TempId}
use Rattle.un_ir.specs.declared.extended.ExtKind.{ExtKind}
use Rattle.un_ir.specs.declared.extended.ExtKind.TheVariants.{In, Out, Body, End, Copy, Enter, Leave}
use Rattle.un_ir.specs.declared.extended.NodeCopy.{NodeCopy}
use Rattle.un_ir.specs.declared.extended.Operand.{Operand}
use Rattle.un_ir.specs.declared.extended.Ext.{Ext}
use Rattle.un_ir.specs.Extended.{IsGoodOperand, Want, temp, wants_of, first_read, is_copy}
use Rattle.un_ir.specs.Linear.{first_of}
use Rattle.un_model.specs.declared.model.Options.{Options}
use Rattle.un_model.specs.declared.schedule.LiveRange.{LiveRange}
use Rattle.un_model.specs.Instructions.{instruction_of, latency_by}
use Rattle.un_model.specs.Schedules.{value_by}
use Rattle.un_model.specs.Solutions.{latency_gap}
use Rattle.un_model.proofs.Gaps.{gap_of_copy}
use Rattle.un_lists.proofs.Lists.{Member}
use Rattle.un_model.proofs.Placed.{Placed, issue_at, vars_of, Spot}
use Rattle.un_model.proofs.PlacedSchedules.{all, spots, definer_in, range_at, range_here, spot_range, one_spot}
use Rattle.un_model.proofs.Readings.{Solved, numbered, fit_kinds, placed_good, Reading, reading}
use Rattle.un_model.proofs.TempKinds.{carried_at, spot_carried, carried_is}

module _ (e : Ext) (o : Options) (values : List ℕ) (h : Solved e o values) where
  abbrev pub cycle_at : Placed → ℕ
  cycle_at p = (issue_at values p).cycle

  -- the cycle from which what an operation gives can be read
  abbrev pub ready_at : Placed → ℕ
  ready_at p = cycle_at p + latency_by e.table (issue_at values p).instr

  -- an operand of an active operation that reads value v, after cycle t
  pub record Reader (v : TempId) (t : ℕ) : Type 0 where
    pub user : Placed
    pub member : Member user (all e o values)
    pub active : (issue_at values user).active ≡ true
    pub place : ℕ
    pub operand : Operand
    pub at : slice_get user.op.operands place ≡ Some operand
    pub value : temp (first_of operand.alts) ≡ v
    pub after : t < cycle_at user

  -- a copy on the way to a reader: what it gives is ready before that reads
  pub record IsOnTheWay (p last : Placed) : Type 0 where
    pub copy : is_copy p.op.kind ≡ true
    pub ready : ready_at p ≤ cycle_at last

  -- what carries value v in cycle t: a temporary that is there by then and is read after it, by a reader or on the way to it
  pub record Held (v : TempId) (t : ℕ) (last : Reader v t) : Type 0 where
    pub reader : Reader v t
    pub want : Want
    pub wants : (let p = reader.user in slice_get (wants_of e.table e.names e.blocks p.owner p.op.kind p.op) reader.place ≡ Some want)
    pub reading : Reading e o values h reader.user reader.place reader.operand want
    pub from : cycle_at reading.spot.definer ≤ t
    pub block : reader.user.block ≡ last.user.block
    pub way : (reader ≡ last) ⊎ IsOnTheWay reader.user last.user

  module _ (v : TempId) (t : ℕ) (own : Spot) (mo : Member own (spots e o values)) (is : own.temp ≡ v)
      (early : cycle_at own.definer ≤ t) where
    step : (r : Reader v t) → ((q : Reader v t) → q.user.number < r.user.number → Held v t q) → Held v t r
    step r below = let read = reading e o values h r.user r.place r.operand r.member r.active r.at in given read.0 read.1 read.2
      where
        given : (want : Want) → (let p = r.user in slice_get (wants_of e.table e.names e.blocks p.owner p.op.kind p.op) r.place ≡ Some want)
            → Reading e o values h r.user r.place r.operand want → Held v t r
        given want wants d = elim (cases_lt t (cycle_at d.spot.definer)) [
          | inl late ↦ down late
          | inr le ↦ record { reader = r; want = want; wants = wants; reading = d; from = le; block = refl; way = inl refl }
        ]
          where
            definer : Placed
            definer = d.spot.definer

            range : range_at e o values d.spot.temp.0 ≡ spot_range e o values d.spot
            range = range_here e o values (numbered e o values h) d.spot d.member

            -- what a copy gives is waited for
            ready_of : (node : NodeCopy) → d.spot.definer.op.kind ≡ Copy node → ready_at d.spot.definer ≤ cycle_at r.user
            ready_of node k =
                let n = value_by values (vars_of d.spot.definer).instr in
                let user = (issue_at values r.user).instr in
                let late : cycle_at d.spot.definer
                + latency_gap e.table (issue_at values d.spot.definer).instr (issue_at values r.user).instr ≤ cycle_at r.user =
                subst (λ (w : LiveRange). w.from + latency_gap e.table w.instr user ≤ cycle_at r.user) range d.ready in
                let waits : latency_gap e.table (issue_at values d.spot.definer).instr (issue_at values r.user).instr
                ≡ latency_by e.table (issue_at values d.spot.definer).instr =
                ap (λ (z : ExtKind). latency_gap e.table (instruction_of z n) user) k ∙ gap_of_copy e.table n user
                ∙ sym (ap (λ (z : ExtKind). latency_by e.table (instruction_of z n)) k) in
                omega (arith, late, waits)

            active : (issue_at values d.spot.definer).active ≡ true
            active = subst (λ (w : LiveRange). w.active ≡ true) range d.active

            value : spot_carried d.spot ≡ v
            value = sym (carried_is e o values (numbered e o values h) (fit_kinds e o values h) d.spot d.member) ∙ d.value ∙ r.value

            here : Member d.spot.definer (all e o values)
            here = definer_in e o values (numbered e o values h) d.spot d.member

            down : t < cycle_at d.spot.definer → Held v t r
            down late = by d.spot.definer.op.kind refl
              where
                -- the value itself is there by then
                itself : spot_carried d.spot ≡ d.spot.temp → Held v t r
                itself c =
                    let one = one_spot e o values (numbered e o values h) d.spot own d.member mo
                    (ap (λ (x : TempId). x.0) (sym c ∙ value ∙ sym is)) in
                    let le : cycle_at d.spot.definer ≤ t = subst (λ (z : Spot). cycle_at z.definer ≤ t) (sym one) early in
                    absurd (omega (arith, le, late))

                -- a copy reads on
                copied : (node : NodeCopy) (xs : List Operand) → d.spot.definer.op.kind ≡ Copy node → d.spot.definer.op.operands ≡ xs
                    → Held v t r
                copied node [] k f =
                    let p = d.spot.definer in
                    let g = placed_good e o values h p here in
                    let keeps = g.keeps in
                    let zip = subst (λ (z : ExtKind). AllZip (IsGoodOperand e.names e.blocks g.before) []
                    (wants_of e.table e.names e.blocks p.owner z p.op)) k
                    (subst (λ (xs : List Operand). AllZip (IsGoodOperand e.names e.blocks g.before) xs
                    (wants_of e.table e.names e.blocks p.owner p.op.kind p.op)) f keeps.operands) in
                    absurd zip
                copied node (y ∷ ys) k f =
                    let first : spot_carried d.spot ≡ temp (first_of y.alts) = ap (λ (z : ExtKind). carried_at z d.spot) k
                    ∙ ap first_read f in
                    let q : Reader v t = record {
                      user = d.spot.definer;
                      member = here;
                      active = active;
                      place = 0;
                      operand = y;
                      at = ap (λ (xs : List Operand). slice_get xs 0) f;
                      value = sym first ∙ value;
                      after = late;
                    } in
                    on (ap is_copy k) (ready_of node k) q refl (below q d.earlier)
                  where
                    on : is_copy d.spot.definer.op.kind ≡ true → ready_at d.spot.definer ≤ cycle_at r.user → (q : Reader v t)
                        → q.user ≡ d.spot.definer → Held v t q → Held v t r
                    on copy ready q same w = record {
                      reader = w.reader;
                      want = w.want;
                      wants = w.wants;
                      reading = w.reading;
                      from = w.from;
                      block = w.block ∙ ap (λ (p : Placed). p.block) same ∙ d.block;
                      way = inr (elim w.way [
                        | inl first ↦ last (ap (λ (z : Reader v t). z.user) first ∙ same)
                        | inr more ↦ further more
                      ]);
                    }
                      where
                        last : w.reader.user ≡ d.spot.definer → IsOnTheWay w.reader.user r.user
                        last one = subst (λ (p : Placed). IsOnTheWay p r.user) (sym one) (record { copy = copy; ready = ready })

                        further : IsOnTheWay w.reader.user q.user → IsOnTheWay w.reader.user r.user
                        further more =
                            let before = more.ready in
                            let there : cycle_at q.user ≡ cycle_at d.spot.definer = ap cycle_at same in
                            record { copy = more.copy; ready = omega (arith, before, there, ready) }

                by : (k : ExtKind) → d.spot.definer.op.kind ≡ k → Held v t r
                by (Copy node) f = copied node d.spot.definer.op.operands f refl
                by In f = itself (ap (λ (z : ExtKind). carried_at z d.spot) f)
                by Out f = itself (ap (λ (z : ExtKind). carried_at z d.spot) f)
                by (Body so) f = itself (ap (λ (z : ExtKind). carried_at z d.spot) f)
                by (End term) f = itself (ap (λ (z : ExtKind). carried_at z d.spot) f)
                by Enter f = itself (ap (λ (z : ExtKind). carried_at z d.spot) f)
                by Leave f = itself (ap (λ (z : ExtKind). carried_at z d.spot) f)

    descends : (n : ℕ) (r : Reader v t) → r.user.number < n → Held v t r
    descends zero r lt = absurd (omega (arith, lt))
    descends (suc n) r lt = step r (λ q less. descends n q (omega (arith, less, lt)))

    -- some temporary carries a value from its definer's cycle to each reader
    pub held : (r : Reader v t) → Held v t r
    held r = descends (suc r.user.number) r (omega arith)
