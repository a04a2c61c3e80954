-- The end of a block that returns: the address and the result are reloaded.
use Rattle.std.proofs.Common.{◌≡◌, ◌≢◌, ℕ, ◌+◌, ◌≤◌, inr, Bool, true, false, List, [], ◌∷◌, ◌++◌, length, map, Option, Some, None, refl}
use Rattle.std.proofs.Common.{sym, ap, subst, ◌∙◌, append_assoc, arith}
use Rattle.std.specs.Prelude.{◌==◌, if◌then◌else◌, slice_get, slice_index, All}
use Rattle.std.proofs.lemmas.Bool.Decides.{nat_tests}
use Rattle.std.proofs.lemmas.List.Elements.{All-nil, All-cons}
use Rattle.un_base.specs.declared.ids.NameId.{NameId}
use Rattle.un_base.specs.declared.ids.TempId.{TempId}
use Rattle.un_isa.specs.declared.op.Op.TheVariants.{Jumpr}
use Rattle.un_isa.specs.declared.reg.TheConstants.{LINK, FIRST_SLOT}
use Rattle.un_isa.specs.Fit.{IsFit}
use Rattle.un_isa.specs.Registers.{callee_saved}
use Rattle.un_isa.specs.Tables.{in_mask}
use Rattle.un_ir.specs.declared.function.Kind.TheVariants.{General}
use Rattle.un_ir.specs.declared.function.Block.{Block}
use Rattle.un_ir.specs.declared.function.Function.{Function}
use Rattle.un_ir.specs.declared.function.Term.{Term}
use Rattle.un_ir.specs.declared.function.Term.TheVariants.{Ret}
use Rattle.un_ir.specs.declared.extended.NodeCopy.TheVariants.{U}
use Rattle.un_ir.specs.declared.extended.ExtKind.TheVariants.{Out, End, Leave}
use Rattle.un_ir.specs.declared.extended.Operand.{Operand}
use Rattle.un_ir.specs.declared.extended.ExtOp.{ExtOp}
use Rattle.un_ir.specs.declared.extended.ExtBlock.{ExtBlock}
use Rattle.un_ir.specs.declared.extended.Ext.{Ext}
use Rattle.un_ir.specs.declared.extended.Growth.{Growth}
use Rattle.un_ir.specs.declared.extended.Sort.{Sort}
use Rattle.un_ir.specs.Extended.{at_register}
use Rattle.un_ir.specs.ExtendOf.{copy_op, frame_op, with_op, with_operand, with_operands, new_operands, chosen_from}
use Rattle.un_ir.specs.LinearOf.{kind_of_pair, reads, name_operand, kept_operands}
use Rattle.un_ir.specs.Live.{IsLive}
use Rattle.un_ir.specs.Names.{kind_of}
use Rattle.un_model.specs.declared.schedule.Read.{Read}
use Rattle.un_model.specs.Schedules.{chosen}
use Rattle.un_baseline.specs.declared.plan.Purpose.TheVariants.{Link, Returned}
use Rattle.un_baseline.specs.declared.plan.Definer.TheVariants.{Other}
use Rattle.un_baseline.specs.declared.plan.Setting.{Setting}
use Rattle.un_baseline.specs.declared.plan.Progress.{Progress}
use Rattle.un_baseline.specs.SpillEverywhere.{purpose_at, purpose_of_out, last_place, kept_place, result_wait, out_place, other_progress}
use Rattle.un_baseline.proofs.Carried.{Carries, carries_same, carries_operand, carries_operands, arrived_general}
use Rattle.un_baseline.proofs.Grown.{operand_ops, operands_ops, all_ops, extended_ops}
use Rattle.un_baseline.proofs.Sound.{Seen}
use Rattle.un_baseline.proofs.Standing.{Stands, Timely, Known, IsCalled}
use Rattle.un_baseline.proofs.Walk.{Good}
use Rattle.un_baseline.proofs.Arrivals.{kept_later, operands_purpose, next_of, ops_of, sort_by}
use Rattle.un_baseline.proofs.Going.{SavedAt, LinkAt, Going, kept_as}
use Rattle.un_baseline.proofs.Ends.{out_shape, ended, enter_end, no_enter, OutAsks, out_after, kept_out, new_size}
use Rattle.un_baseline.proofs.Outs.{AreOut, operands_rest, out_later, out_reads, out_good}
use Rattle.un_baseline.proofs.Tailing.{leave_good, transfer_good, late_copy, timely_weaker, calls_weaker}
use Rattle.un_baseline.proofs.Items.{all_at}

module _ (c : ℕ) (H : Seen → List Read → Type 0) (b end : ℕ) (e : Ext) (block : ExtBlock) (s : Setting) (fit : IsFit e.table)
    (free : (r : ℕ) → FIRST_SLOT ≤ r → in_mask c r ≡ false) (f : Function) (source : Block) (at : slice_get f.blocks b ≡ Some source)
    (same_names : e.names ≡ map kind_of_pair f.names) (link_is : s.link ≡ FIRST_SLOT + length e.names) (live_in : List NameId)
    (entry saved : Bool) where
  abbrev G : ℕ → Progress → Seen → List ExtOp → Type 0
  G = Good c H b end e block s fit

  abbrev Goes : ℕ → ℕ → ℕ → Growth → List ℕ → ℕ → Progress → Seen → Type 0
  Goes = Going c H b end e block s fit free f source at same_names link_is live_in entry saved

  abbrev SavedHere : Growth → Seen → ℕ → ℕ → Type 0
  SavedHere = SavedAt c H b end e block s fit free f source at same_names link_is live_in entry saved

  abbrev LinkHere : Growth → Seen → ℕ → Type 0
  LinkHere = LinkAt c H b end e block s fit free f source at same_names link_is live_in entry saved

  abbrev Outs : Growth → Seen → ℕ → ℕ → List Operand → List ℕ → Type 0
  Outs = AreOut c H b end e block s fit

  -- all but low registers and the link register stands behind what comes before the end
  abbrev Stays : Seen → Seen → Type 0
  Stays seen seen' = (k r : ℕ) → 6 ≤ r → r ≢ LINK → Stands c b k r seen → Stands c b k r seen'

  abbrev ops_from : List ExtOp → Growth → List ExtOp
  ops_from ops x = all_ops e.names live_in entry saved ops x

  abbrev end_at : Term → List Operand → ExtOp
  end_at term xs = record { kind = End term; operands = xs; results = [] }

  abbrev out_at : List Operand → ExtOp
  out_at xs = record { kind = Out; operands = xs; results = [] }

  module _ (kept0 link0 : ℕ) (g : Growth) (current : List ℕ) (first : ℕ) (p : Progress) (seen : Seen)
      (h : Goes kept0 link0 (length source.ops) g current first p seen) (copied : saved ≡ true) (value : Option NameId) where
    abbrev address : Operand
    address = reads link0 None

    abbrev before : Growth
    before = with_op g (frame_op Leave)

    abbrev behind : Growth
    behind = ended c H b end e block s fit free f source at same_names link_is live_in entry saved (Ret value) (address ∷ []) before

    carries : Carries before link0 h.link.own (sort_by General)
    carries = carries_same g before link0 h.link.own (sort_by General) refl (subst
        (λ (t : Bool). Carries g link0 h.link.own (record { kind = General; copied = t })) copied h.link.carries)

    -- Leave, the reload of the address, the return
    steps : (rest : List ExtOp) → extended_ops e.names live_in entry saved (end_at (Ret value) (address ∷ [])) g ++ rest
        ≡ frame_op Leave ∷ (copy_op U h.link.own g.next ∷ (end_at (Ret value) (new_operands (address ∷ []) before) ∷ rest))
    steps rest =
        let made = end_at (Ret value) (new_operands (address ∷ []) before) in
        ap (λ (es : List ExtOp). frame_op Leave ∷ ((operands_ops (address ∷ []) before ++ (made ∷ es)) ++ rest))
        (no_enter c H b end e block s fit free f source at same_names link_is live_in entry saved entry (Ret value))
        ∙ ap (λ (us : List ExtOp). frame_op Leave ∷ (((us ++ []) ++ (made ∷ [])) ++ rest))
        (ops_of c H b end e block s fit address before h.link.own General carries)

    -- what stands behind them
    record Left (seen' : Seen) : Type 0 where
      stays : Stays seen seen'
      size : length seen'.made ≡ behind.next
      timely : Timely c b p.cycle 0 seen'
      known : Known c b seen'
      calls : All (IsCalled c b p.cycle) seen'.issues

    abbrev returned : Progress
    returned = other_progress p.cycle Other

    leaves : (n : ℕ) (rest : List ExtOp) → ((m : ℕ) (seen' : Seen) → Left seen' → G m returned seen' rest)
        → G n p seen (extended_ops e.names live_in entry saved (end_at (Ret value) (address ∷ [])) g ++ rest)
    leaves n rest go =
        let made = end_at (Ret value) (new_operands (address ∷ []) before) in
        let own = h.link.own in
        let place = kept_place s own in
        let at' = p.cycle + result_wait e.table s.term in
        let front = h.front in
        let y = chosen_from address (with_operand address before) in
        subst (G n p seen) (sym (steps rest))
        (leave_good c H b end e block s fit n p seen (copy_op U own g.next ∷ made ∷ rest)
        (λ seen1 idle.
        let f1 = idle.front p.cycle front in
        late_copy c H b end e block s fit (n + 1) returned seen1 own g.next (made ∷ rest) Link at' place LINK (chosen own place).0 s.link
        refl refl refl refl (idle.stands (chosen own place).0 s.link h.link.stands) (omega arith) (omega arith)
        (timely_weaker c H b end e block s fit p.cycle at' LINK seen1 (omega arith) (f1.timely LINK))
        (calls_weaker c H b end e block s fit p.cycle at' seen1.issues (omega arith) f1.calls) f1.known
        (λ seen2 re.
        let here : length seen1.made ≡ g.next = (let a = idle.longer in let d = h.size in omega arith) in
        let stands : Stands c b (chosen y.alts (last_place y.alts)).0 LINK seen2 =
        subst (λ (k : ℕ). Stands c b k LINK seen2) (here ∙ ap (λ (z : TempId). z.0) (sym (arrived_general address before own carries)))
        re.new in
        transfer_good c H b end e block s fit (n + 1 + 1) (record { cycle = p.cycle; values = 0; operands = 0 + 1; definer = Other })
        seen2 (Ret value) Jumpr
        (new_operands (address ∷ []) before) rest (LINK ∷ []) refl (λ z. cc z) (stands, tt) (refl, tt, tt)
        (λ seen3 passed. go (n + 1 + 1 + 1) seen3 (record {
          stays = λ k r high other st. passed.stands k r (re.stands k r other (idle.stands k r st));
          size = passed.longer ∙ re.longer ∙ ap (λ (k : ℕ). k + 1) here ∙ sym (next_of c H b end e block s fit address before own General
              carries)
              ∙ (let z : (with_operand address before).next ≡ (with_operand address before).next + 0 = omega arith in z);
          timely = passed.timely p.cycle 0 (All-cons (λ (x : ℕ). x ≢ 0) LINK [] (λ z. omega arith) (All-nil (λ (x : ℕ). x ≢ 0))) re.known
              (re.timely p.cycle 0 (λ z. omega arith) (λ z. omega arith) (f1.timely 0));
          known = passed.known re.known;
          calls = passed.calls p.cycle (re.calls p.cycle f1.calls);
        })))))

    to_behind : (v : ℕ) (own : List TempId) (sort : Sort) → Carries g v own sort → Carries behind v own sort
    to_behind v own sort k =
        carries_same (with_operands (address ∷ []) before) behind v own sort refl
        (carries_operands (address ∷ []) before v own sort (carries_same g before v own sort refl k))

    -- callee-saved registers
    abbrev regs : List ℕ
    regs = callee_saved e.table

    regs_stay : (seen' : Seen) → Stays seen seen' → All (λ (r : ℕ). (k : ℕ) → Stands c b k r seen → Stands c b k r seen') regs
    regs_stay seen' stays = all_at (λ (r : ℕ). (k : ℕ) → Stands c b k r seen → Stands c b k r seen') regs
        (λ j r got k st. let q = h.saved_at j r got in let low = q.low in stays k r q.safe.high (λ z. omega arith) st)

    regs_out : (count j : ℕ) → ((n : ℕ) (y : Operand) → j ≤ n → out_place e.names block.live_out s count s.term n y ≡ 0)
        → Outs g seen count j (kept_operands kept0 regs) regs
    regs_out count j zeros =
        subst (λ (z : ℕ). Outs g seen count j (kept_operands z regs) regs) (let z : kept0 + 0 ≡ kept0 = omega arith in z)
        (kept_out c H b end e block s fit free f source at same_names link_is live_in entry saved kept0 link0
        (length source.ops) g current first p seen h count 0 j regs
        (λ m r got. let z : kept0 + m ≡ kept0 + (0 + m) = omega arith in subst (λ (v : ℕ). SavedHere g seen v r) z (h.saved_at m r got))
        zeros)

    abbrev behind_ops : ExtOp → List ExtOp
    behind_ops out = ops_from (end_at (Ret value) (address ∷ []) ∷ out ∷ []) g

    return_with : (n : ℕ) (out : ExtOp) → ((m : ℕ) (seen' : Seen) → Left seen' → G m returned seen' (ops_from (out ∷ []) behind))
        → G n p seen (behind_ops out)
    return_with n out go =
        subst (λ (z : Growth). G n p seen (extended_ops e.names live_in entry saved (end_at (Ret value) (address ∷ [])) g
        ++ ops_from (out ∷ []) z))
        (sym (enter_end c H b end e block s fit free f source at same_names link_is live_in entry saved entry (Ret value) behind))
        (leaves n (ops_from (out ∷ []) behind) go)

  -- without a result
  pub return_none : (kept0 link0 : ℕ) (g : Growth) (current : List ℕ) (first : ℕ) (p : Progress) (seen : Seen)
      → Goes kept0 link0 (length source.ops) g current first p seen → saved ≡ true → s.term ≡ Ret None
      → OutAsks c H b end e block s fit free f source at same_names link_is live_in entry saved (callee_saved e.table) → (n : ℕ)
      → G n p seen (ops_from (end_at (Ret None) (reads link0 None ∷ []) ∷ out_at (kept_operands kept0 (callee_saved e.table)) ∷ []) g)
  return_none kept0 link0 g current first p seen h copied term wanted n =
      let rs = callee_saved e.table in
      let xs = kept_operands kept0 rs in
      let g' = behind kept0 link0 g current first p seen h copied None in
      return_with kept0 link0 g current first p seen h copied None n (out_at xs)
      (λ m seen' left. out_after c H b end e block s fit free f source at same_names link_is live_in entry saved m
      (other_progress p.cycle Other) seen' g' xs rs
      (out_later c H b end e block s fit g g' seen seen' (length xs) 0 xs rs (to_behind kept0 link0 g current first p seen h copied None)
      (regs_stay kept0 link0 g current first p seen h copied None seen' left.stays)
      (regs_out kept0 link0 g current first p seen h copied None (length xs) 0 (λ j y le. ap
      (λ (t : Term). out_place e.names block.live_out s (length xs) t j y) term)))
      (ap purpose_of_out term) wanted)

  -- with a result
  pub return_some : (kept0 link0 : ℕ) (g : Growth) (current : List ℕ) (first : ℕ) (p : Progress) (seen : Seen)
      → Goes kept0 link0 (length source.ops) g current first p seen → saved ≡ true → (name : NameId) → s.term ≡ Ret (Some name)
      → kind_of f.names name ≡ Some General → IsLive f.blocks name b (length source.ops)
      → OutAsks c H b end e block s fit free f source at same_names link_is live_in entry saved (0 ∷ callee_saved e.table) → (n : ℕ)
      → G n p seen (ops_from (end_at (Ret (Some name)) (reads link0 None ∷ [])
      ∷ out_at (name_operand current (at_register e.table.result) name ∷ kept_operands kept0 (callee_saved e.table)) ∷ []) g)
  return_some kept0 link0 g current first p seen h copied name term kind live wanted n =
      let value = Some name in
      let rs = callee_saved e.table in
      let x = name_operand current (at_register e.table.result) name in
      let ks = kept_operands kept0 rs in
      let xs = x ∷ ks in
      let g' = behind kept0 link0 g current first p seen h copied value in
      let g'' = with_operand x g' in
      let made = out_at (new_operands xs g') in
      let to = to_behind kept0 link0 g current first p seen h copied value in
      let k0 = kept_as c H b end e block s fit free f source at same_names link_is live_in entry saved g seen
      (slice_index current name.0) name General kind (h.names name live) in
      return_with kept0 link0 g current first p seen h copied value n (out_at xs)
      (λ m seen3 left.
      let k = kept_later c H b end e block s fit g g' seen seen3 (slice_index current name.0) General (to (slice_index current name.0))
      (λ i r le st. left.stays i r (omega arith) (λ z. omega arith) st) k0 in
      let place = kept_place s k.own in
      let rest = operands_ops ks g'' ++ made ∷ [] in
      let p3 = other_progress p.cycle Other in
      let p4 : Progress = record { cycle = p.cycle; values = 0; operands = 0 + 1; definer = Other } in
      let for : purpose_at s.term rest ≡ Returned = operands_purpose c H b end e block s fit ks g'' (made ∷ []) ∙ ap purpose_of_out term in
      let shape : ops_from (out_at xs ∷ []) g' ≡ copy_op U k.own g'.next ∷ rest =
      out_shape c H b end e block s fit free f source at same_names link_is live_in entry saved xs g'
      ∙ append_assoc (operand_ops x g') (operands_ops ks g'') (made ∷ [])
      ∙ ap (λ (us : List ExtOp). us ++ rest) (ops_of c H b end e block s fit x g' k.own General k.carries) in
      subst (G m p3 seen3) (sym shape)
      (late_copy c H b end e block s fit m p3 seen3 k.own g'.next rest Returned p.cycle place 0 (chosen k.own place).0 k.room
      for refl refl refl k.stands k.slot (omega arith) left.timely left.calls left.known
      (λ seen4 re.
      operands_rest c H b end e block s fit ks (m + 1) p4 seen4 g'' (made ∷ []) Returned (ap purpose_of_out term) (inr (refl, omega arith))
      (λ m' q seen5 count same idle.
      let ys = new_operands xs g' in
      let y = chosen_from x g'' in
      let size : length ys ≡ length xs = new_size c H b end e block s fit free f source at same_names link_is live_in entry saved xs g' in
      let first_place : out_place e.names block.live_out s (length ys) s.term 0 y
      ≡ last_place y.alts = ap (λ (t : Term). out_place e.names block.live_out s (length ys) t 0 y) term in
      let temp_is : (chosen y.alts (out_place e.names block.live_out s (length ys) s.term 0 y)).0 ≡ length seen3.made =
      ap (λ (i : ℕ). (chosen y.alts i).0) first_place ∙ ap (λ (z : TempId). z.0) (arrived_general x g' k.own k.carries) ∙ sym left.size in
      let zeros : (j : ℕ) (z : Operand) → 1 ≤ j → out_place e.names block.live_out s (length ys) s.term j z ≡ 0 =
      λ j z le. ap (λ (t : Term). out_place e.names block.live_out s (length ys) t j z) term ∙ not_first j (last_place z.alts) le in
      out_good c H b end e block s fit m' q seen5 ys (0 ∷ rs) (
        (subst (λ (i : ℕ). Stands c b i 0 seen5) (sym temp_is) (idle.stands (length seen3.made) 0 re.new), sym fit.result),
        out_reads c H b end e block s fit g'' seen5 (length ys) 1 ks rs
            (out_later c H b end e block s fit g g'' seen seen5 (length ys) 1 ks rs
            (λ v own sort q'. carries_operand x g' v own sort (to v own sort q'))
            (regs_stay kept0 link0 g current first p seen h copied value seen5
            (λ i r high other st. idle.stands i r (re.stands i r (λ z. omega arith) (left.stays i r high other st))))
            (regs_out kept0 link0 g current first p seen h copied value (length ys) 1 zeros)),
      )
      (wanted seen5)))))
    where
      not_first : (j n : ℕ) → 1 ≤ j → (if j == 0 then n else 0) ≡ 0
      not_first j n le = let z : (j == 0) ≡ false = grind (arith, nat_tests) in rw z refl
