-- How many cycles the start of a block takes: the entry spills the values of its names and of the link register.
use Rattle.std.proofs.Common.{◌≡◌, ℕ, zero, suc, ◌+◌, ◌*◌, ◌≤◌, Bool, true, false, List, [], ◌∷◌, ◌++◌, length, map, replicate, Option}
use Rattle.std.proofs.Common.{Some, None, refl, sym, ap, subst, ◌∙◌, append_assoc, arith}
use Rattle.std.specs.Prelude.{◌==◌, if◌then◌else◌, slice_get}
use Rattle.std.proofs.lemmas.Bool.Decides.{nat_tests}
use Rattle.un_base.specs.declared.ids.NameId.{NameId}
use Rattle.un_base.specs.declared.ids.TempId.{TempId}
use Rattle.un_isa.specs.Tables.{latency_of}
use Rattle.un_isa.specs.declared.op.Op.TheVariants.{Spill}
use Rattle.un_ir.specs.declared.function.Kind.{Kind}
use Rattle.un_ir.specs.declared.function.Kind.TheVariants.{General, Pred}
use Rattle.un_ir.specs.declared.extended.NodeCopy.TheVariants.{D, D2}
use Rattle.un_ir.specs.declared.extended.ExtKind.TheVariants.{Copy}
use Rattle.un_ir.specs.declared.extended.ExtOp.{ExtOp}
use Rattle.un_ir.specs.declared.extended.ExtBlock.{ExtBlock}
use Rattle.un_ir.specs.declared.extended.Ext.{Ext}
use Rattle.un_ir.specs.declared.extended.Growth.{Growth}
use Rattle.un_ir.specs.declared.extended.Sort.{Sort}
use Rattle.un_ir.specs.Extended.{temp}
use Rattle.un_ir.specs.ExtendOf.{copy_op, sort_of_name, with_value}
use Rattle.un_baseline.specs.declared.plan.Definer.{Definer}
use Rattle.un_baseline.specs.declared.plan.Definer.TheVariants.{Start, Other}
use Rattle.un_baseline.specs.declared.plan.Setting.{Setting}
use Rattle.un_baseline.specs.declared.plan.Progress.{Progress}
use Rattle.un_baseline.specs.SpillEverywhere.{purpose_at, slot_at_start, no_move, spilled_to, first_copy, second_copy, after_move}
use Rattle.un_baseline.specs.SpillEverywhere.{progress_of}
use Rattle.un_baseline.proofs.Grown.{copy_ops, value_ops, values_ops}
use Rattle.un_baseline.proofs.Reaching.{Reach}
use Rattle.un_baseline.proofs.StartIn.{saved_sort}

none_past : {A : Type 0} (xs : List A) (k : ℕ) → length xs ≤ k → slice_get xs k ≡ None
none_past [] k le = refl
none_past (x ∷ xs) zero le = absurd (omega arith)
none_past (x ∷ xs) (suc k) le = none_past xs k (omega arith)

sum_more : (p q r m one : ℕ) → q ≡ p + one → r ≡ q + (m + 1) * one → r ≡ p + (suc m + 1) * one
sum_more p q r m one a b = grind arith

module _ (e : Ext) (block : ExtBlock) (s : Setting) where
  -- a value takes so many cycles, whatever comes behind
  record Takes (d : Definer) (cycles : ℕ) (p q : Progress) : Type 0 where
    cycle : q.cycle ≡ p.cycle + cycles
    values : q.values ≡ p.values + 1
    definer : q.definer ≡ d

  value_takes : (d : Definer) (kind : Kind) (n m cycles : ℕ) (p : Progress) (tail : List ExtOp) (fin : ℕ) → p.definer ≡ d
      → after_move e.table p.cycle (first_copy e.names block.live_in s p d) ≡ p.cycle + cycles
      → ((q : Progress) (alts : List TempId) → second_copy q alts d ≡ no_move)
      → ((q : Progress) → Takes d cycles p q → Reach e block s q tail fin)
      → Reach e block s p (copy_ops D D2 kind true (temp n ∷ []) m ++ tail) fin
  value_takes d General n m cycles p tail fin is moves still rest =
      rest (progress_of e block s p (purpose_at s.term tail) (copy_op D (temp n ∷ []) m) (Copy D)) (record {
        cycle = ap (λ (x : Definer). after_move e.table p.cycle (first_copy e.names block.live_in s p x)) is ∙ moves;
        values = refl;
        definer = is;
      })
  value_takes d Pred n m cycles p tail fin is moves still rest =
      let purpose = purpose_at s.term tail in
      let alts = (temp n ∷ []) ++ temp m ∷ [] in
      let q = progress_of e block s p purpose (copy_op D (temp n ∷ []) m) (Copy D) in
      let r = progress_of e block s q purpose (copy_op D2 alts (m + 1)) (Copy D2) in
      let first : q.cycle ≡ p.cycle + cycles = ap (λ (x : Definer). after_move e.table p.cycle (first_copy e.names block.live_in s p x)) is
      ∙ moves in
      let second : r.cycle ≡ q.cycle = ap (λ (x : Definer). after_move e.table q.cycle (second_copy q alts x)) is
      ∙ ap (after_move e.table q.cycle) (still q alts) in
      rest r (record { cycle = second ∙ first; values = refl; definer = is })

  -- ---- a block that is not the entry

  pub values_still : (n : ℕ) (sorts : List Sort) (g : Growth) (p : Progress) (tail : List ExtOp) (fin : ℕ) → p.definer ≡ Other
      → ((q : Progress) → q.cycle ≡ p.cycle → Reach e block s q tail fin) → Reach e block s p (values_ops n sorts g ++ tail) fin
  values_still n [] g p tail fin is rest = rest p refl
  values_still n (sort ∷ sorts) g p tail fin is rest =
      let more = values_ops (n + 1) sorts (with_value n sort g) in
      subst (λ (ops : List ExtOp). Reach e block s p ops fin) (sym (append_assoc (value_ops n sort g) more tail))
      (by sort.copied (λ q at d. values_still (n + 1) sorts (with_value n sort g) q tail fin d (λ r z. rest r (z ∙ at))))
    where
      by : (copied : Bool)
          → ((q : Progress) → q.cycle ≡ p.cycle → q.definer ≡ Other → Reach e block s q
          (values_ops (n + 1) sorts (with_value n sort g) ++ tail) fin)
          → Reach e block s p (copy_ops D D2 sort.kind copied (temp n ∷ []) g.next ++
          (values_ops (n + 1) sorts (with_value n sort g) ++ tail)) fin
      by false go = go p refl is
      by true go =
          value_takes Other sort.kind n g.next 0 p (values_ops (n + 1) sorts (with_value n sort g) ++ tail) fin is (omega arith)
          (λ q alts. refl)
          (λ q k. go q (let c = k.cycle in omega arith) k.definer)

  -- ---- the entry

  abbrev one : ℕ
  one = latency_of e.table Spill

  named_moves : (p : Progress) (name : NameId) → slice_get block.live_in p.values ≡ Some name
      → after_move e.table p.cycle (first_copy e.names block.live_in s p Start) ≡ p.cycle + one
  named_moves p name at = ap (λ (x : Option NameId). after_move e.table p.cycle (spilled_to (slot_at_start s p.values x) p.cycle)) at

  last_moves : (p : Progress) → slice_get block.live_in p.values ≡ None → p.values + 1 ≡ s.values
      → after_move e.table p.cycle (first_copy e.names block.live_in s p Start) ≡ p.cycle + one
  last_moves p at last =
      let test : (p.values + 1 == s.values) ≡ true = grind (arith, nat_tests) in
      ap (λ (x : Option NameId). after_move e.table p.cycle (spilled_to (slot_at_start s p.values x) p.cycle)) at
      ∙ ap (λ (b : Bool). after_move e.table p.cycle (spilled_to (if b then Some s.link else None) p.cycle)) test

  saved_moves : (p : Progress) (k : ℕ) → slice_get block.live_in p.values ≡ None → p.values + suc (suc k) ≡ s.values
      → after_move e.table p.cycle (first_copy e.names block.live_in s p Start) ≡ p.cycle + 0
  saved_moves p k at count =
      let test : (p.values + 1 == s.values) ≡ false = grind (arith, nat_tests) in
      let z : p.cycle ≡ p.cycle + 0 = omega arith in
      ap (λ (x : Option NameId). after_move e.table p.cycle (spilled_to (slot_at_start s p.values x) p.cycle)) at
      ∙ ap (λ (b : Bool). after_move e.table p.cycle (spilled_to (if b then Some s.link else None) p.cycle)) test ∙ z

  saved_reach : (k n : ℕ) (g : Growth) (p : Progress) (tail : List ExtOp) (fin : ℕ) → p.definer ≡ Start → p.values + suc k ≡ s.values
      → length block.live_in ≤ p.values → ((q : Progress) → q.cycle ≡ p.cycle + one → Reach e block s q tail fin)
      → Reach e block s p (values_ops n (replicate (suc k) (saved_sort true)) g ++ tail) fin
  saved_reach zero n g p tail fin is count past rest =
      subst (λ (ops : List ExtOp). Reach e block s p ops fin) (sym (append_assoc (value_ops n (saved_sort true) g) [] tail))
      (value_takes Start General n g.next one p tail fin is (last_moves p (none_past block.live_in p.values past) count) (λ q alts. refl)
      (λ q k. rest q k.cycle))
  saved_reach (suc k) n g p tail fin is count past rest =
      let next = with_value n (saved_sort true) g in
      let more = values_ops (n + 1) (replicate (suc k) (saved_sort true)) next in
      subst (λ (ops : List ExtOp). Reach e block s p ops fin) (sym (append_assoc (value_ops n (saved_sort true) g) more tail))
      (value_takes Start General n g.next 0 p (more ++ tail) fin is (saved_moves p k (none_past block.live_in p.values past) count)
      (λ q alts. refl)
      (λ q h.
      let c = h.cycle in
      let v = h.values in
      saved_reach k (n + 1) next q tail fin h.definer (omega arith) (omega arith) (λ r z. rest r (omega arith))))

  pub names_reach : (names : List NameId) (k n : ℕ) (g : Growth) (p : Progress) (tail : List ExtOp) (fin : ℕ) → p.definer ≡ Start
      → p.values + (length names + suc k) ≡ s.values
      → ((j : ℕ) (name : NameId) → slice_get names j ≡ Some name → slice_get block.live_in (p.values + j) ≡ Some name)
      → p.values + length names ≡ length block.live_in
      → ((q : Progress) → q.cycle ≡ p.cycle + (length names + 1) * one → Reach e block s q tail fin)
      → Reach e block s p (values_ops n (map (sort_of_name e.names) names ++ replicate (suc k) (saved_sort true)) g ++ tail) fin
  names_reach [] k n g p tail fin is count live past rest =
      saved_reach k n g p tail fin is (omega arith) (omega arith)
      (λ q at. rest q (let z : (0 + 1) * one ≡ one = omega arith in omega arith))
  names_reach (name ∷ names) k n g p tail fin is count live past rest =
      let sort = sort_of_name e.names name in
      let next = with_value n sort g in
      let more = values_ops (n + 1) (map (sort_of_name e.names) names ++ replicate (suc k) (saved_sort true)) next in
      let z : p.values + 0 ≡ p.values = omega arith in
      subst (λ (ops : List ExtOp). Reach e block s p ops fin) (sym (append_assoc (value_ops n sort g) more tail))
      (value_takes Start sort.kind n g.next one p (more ++ tail) fin is
      (named_moves p name (ap (slice_get block.live_in) (sym z) ∙ live 0 name refl))
      (λ q alts. refl)
      (λ q h.
      let c = h.cycle in
      let v = h.values in
      names_reach names k (n + 1) next q tail fin h.definer (omega arith)
      (λ j x at. let w : q.values + j ≡ p.values + suc j = omega arith in ap (slice_get block.live_in) w ∙ live (suc j) x at)
      (omega arith) (λ r at. rest r (sum_more p.cycle q.cycle r.cycle (length names) one c at))))
