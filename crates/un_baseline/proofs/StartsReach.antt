-- What is known behind the start of a block, and how many cycles the start takes.
use Rattle.std.proofs.Common.{◌≡◌, ⊎_elim, ℕ, suc, ◌+◌, ◌-◌, ◌*◌, ◌<◌, Bool, true, false, List, [], ◌∷◌, ◌++◌, length, map, replicate, Some}
use Rattle.std.proofs.Common.{refl, sym, ap, subst, ◌∙◌, append_assoc, arith}
use Rattle.std.specs.Prelude.{if◌then◌else◌, slice_get}
use Rattle.std.specs.List.{range_with_len}
use Rattle.std.proofs.lemmas.List.{length-append}
use Rattle.std.proofs.lemmas.List.FromFn.{length-map-range_with_len}
use Rattle.un_base.specs.declared.ids.NameId.{NameId}
use Rattle.un_base.specs.declared.ids.TempId.{TempId}
use Rattle.un_isa.specs.Registers.{callee_saved, saved_registers}
use Rattle.un_isa.specs.Tables.{latency_of}
use Rattle.un_isa.specs.declared.op.Op.TheVariants.{Spill}
use Rattle.un_isa.specs.declared.reg.TheConstants.{LINK}
use Rattle.un_ir.specs.declared.function.Kind.{Kind}
use Rattle.un_ir.specs.declared.extended.ExtKind.TheVariants.{In, Enter}
use Rattle.un_ir.specs.declared.extended.ExtOp.{ExtOp}
use Rattle.un_ir.specs.declared.extended.ExtBlock.{ExtBlock}
use Rattle.un_ir.specs.declared.extended.Ext.{Ext}
use Rattle.un_ir.specs.declared.extended.Growth.{Growth}
use Rattle.un_ir.specs.declared.extended.Sort.{Sort}
use Rattle.un_ir.specs.Extended.{temp}
use Rattle.un_ir.specs.LinearOf.{first_temps}
use Rattle.un_ir.specs.ExtendOf.{frame_op, sort_of_name, value_of, with_results, with_value, with_values, with_enter, with_extended}
use Rattle.un_model.specs.Congruences.{live_in_temps}
use Rattle.un_baseline.specs.declared.plan.Definer.TheVariants.{Start, Other}
use Rattle.un_baseline.specs.declared.plan.Setting.{Setting}
use Rattle.un_baseline.specs.declared.plan.Progress.{Progress}
use Rattle.un_baseline.specs.SpillEverywhere.{purpose_at, progress_of, setting_of}
use Rattle.un_baseline.proofs.Grown.{values_ops, enter_ops, extended_ops}
use Rattle.un_baseline.proofs.CopiedNames.{CopiedAt, copied_value, copied_row, copied_past, NamesCopied, names_first, names_none}
use Rattle.un_baseline.proofs.Reaching.{Reach}
use Rattle.un_baseline.proofs.StartIn.{saved_sort}
use Rattle.un_baseline.proofs.StartReach.{values_still, names_reach}
use Rattle.un_baseline.proofs.ValuesOk.{push_cases}

-- ---- the values of names have copies

-- a value that is there already
copied_below : (n i m : ℕ) (sorts : List Sort) (g : Growth) → i < length g.values → CopiedAt n g i → CopiedAt n (with_values m sorts g) i
copied_below n i m [] g lt h = h
copied_below n i m (sort ∷ sorts) g lt h =
    let size = length-append g.values (value_of m sort g ∷ []) in
    copied_below n i (m + 1) sorts (with_value m sort g) (omega arith)
    (λ le v at. ⊎_elim (λ (a : slice_get g.values i ≡ Some v). h le v a)
    (λ (a : (i ≡ length g.values) × (value_of m sort g ≡ v)). absurd (let z = a.0 in omega arith))
    (push_cases g.values (value_of m sort g) i v at))

-- one of those of names
copied_front : (names : List Kind) (n i m : ℕ) (live_in : List NameId) (sorts : List Sort) (g : Growth)
    → i < length g.values + length live_in
    → CopiedAt n g i → CopiedAt n (with_values m (map (sort_of_name names) live_in ++ sorts) g) i
copied_front names n i m [] sorts g lt h = copied_below n i m sorts g (omega arith) h
copied_front names n i m (name ∷ live_in) sorts g lt h =
    let sort = sort_of_name names name in
    let size = length-append g.values (value_of m sort g ∷ []) in
    copied_front names n i (m + 1) live_in sorts (with_value m sort g) (omega arith) (copied_value n i m sort g refl h)

-- any, where saved values have copies
copied_all : (names : List Kind) (n i m count : ℕ) (live_in : List NameId) (g : Growth) → CopiedAt n g i
    → CopiedAt n (with_values m (map (sort_of_name names) live_in ++ replicate count (saved_sort true)) g) i
copied_all names n i m count [] g h = copied_row n i m count (saved_sort true) g refl h
copied_all names n i m count (name ∷ live_in) g h =
    copied_all names n i (m + 1) count live_in (with_value m (sort_of_name names name) g)
    (copied_value n i m (sort_of_name names name) g refl h)

copied_zero : (names : List Kind) (n m count : ℕ) (live_in : List NameId) (saved : Bool) (g : Growth) → length g.values ≡ n
    → (n ≡ 0 → saved ≡ true)
    → CopiedAt n (with_values m (map (sort_of_name names) live_in ++ replicate count (saved_sort saved)) g) 0
copied_zero names n m count live_in saved g size is le v at =
    let yes : saved ≡ true = is (omega arith) in
    subst (λ (b : Bool). CopiedAt n (with_values m (map (sort_of_name names) live_in ++ replicate count (saved_sort b)) g) 0) (sym yes)
    (copied_all names n 0 m count live_in g (copied_past n 0 g (omega arith))) le v at

enter_copied : (first : Bool) (n i : ℕ) (h : Growth) → CopiedAt n h i → CopiedAt n (with_enter first In h) i
enter_copied true n i h k = k
enter_copied false n i h k = k

pub start_named : (names : List Kind) (live_in : List NameId) (entry saved : Bool) (n count : ℕ) (results : List TempId) (g : Growth)
    → length g.values ≡ n → (n ≡ 0 → saved ≡ true)
    → NamesCopied n (first_temps (replicate count 0) n live_in)
    (with_extended names live_in entry saved (record { kind = In; operands = []; results = results }) g)
start_named names live_in entry saved n count results g size is =
    let more = length results - length live_in in
    let here = with_results In [] (length results) g in
    let all = with_values g.next (map (sort_of_name names) live_in ++ replicate more (saved_sort saved)) here in
    let next = with_enter entry In all in
    names_first n (replicate count 0) n live_in next
    (names_none n count next (enter_copied entry n 0 all (copied_zero names n g.next more live_in saved here size is)))
    (λ j lt. enter_copied entry n (n + j) all
    (copied_front names n (n + j) g.next live_in (replicate more (saved_sort saved)) here (omega arith)
    (copied_past n (n + j) here (omega arith))))

-- ---- cycles

module _ (e : Ext) (block : ExtBlock) (s : Setting) where
  -- the cycles in which the entry spills what it is given
  abbrev pub spills : Bool → ℕ
  spills true = (length block.live_in + 1) * latency_of e.table Spill
  spills false = 0

  enter_reach : (first : Bool) (q : Progress) (tail : List ExtOp) (fin : ℕ)
      → ((r : Progress) → r.cycle ≡ q.cycle → Reach e block s r tail fin) → Reach e block s q (enter_ops first In ++ tail) fin
  enter_reach true q tail fin rest = rest (progress_of e block s q (purpose_at s.term (frame_op Enter ∷ tail)) (frame_op Enter) Enter) refl
  enter_reach false q tail fin rest = rest q refl

  values_reach : (first saved : Bool) (k n : ℕ) (g : Growth) (p : Progress) (tail : List ExtOp) (fin : ℕ)
      → p.definer ≡ (if first then Start else Other) → p.values ≡ 0 → (first ≡ true → saved ≡ true)
      → length block.live_in + suc k ≡ s.values → ((q : Progress) → q.cycle ≡ p.cycle + spills first → Reach e block s q tail fin)
      → Reach e block s p (values_ops n (map (sort_of_name e.names) block.live_in ++ replicate (suc k) (saved_sort saved)) g ++ tail) fin
  values_reach true saved k n g p tail fin is none copied size rest =
      subst (λ (b : Bool). Reach e block s p (values_ops n (map (sort_of_name e.names) block.live_in ++ replicate (suc k) (saved_sort b)) g
      ++ tail) fin) (sym (copied refl))
      (names_reach e block s block.live_in k n g p tail fin is (omega arith)
      (λ j name at. let z : j ≡ p.values + j = omega arith in ap (slice_get block.live_in) (sym z) ∙ at) (omega arith) rest)
  values_reach false saved k n g p tail fin is none copied size rest =
      values_still e block s n (map (sort_of_name e.names) block.live_in ++ replicate (suc k) (saved_sort saved)) g p tail fin is
      (λ q at. rest q (omega arith))

module _ (e : Ext) (entry : Bool) (block : ExtBlock) where
  abbrev s : Setting
  s = setting_of e entry block

  pub start_reach : (saved : Bool) (results : List TempId) (g : Growth) (p : Progress) (tail : List ExtOp) (fin : ℕ)
      → length results ≡ length block.live_in + length (saved_registers e.table)
      → live_in_temps block.ops ≡ map temp (range_with_len g.next (length results)) → (entry ≡ true → saved ≡ true)
      → ((q : Progress) → q.cycle ≡ p.cycle + spills e block s entry → Reach e block s q tail fin)
      → Reach e block s p (extended_ops e.names block.live_in entry saved (record { kind = In; operands = []; results = results }) g
      ++ tail) fin
  start_reach saved results g p tail fin size begins copied rest =
      let k = length (callee_saved e.table) in
      let here = with_results In [] (length results) g in
      let made : ExtOp = record { kind = In; operands = []; results = map temp (range_with_len g.next (length results)) } in
      let sorts = λ (c : ℕ). map (sort_of_name e.names) block.live_in ++ replicate c (saved_sort saved) in
      let l = length-append (callee_saved e.table) (LINK ∷ []) in
      let few : length results - length block.live_in ≡ suc k = omega arith in
      let long = length-map-range_with_len temp g.next (length results) in
      let total : length (live_in_temps block.ops) ≡ length results = ap (λ (xs : List TempId). length xs) begins ∙ long in
      let ds = values_ops g.next (sorts (length results - length block.live_in)) here in
      let es = enter_ops entry In in
      let q = progress_of e block s p (purpose_at s.term (made ∷ ((ds ++ es) ++ tail))) made In in
      subst (λ (ops : List ExtOp). Reach e block s q ops fin) (sym (append_assoc ds es tail))
      (subst (λ (c : ℕ). Reach e block s q (values_ops g.next (sorts c) here ++ (es ++ tail)) fin) (sym few)
      (values_reach e block s entry saved k g.next here q (es ++ tail) fin refl refl copied (omega arith)
      (λ r at. enter_reach e block s entry r tail fin (λ u there. rest u (there ∙ at)))))
