-- Behind the start of a block each live name has its value in its slot, and the saved values stand where they are kept.
use Rattle.std.proofs.Common.{◌≡◌, ◌≢◌, ℕ, zero, suc, ◌+◌, ◌-◌, ◌<◌, ◌≤◌, ◌⊎◌, inl, inr, Bool, true, false, List, [], ◌∷◌, ◌++◌, length}
use Rattle.std.proofs.Common.{map, replicate, get_or, Some, None, refl, sym, ap, subst, ◌∙◌, append_assoc, length-set, arith}
use Rattle.std.specs.Prelude.{◌==◌, nat_lt, if◌then◌else◌, slice_get, slice_index, slice_set, All, AllPairs, Contains}
use Rattle.std.proofs.lemmas.Bool.{cases_lt}
use Rattle.std.proofs.lemmas.Bool.Decides.{nat_tests}
use Rattle.std.proofs.lemmas.Option.{slice_get_within, slice_get_past, get_or_from_slice_get, slice_get-get_or}
use Rattle.std.proofs.lemmas.List.{length-append, length-map, length-replicate, get_or-set_same, get_or-set_other}
use Rattle.std.proofs.lemmas.List.FromFn.{get_or-range_with_len, length-map-range_with_len}
use Rattle.std.proofs.lemmas.List.Elements.{All-append, All-nil, All-cons, All-weaker}
use Rattle.std.proofs.lemmas.List.Kept.{AllPairs-cons}
use Rattle.un_base.specs.declared.ids.NameId.{NameId}
use Rattle.un_base.specs.declared.ids.TempId.{TempId}
use Rattle.un_isa.specs.declared.reg.TheConstants.{LINK, FIRST_SLOT}
use Rattle.un_isa.specs.Fit.{IsFit}
use Rattle.un_isa.specs.Registers.{callee_saved, saved_registers}
use Rattle.un_isa.specs.Tables.{in_mask}
use Rattle.un_ir.specs.declared.function.Kind.{Kind}
use Rattle.un_ir.specs.declared.function.Kind.TheVariants.{General}
use Rattle.un_ir.specs.declared.function.Block.{Block}
use Rattle.un_ir.specs.declared.function.Function.{Function}
use Rattle.un_ir.specs.declared.extended.ExtKind.TheVariants.{In, Enter}
use Rattle.un_ir.specs.declared.extended.ExtOp.{ExtOp}
use Rattle.un_ir.specs.declared.extended.ExtBlock.{ExtBlock}
use Rattle.un_ir.specs.declared.extended.Ext.{Ext}
use Rattle.un_ir.specs.declared.extended.Growth.{Growth}
use Rattle.un_ir.specs.declared.extended.Sort.{Sort}
use Rattle.un_ir.specs.Extended.{temp, name_kind}
use Rattle.un_ir.specs.ExtendOf.{frame_op, copy_count, new_temps, own_temps, with_value, with_values, sort_of_name, with_results}
use Rattle.un_ir.specs.ExtendOf.{with_enter, with_extended}
use Rattle.un_ir.specs.LinearOf.{kind_of_pair, first_temps, in_op}
use Rattle.un_ir.specs.Live.{IsLive}
use Rattle.un_ir.proofs.NameBounds.{at_all}
use Rattle.un_model.specs.declared.schedule.Read.{Read}
use Rattle.un_model.specs.Schedules.{chosen}
use Rattle.un_model.specs.Pairs.{places_from}
use Rattle.un_baseline.specs.declared.plan.Definer.TheVariants.{Start, Other}
use Rattle.un_baseline.specs.declared.plan.Setting.{Setting}
use Rattle.un_baseline.specs.declared.plan.Progress.{Progress}
use Rattle.un_baseline.specs.SpillEverywhere.{slot_of, is_placed, last_place, kept_place, start_register, other_progress}
use Rattle.un_baseline.proofs.Carried.{Carries, carries_same}
use Rattle.un_baseline.proofs.Grown.{enter_ops, values_ops, value_next, extended_ops}
use Rattle.un_baseline.proofs.Sound.{Seen}
use Rattle.un_baseline.proofs.Standing.{Stands, Front}
use Rattle.un_baseline.proofs.Timing.{pairs_append, pairs_nil}
use Rattle.un_baseline.proofs.Walk.{Good}
use Rattle.un_baseline.proofs.Arrivals.{sort_by}
use Rattle.un_baseline.proofs.Bodies.{Named, own_size, not_placed}
use Rattle.un_baseline.proofs.Going.{SavedAt, LinkAt, Going}
use Rattle.un_baseline.proofs.Tailing.{enter_good}
use Rattle.un_baseline.proofs.Starts.{AreApart, Fresh, start_at, start_good, value_at, values_size, values_ops_append, values_rest}
use Rattle.un_baseline.proofs.Starts.{params_spill, link_spills}
use Rattle.un_baseline.proofs.Items.{get_left, get_right, get_map, get_replicate, append_nil}

-- ---- lists

-- ---- the temporaries of names at a block's start

first_others : (current : List ℕ) (n k : ℕ) (ns : List NameId) → ((i : ℕ) (y : NameId) → slice_get ns i ≡ Some y → y.0 ≢ k)
    → slice_index (first_temps current n ns) k ≡ slice_index current k
first_others current n k [] h = refl
first_others current n k (x ∷ ns) h =
    first_others (slice_set current x.0 n) (n + 1) k ns (λ i y got. h (suc i) y got)
    ∙ get_or-set_other current x.0 k n 0 (λ z. h 0 x refl (sym z))

pub first_at : (current : List ℕ) (n : ℕ) (ns : List NameId) (j : ℕ) (name : NameId) → slice_get ns j ≡ Some name → name.0 < length current
    → ((i k : ℕ) (x y : NameId) → i < k → slice_get ns i ≡ Some x → slice_get ns k ≡ Some y → x.0 ≢ y.0)
    → slice_index (first_temps current n ns) name.0 ≡ n + j
first_at current n [] j name got small apart = absurd (cc got)
first_at current n (x ∷ ns) zero name got small apart =
    let same : x ≡ name = cc got in
    let z : n ≡ n + 0 = omega arith in
    subst (λ (y : NameId). slice_index (first_temps (slice_set current x.0 n) (n + 1) ns) y.0 ≡ n + 0) same
    (first_others (slice_set current x.0 n) (n + 1) x.0 ns (λ i y got' e. apart 0 (suc i) x y (omega arith) refl got' (sym e))
    ∙ get_or-set_same current x.0 n 0 (subst (λ (y : NameId). y.0 < length current) (sym same) small) ∙ z)
first_at current n (x ∷ ns) (suc j) name got small apart =
    let z : n + 1 + j ≡ n + suc j = omega arith in
    first_at (slice_set current x.0 n) (n + 1) ns j name got (rw (length-set current x.0 n) small)
    (λ i k y w lt a a'. apart (suc i) (suc k) y w (omega arith) a a') ∙ z

pub first_size : (current : List ℕ) (n : ℕ) (ns : List NameId) → length (first_temps current n ns) ≡ length current
first_size current n [] = refl
first_size current n (x ∷ ns) = first_size (slice_set current x.0 n) (n + 1) ns ∙ length-set current x.0 n

values_grow : (m : ℕ) (sorts : List Sort) (g : Growth) → g.next ≤ (with_values m sorts g).next
values_grow m [] g = omega arith
values_grow m (t ∷ sorts) g = let a = value_next m t g in let d = values_grow (m + 1) sorts (with_value m t g) in omega arith

-- a register that a function keeps, and calls do too
pub record IsKept (c r : ℕ) : Type 0 where
  pub high : 6 ≤ r
  pub low : r ≤ 28
  pub spared : in_mask c r ≡ false

module _ (c : ℕ) (H : Seen → List Read → Type 0) (b end : ℕ) (e : Ext) (block : ExtBlock) (s : Setting) (fit : IsFit e.table)
    (free : (r : ℕ) → FIRST_SLOT ≤ r → in_mask c r ≡ false) (f : Function) (source : Block) (at : slice_get f.blocks b ≡ Some source)
    (same_names : e.names ≡ map kind_of_pair f.names) (link_is : s.link ≡ FIRST_SLOT + length e.names) (entry saved : Bool)
    (regs_kept : All (IsKept c) (callee_saved e.table)) (regs_apart : AreApart (callee_saved e.table))
    (is_entry : s.is_entry ≡ entry) (values_is : s.values ≡ length block.live_in + suc (length (callee_saved e.table)))
    (live : (name : NameId) → IsLive f.blocks name b 0 → Contains block.live_in name)
    (rising : AllPairs (λ (x y : NameId). x.0 < y.0) block.live_in)
    (small : (i : ℕ) (name : NameId) → slice_get block.live_in i ≡ Some name → name.0 < length e.names) where
  abbrev G : ℕ → Progress → Seen → List ExtOp → Type 0
  G = Good c H b end e block s fit

  abbrev pub Goes : ℕ → ℕ → ℕ → Growth → List ℕ → ℕ → Progress → Seen → Type 0
  Goes = Going c H b end e block s fit free f source at same_names link_is block.live_in entry saved

  abbrev ns : List NameId
  ns = block.live_in

  abbrev regs : List ℕ
  regs = callee_saved e.table

  names_apart : (i k : ℕ) (x y : NameId) → i < k → slice_get ns i ≡ Some x → slice_get ns k ≡ Some y → x.0 < y.0
  names_apart i k x y lt a d =
      subst (λ (z : NameId). z.0 < y.0) (get_or_from_slice_get ns i x x a)
      (subst (λ (z : NameId). (get_or ns i x).0 < z.0) (get_or_from_slice_get ns k y x d) (rising i k x lt (slice_get_within ns k y d)))

  -- ---- registers at the start

  abbrev pub name_room : NameId → ℕ
  name_room name = if entry then slice_index e.table.args name.0 else slot_of name

  abbrev pub last_room : ℕ
  last_room = if entry then LINK else s.link

  abbrev pub start_rooms : List ℕ
  start_rooms = map name_room ns ++ (regs ++ last_room ∷ [])

  abbrev at_start : ℕ → TempId → ℕ
  at_start = start_at c H b end e block s fit

  names_start : (xs : List NameId) (j : ℕ) (results : List TempId) (tail : List ℕ) → length results ≡ length xs + length tail
      → ((i : ℕ) (name : NameId) → slice_get xs i ≡ Some name → slice_get ns (j + i) ≡ Some name)
      → ((more : List TempId) → length more ≡ length tail → places_from at_start (j + length xs) more ≡ tail)
      → places_from at_start j results ≡ map name_room xs ++ tail
  names_start [] j results tail size there rest = let z : j ≡ j + 0 = omega arith in ap (λ (k : ℕ). places_from at_start k results) z
      ∙ rest results (omega arith)
  names_start (x ∷ xs) j [] tail size there rest = absurd (omega arith)
  names_start (x ∷ xs) j (y ∷ results) tail size there rest =
      let z : j ≡ j + 0 = omega arith in
      let here : at_start j y ≡ name_room x =
      ap (start_register e.table s ns j) (ap (slice_get ns) z ∙ there 0 x refl) ∙ ap
      (λ (t : Bool). if t then slice_index e.table.args x.0 else slot_of x) is_entry in
      ap (λ (r : ℕ). r ∷ places_from at_start (j + 1) results) here
      ∙ ap (λ (rs : List ℕ). name_room x ∷ rs) (names_start xs (j + 1) results tail (omega arith)
      (λ i name got. let w : j + 1 + i ≡ j + suc i = omega arith in ap (slice_get ns) w ∙ there (suc i) name got)
      (λ more size'. let w : j + 1 + length xs ≡ j + suc (length xs) = omega arith in ap (λ (k : ℕ). places_from at_start k more) w
      ∙ rest more size'))

  abbrev saved_room : ℕ → ℕ → ℕ
  saved_room k j = if s.is_entry then slice_index (saved_registers e.table) k else if j + 1 == s.values then s.link else slice_index
      (saved_registers e.table) k

  saved_by : (t : Bool) (k j r : ℕ) → j + 1 < s.values → slice_index (saved_registers e.table) k ≡ r
      → (if t then slice_index (saved_registers e.table) k else if j + 1 == s.values then s.link else slice_index
      (saved_registers e.table) k) ≡ r
  saved_by true k j r lt h = h
  saved_by false k j r lt h = let z : (j + 1 == s.values) ≡ false = grind (arith, nat_tests) in rw z h

  last_by : (t : Bool) (k j : ℕ) → j + 1 ≡ s.values → slice_index (saved_registers e.table) k ≡ LINK
      → (if t then slice_index (saved_registers e.table) k else if j + 1 == s.values then s.link else slice_index
      (saved_registers e.table) k) ≡ (if t then LINK else s.link)
  last_by true k j is h = h
  last_by false k j is h = let z : (j + 1 == s.values) ≡ true = grind (arith, nat_tests) in rw z refl

  saved_start : (rs : List ℕ) (j k : ℕ) (results : List TempId) → length results ≡ length rs + 1 → ((i : ℕ) → slice_get ns (j + i) ≡ None)
      → j ≡ length ns + k → ((i r : ℕ) → slice_get rs i ≡ Some r → slice_index (saved_registers e.table) (k + i) ≡ r)
      → slice_index (saved_registers e.table) (k + length rs) ≡ LINK → j + length rs + 1 ≡ s.values
      → places_from at_start j results ≡ rs ++ last_room ∷ []
  saved_start [] j k [] size none is there link total = absurd (omega arith)
  saved_start [] j k (y ∷ []) size none is there link total =
      let z : j ≡ j + 0 = omega arith in
      let w : j - length ns ≡ k = omega arith in
      let v : k ≡ k + 0 = omega arith in
      ap (λ (r : ℕ). r ∷ []) (ap (start_register e.table s ns j) (ap (slice_get ns) z ∙ none 0)
      ∙ ap (λ (i : ℕ). saved_room i j) w ∙ last_by s.is_entry k j (omega arith) (ap (slice_index (saved_registers e.table)) v ∙ link)
      ∙ ap (λ (t : Bool). if t then LINK else s.link) is_entry)
  saved_start [] j k (y ∷ (x ∷ more)) size none is there link total = absurd (omega arith)
  saved_start (r ∷ rs) j k [] size none is there link total = absurd (omega arith)
  saved_start (r ∷ rs) j k (y ∷ results) size none is there link total =
      let z : j ≡ j + 0 = omega arith in
      let w : j - length ns ≡ k = omega arith in
      let v : k ≡ k + 0 = omega arith in
      ap (λ (q : ℕ). q ∷ places_from at_start (j + 1) results) (ap (start_register e.table s ns j) (ap (slice_get ns) z ∙ none 0)
      ∙ ap (λ (i : ℕ). saved_room i j) w ∙ saved_by s.is_entry k j r (omega arith)
      (ap (slice_index (saved_registers e.table)) v ∙ there 0 r refl))
      ∙ ap (λ (qs : List ℕ). r ∷ qs) (saved_start rs (j + 1) (k + 1) results (omega arith)
      (λ i. let u : j + 1 + i ≡ j + suc i = omega arith in ap (slice_get ns) u ∙ none (suc i)) (omega arith)
      (λ i q got. let u : k + 1 + i ≡ k + suc i = omega arith in ap (slice_index (saved_registers e.table)) u ∙ there (suc i) q got)
      (let u : k + 1 + length rs ≡ k + suc (length rs) = omega arith in ap (slice_index (saved_registers e.table)) u ∙ link) (omega arith))

  index_of : (xs : List ℕ) (i r : ℕ) → slice_get xs i ≡ Some r → slice_index xs i ≡ r
  index_of xs i r got = get_or_from_slice_get xs i r 0 got

  pub rooms_are : (results : List TempId) → length results ≡ length ns + suc (length regs) → places_from at_start 0 results ≡ start_rooms
  rooms_are results size =
      let tail_size = length-append regs (last_room ∷ []) in
      names_start ns 0 results (regs ++ last_room ∷ []) (omega arith)
      (λ i name got. let z : 0 + i ≡ i = omega arith in ap (slice_get ns) z ∙ got)
      (λ more size'. saved_start regs (0 + length ns) 0 more (omega arith) (λ i. slice_get_past ns (0 + length ns + i) (omega arith))
      (omega arith)
      (λ i r got. let z : 0 + i ≡ i = omega arith in ap (slice_index (saved_registers e.table)) z
      ∙ index_of (saved_registers e.table) i r (get_left regs (LINK ∷ []) i r got))
      (index_of (saved_registers e.table) (0 + length regs) LINK (get_right regs (LINK ∷ []) (0 + length regs) 0 (omega arith)))
      (omega arith))

  -- ---- no two values start in one register

  module _ (params : entry ≡ true → (i : ℕ) (name : NameId) → slice_get ns i ≡ Some name
      → (name.0 < 6) × (name_kind e.names name ≡ General)) where
    args_at : (k : ℕ) → k < 6 → slice_index e.table.args k ≡ k
    args_at k lt = ap (λ (xs : List ℕ). slice_index xs k) fit.args ∙ get_or-range_with_len 0 6 k 0 lt
        ∙ (let z : 0 + k ≡ k = omega arith in z)

    abbrev room_by : Bool → NameId → ℕ
    room_by t name = if t then slice_index e.table.args name.0 else slot_of name

    abbrev last_by_entry : Bool → ℕ
    last_by_entry t = if t then LINK else s.link

    room_differs : (t : Bool) (x y : NameId) → (t ≡ true → (x.0 < 6) × (y.0 < 6)) → x.0 < y.0 → room_by t x ≢ room_by t y
    room_differs true x y low lt z = let a = args_at x.0 (low refl).0 in let d = args_at y.0 (low refl).1 in omega arith
    room_differs false x y low lt z = omega arith

    room_no_reg : (t : Bool) (x : NameId) (r : ℕ) → (t ≡ true → x.0 < 6) → 6 ≤ r → r ≤ 28 → room_by t x ≢ r
    room_no_reg true x r low high le z = let a = args_at x.0 (low refl) in let lt = low refl in omega arith
    room_no_reg false x r low high le z = omega arith

    room_no_last : (t : Bool) (x : NameId) → (t ≡ true → x.0 < 6) → x.0 < length e.names → room_by t x ≢ last_by_entry t
    room_no_last true x low lt z = let a = args_at x.0 (low refl) in let lt' = low refl in omega arith
    room_no_last false x low lt z = omega arith

    reg_no_last : (t : Bool) (r : ℕ) → r ≤ 28 → r ≢ last_by_entry t
    reg_no_last true r le z = omega arith
    reg_no_last false r le z = omega arith

    names_rooms_apart : (xs : List NameId) → ((i : ℕ) (x : NameId) → slice_get xs i ≡ Some x → entry ≡ true → x.0 < 6)
        → ((i k : ℕ) (x y : NameId) → i < k → slice_get xs i ≡ Some x → slice_get xs k ≡ Some y → x.0 < y.0) → AreApart (map name_room xs)
    names_rooms_apart [] low apart = pairs_nil (λ (a d : ℕ). a ≢ d)
    names_rooms_apart (x ∷ xs) low apart =
        AllPairs-cons (λ (a d : ℕ). a ≢ d) (name_room x) (map name_room xs)
        (each xs (λ i y got. room_differs entry x y (λ t. (low 0 x refl t, low (suc i) y got t))
        (apart 0 (suc i) x y (omega arith) refl got)))
        (names_rooms_apart xs (λ i y got. low (suc i) y got) (λ i k y z lt a d. apart (suc i) (suc k) y z (omega arith) a d))
      where
        each : (ys : List NameId) → ((i : ℕ) (y : NameId) → slice_get ys i ≡ Some y → name_room x ≢ name_room y)
            → All (λ (r : ℕ). name_room x ≢ r) (map name_room ys)
        each [] h = All-nil (λ (r : ℕ). name_room x ≢ r)
        each (y ∷ ys) h = All-cons (λ (r : ℕ). name_room x ≢ r) (name_room y) (map name_room ys) (h 0 y refl)
            (each ys (λ i z got. h (suc i) z got))

    one_apart : (x : ℕ) → AreApart (x ∷ [])
    one_apart x i j d lt within = absurd (omega arith)

    cross_names : (xs : List NameId) → ((i : ℕ) (x : NameId) → slice_get xs i ≡ Some x → (entry ≡ true → x.0 < 6) × (x.0 < length e.names))
        → All (λ (a : ℕ). All (λ (r : ℕ). a ≢ r) (regs ++ last_room ∷ [])) (map name_room xs)
    cross_names [] h = All-nil (λ (a : ℕ). All (λ (r : ℕ). a ≢ r) (regs ++ last_room ∷ []))
    cross_names (x ∷ xs) h =
        let low = (h 0 x refl).0 in
        let lt = (h 0 x refl).1 in
        All-cons (λ (a : ℕ). All (λ (r : ℕ). a ≢ r) (regs ++ last_room ∷ [])) (name_room x) (map name_room xs)
        (All-append (λ (r : ℕ). name_room x ≢ r) regs (last_room ∷ [])
        (All-weaker (IsKept c) (λ (r : ℕ). name_room x ≢ r) (λ r k. room_no_reg entry x r low k.high k.low) regs regs_kept)
        (All-cons (λ (r : ℕ). name_room x ≢ r) last_room [] (room_no_last entry x low lt) (All-nil (λ (r : ℕ). name_room x ≢ r))))
        (cross_names xs (λ i y got. h (suc i) y got))

    rooms_apart : AreApart start_rooms
    rooms_apart =
        pairs_append (λ (x y : ℕ). x ≢ y) (map name_room ns) (regs ++ last_room ∷ [])
        (names_rooms_apart ns (λ i x got t. (params t i x got).0) names_apart)
        (pairs_append (λ (x y : ℕ). x ≢ y) regs (last_room ∷ []) regs_apart (one_apart last_room)
        (All-weaker (IsKept c) (λ (a : ℕ). All (λ (r : ℕ). a ≢ r) (last_room ∷ []))
        (λ r k. All-cons (λ (q : ℕ). r ≢ q) last_room [] (reg_no_last entry r k.low) (All-nil (λ (q : ℕ). r ≢ q))) regs regs_kept))
        (cross_names ns (λ i x got. ((λ t. (params t i x got).0), small i x got)))

    -- ---- the values

    abbrev total : ℕ
    total = length ns + suc (length regs)

    abbrev saved_value : Sort
    saved_value = record { kind = General; copied = saved }

    abbrev sorts : List Sort
    sorts = map (sort_of_name e.names) ns ++ replicate (suc (length regs)) saved_value

    names_sorts : length (map (sort_of_name e.names) ns) ≡ length ns
    names_sorts = length-map ns (sort_of_name e.names)

    sorts_size : length sorts ≡ total
    sorts_size =
        length-append (map (sort_of_name e.names) ns) (replicate (suc (length regs)) saved_value)
        ∙ (let a = names_sorts in let d = length-replicate (suc (length regs)) saved_value in omega arith)

    name_sort : (j : ℕ) (name : NameId) → slice_get ns j ≡ Some name → slice_get sorts j ≡ Some (sort_by (name_kind e.names name))
    name_sort j name got = get_left (map (sort_of_name e.names) ns) (replicate (suc (length regs)) saved_value) j
        (sort_of_name e.names name) (get_map (sort_of_name e.names) ns j name got)

    saved_sort_at : (j : ℕ) → j < suc (length regs) → slice_get sorts (length ns + j) ≡ Some saved_value
    saved_sort_at j lt =
        get_right (map (sort_of_name e.names) ns) (replicate (suc (length regs)) saved_value) (length ns + j) j
        (let a = names_sorts in omega arith)
        ∙ get_replicate (suc (length regs)) j saved_value lt

    name_room_at : (j : ℕ) (name : NameId) → slice_get ns j ≡ Some name → slice_get start_rooms j ≡ Some (name_room name)
    name_room_at j name got = get_left (map name_room ns) (regs ++ last_room ∷ []) j (name_room name) (get_map name_room ns j name got)

    reg_room_at : (j r : ℕ) → slice_get regs j ≡ Some r → slice_get start_rooms (length ns + j) ≡ Some r
    reg_room_at j r got =
        get_right (map name_room ns) (regs ++ last_room ∷ []) (length ns + j) j (let a = length-map ns name_room in omega arith)
        ∙ get_left regs (last_room ∷ []) j r got

    last_room_at : slice_get start_rooms (length ns + length regs) ≡ Some last_room
    last_room_at =
        get_right (map name_room ns) (regs ++ last_room ∷ []) (length ns + length regs) (length regs)
        (let a = length-map ns name_room in omega arith)
        ∙ get_right regs (last_room ∷ []) (length regs) 0 (omega arith)

    reg_kept : (j r : ℕ) → slice_get regs j ≡ Some r → IsKept c r
    reg_kept j r got = at_all (IsKept c) regs j r regs_kept got

    -- a name that is live at the start, by its place
    live_at_place : (name : NameId) → IsLive f.blocks name b 0 → (j : ℕ) × (slice_get ns j ≡ Some name)
    live_at_place name l = by (live name l)
      where
        by : Contains ns name → (j : ℕ) × (slice_get ns j ≡ Some name)
        by (j, below, is) = (j, slice_get-get_or ns j name below ∙ ap (λ (x : NameId). Some x) is)

    -- ---- behind the start

    module _ (first_number : ℕ) (g0 : Growth) (long : length g0.values ≡ first_number) where
      abbrev start_op : ExtOp
      start_op = in_op first_number (length ns + length (saved_registers e.table))

      op_size : length start_op.results ≡ total
      op_size =
          length-map-range_with_len temp first_number (length ns + length (saved_registers e.table))
          ∙ (let a = length-append regs (LINK ∷ []) in omega arith)

      abbrev here : ℕ → Growth
      here count = with_results In [] count g0

      abbrev known : Growth
      known = with_values g0.next sorts (here total)

      -- what `extend` adds for the start, in these words
      abbrev started_ops : ℕ → List Sort → List ExtOp
      started_ops count vs = record { kind = In; operands = []; results = new_temps g0 count } ∷
          (values_ops g0.next vs (here count) ++ enter_ops entry In)

      abbrev sorts_by : ℕ → List Sort
      sorts_by count = map (sort_of_name e.names) ns ++ replicate (count - length ns) saved_value

      sorts_are : sorts_by total ≡ sorts
      sorts_are = let z : total - length ns ≡ suc (length regs) = omega arith in ap
          (λ (k : ℕ). map (sort_of_name e.names) ns ++ replicate k saved_value) z

      ops_are : extended_ops e.names ns entry saved start_op g0 ≡ started_ops total sorts
      ops_are = ap (λ (count : ℕ). started_ops count (sorts_by count)) op_size ∙ ap (started_ops total) sorts_are

      grown_is : with_extended e.names ns entry saved start_op g0 ≡ with_enter entry In known
      grown_is =
          ap (λ (count : ℕ). with_enter entry In (with_values g0.next (sorts_by count) (here count))) op_size
          ∙ ap (λ (vs : List Sort). with_enter entry In (with_values g0.next vs (here total))) sorts_are

      known_size : length known.values ≡ first_number + total
      known_size = values_size c H b end e block s fit g0.next sorts (here total) ∙ (let a = sorts_size in omega arith)

      enter_values : (t : Bool) (g : Growth) → ((with_enter t In g).values ≡ g.values) × ((with_enter t In g).next ≡ g.next)
      enter_values true g = (refl, refl)
      enter_values false g = (refl, refl)

      -- value j, behind the start
      pub record StartValue (g : Growth) (j : ℕ) (sort : Sort) : Type 0 where
        pub before : Growth
        pub carries : Carries g (first_number + j) (own_temps (g0.next + j) sort before) sort
        pub next : ((i : ℕ) (t : Sort) → slice_get sorts i ≡ Some t → i < j → copy_count t ≡ 1) → before.next ≡ g0.next + total + j

      known_at : (j : ℕ) (sort : Sort) → slice_get sorts j ≡ Some sort → StartValue known j sort
      known_at j sort got =
          let v = value_at c H b end e block s fit g0.next sorts (here total) j sort got in
          record {
            before = v.before;
            carries = subst (λ (x : ℕ). Carries known (x + j) (own_temps (g0.next + j) sort v.before) sort) long v.carries;
            next = λ ones. v.next j ones refl;
          }

      -- what is left to say of a start
      record Opened (g : Growth) (p : Progress) (seen : Seen) : Type 0 where
        size : length seen.made ≡ g.next
        values : length g.values ≡ first_number + total
        front : Front c b p.cycle seen
        started : 1 ≤ p.cycle
        operands : p.operands ≡ 0
        placed : s.placed ≤ g.next
        names : (j : ℕ) (name : NameId) → slice_get ns j ≡ Some name → Named c H b end e block s fit g seen (first_number + j) name
        saved_at : (j r : ℕ) → slice_get regs j ≡ Some r
            → SavedAt c H b end e block s fit free f source at same_names link_is ns entry saved g seen (first_number + length ns + j) r
        link : LinkAt c H b end e block s fit free f source at same_names link_is ns entry saved g seen
            (first_number + length ns + length regs)

      abbrev current0 : List ℕ
      current0 = first_temps (replicate (length e.names) 0) first_number ns

      opened : (g : Growth) (p : Progress) (seen : Seen) → Opened g p seen
          → Goes (first_number + length ns) (first_number + length ns + length regs) 0 g current0 (first_number + total) p seen
      opened g p seen o = record {
        size = o.size;
        values = o.values;
        front = o.front;
        started = o.started;
        operands = o.operands;
        placed = o.placed;
        whole = first_size (replicate (length e.names) 0) first_number ns ∙ length-replicate (length e.names) 0;
        names = λ name l.
            let there = live_at_place name l in
            let zeros : List ℕ = replicate (length e.names) 0 in
            let many : length zeros ≡ length e.names = length-replicate (length e.names) 0 in
            let lt = small there.0 name there.1 in
            subst (λ (x : ℕ). Named c H b end e block s fit g seen x name)
            (sym (first_at zeros first_number ns there.0 name there.1 (omega arith)
            (λ i k x y lt' a d z. let w = names_apart i k x y lt' a d in omega arith)))
            (o.names there.0 name there.1);
        saved_at = o.saved_at;
        link = o.link;
      }

      -- ---- a block that is not the entry

      placed_true : (x : ℕ) → x < s.placed → nat_lt x s.placed ≡ true
      placed_true x lt = grind (arith, nat_tests)

      zero_place : (x : ℕ) (more : List TempId) → x < s.placed → kept_place s (temp x ∷ more) ≡ 0
      zero_place x more lt = ap (λ (t : Bool). if t then 0 else last_place (temp x ∷ more)) (placed_true x lt)

      onward_opened : (p : Progress) (seen seen' : Seen) (rooms_of : (j r : ℕ) → slice_get start_rooms j ≡ Some r
          → Stands c b (g0.next + j) r seen')
          → entry ≡ false → s.placed ≡ g0.next + total → length seen'.made ≡ known.next → Front c b p.cycle seen' → 1 ≤ p.cycle
          → p.operands ≡ 0
          → Opened known p seen'
      onward_opened p seen seen' rooms_of not_entry placed size front started none = record {
        size = size;
        values = known_size;
        front = front;
        started = started;
        operands = none;
        placed = (let a = values_grow g0.next sorts (here total) in omega arith);
        names = λ j name got.
            let kind = name_kind e.names name in
            let v = known_at j (sort_by kind) (name_sort j name got) in
            let own = own_temps (g0.next + j) (sort_by kind) v.before in
            let lt = slice_get_within ns j name got in
            let zero_is : kept_place s own ≡ 0 = zero_place (g0.next + j) (new_temps v.before (copy_count (sort_by kind))) (omega arith) in
            let room : name_room name ≡ slot_of name = ap (λ (t : Bool). room_by t name) not_entry in
            record {
              kept = record {
                own = own;
                carries = v.carries;
                size = own_size c H b end e block s fit kind (g0.next + j) v.before;
                room = slot_of name;
                slot = omega arith;
                stands = subst (λ (i : ℕ). Stands c b (chosen own i).0 (slot_of name) seen') (sym zero_is)
                    (subst (λ (r : ℕ). Stands c b (g0.next + j) r seen') room (rooms_of j (name_room name) (name_room_at j name got)));
              };
              room = refl;
            };
        saved_at = λ j r got.
            let lt = slice_get_within regs j r got in
            let v = known_at (length ns + j) saved_value (saved_sort_at j (omega arith)) in
            let k = reg_kept j r got in
            let x : first_number + (length ns + j) ≡ first_number + length ns + j = omega arith in
            let high = k.high in
            let low = k.low in
            record {
              own = own_temps (g0.next + (length ns + j)) saved_value v.before;
              carries = subst (λ (i : ℕ). Carries known i (own_temps (g0.next + (length ns + j)) saved_value v.before) saved_value) x
                  v.carries;
              within = omega arith;
              stands = rooms_of (length ns + j) r (reg_room_at j r got);
              safe = record { high = k.high; other = λ z. omega arith; spared = k.spared };
              low = omega arith;
            };
        link =
            let j = length ns + length regs in
            let v = known_at j saved_value (saved_sort_at (length regs) (omega arith)) in
            let x : first_number + j ≡ first_number + length ns + length regs = omega arith in
            let more = new_temps v.before (copy_count saved_value) in
            let own = own_temps (g0.next + j) saved_value v.before in
            let zero_is : kept_place s own ≡ 0 = zero_place (g0.next + j) more (omega arith) in
            let placed_is : is_placed s own ≡ true = placed_true (g0.next + j) (omega arith) in
            let last : last_room ≡ s.link = ap last_by_entry not_entry in
            record {
              own = own;
              carries = subst (λ (i : ℕ). Carries known i own saved_value) x v.carries;
              place = zero_is ∙ ap (λ (t : Bool). zero_or t) (sym placed_is);
              within = omega arith;
              stands = subst (λ (i : ℕ). Stands c b (chosen own i).0 s.link seen') (sym zero_is)
                  (subst (λ (r : ℕ). Stands c b (g0.next + j) r seen') last (rooms_of j last_room last_room_at));
            };
      }
        where
          zero_or : Bool → ℕ
          zero_or t = if t then 0 else 1

      pub opens_onward : (n : ℕ) (p : Progress) (seen : Seen) (rest : List ExtOp) → entry ≡ false → s.placed ≡ g0.next + total
          → Fresh c H b end e block s fit seen → length seen.made ≡ g0.next → 1 ≤ p.cycle
          → ((n' : ℕ) (p' : Progress) (seen' : Seen) → Goes (first_number + length ns) (first_number + length ns + length regs) 0
          (with_extended e.names ns entry saved start_op g0) current0 (first_number + total) p' seen' → G n' p' seen' rest)
          → G n p seen (extended_ops e.names ns entry saved start_op g0 ++ rest)
      opens_onward n p seen rest not_entry placed fresh size le go =
          let ds = values_ops g0.next sorts (here total) in
          let start : ExtOp = record { kind = In; operands = []; results = new_temps g0 total } in
          let shape : extended_ops e.names ns entry saved start_op g0 ++ rest ≡ start ∷ (ds ++ rest) =
          ap (λ (os : List ExtOp). os ++ rest) (ops_are ∙ ap (λ (t : Bool). start ∷ (ds ++ enter_ops t In)) not_entry
          ∙ ap (λ (os : List ExtOp). start ∷ os) (append_nil ds)) in
          let grown : with_extended e.names ns entry saved start_op g0 ≡ known = grown_is
          ∙ ap (λ (t : Bool). with_enter t In known) not_entry in
          let count : length (new_temps g0 total) ≡ length ns + suc (length regs) = length-map-range_with_len temp g0.next total in
          let rooms_count : length start_rooms ≡ total =
          length-append (map name_room ns) (regs ++ last_room ∷ []) ∙ (let a = length-map ns name_room in let d = length-append regs
          (last_room ∷ []) in omega arith) in
          let other : (if s.is_entry then Start else Other) ≡ Other = ap (λ (t : Bool). if t then Start else Other)
          (is_entry ∙ not_entry) in
          subst (G n p seen) (sym shape)
          (start_good c H b end e block s fit n p seen (new_temps g0 total) (ds ++ rest) start_rooms
          (rooms_are (new_temps g0 total) count) rooms_apart fresh le
          (λ mid st.
          values_rest c H b end e block s fit sorts g0.next (n + 1) (other_progress p.cycle (if s.is_entry then Start else Other)) mid
          (here total) rest other
          (st.longer ∙ (omega' size rooms_count))
          (λ n' p' seen' same ops r.
          go n' p' seen' (subst (λ (x : Growth). Goes (first_number + length ns) (first_number + length ns + length regs) 0 x current0
          (first_number + total) p' seen') (sym grown)
          (opened known p' seen'
          (onward_opened p' seen seen' (λ j room got. r.stands (g0.next + j) room
          (subst (λ (k : ℕ). Stands c b (k + j) room mid) size (st.stands j room got)))
          not_entry placed r.size (subst (λ (now : ℕ). Front c b now seen') (sym same) (r.front p.cycle st.front)) (omega arith) ops))))))
        where
          omega' : length seen.made ≡ g0.next → length start_rooms ≡ total → length seen.made + length start_rooms ≡ g0.next + total
          omega' a d = omega arith

      -- ---- the entry

      -- each value of the entry has one copy
      one_copy_each : entry ≡ true → saved ≡ true → (i : ℕ) (t : Sort) → slice_get sorts i ≡ Some t → copy_count t ≡ 1
      one_copy_each in_entry copied i t got = by (cases_lt i (length ns))
        where
          by : (i < length ns) ⊎ (length ns ≤ i) → copy_count t ≡ 1
          by (inl lt) =
              let name = get_or ns i (record { 0 = 0 }) in
              let there : slice_get ns i ≡ Some name = slice_get-get_or ns i (record { 0 = 0 }) lt in
              let same : sort_by (name_kind e.names name) ≡ t = (let e' = sym (name_sort i name there) ∙ got in cc e') in
              ap copy_count (sym same) ∙ ap (λ (k : Kind). copy_count (sort_by k)) (params in_entry i name there).1
          by (inr le) =
              let j = i - length ns in
              let at_j : i ≡ length ns + j = omega arith in
              let here' : slice_get sorts (length ns + j) ≡ Some t = ap (slice_get sorts) (sym at_j) ∙ got in
              let lt = slice_get_within sorts i t got in
              let many = sorts_size in
              let same : saved_value ≡ t = (let e' = sym (saved_sort_at j (omega arith)) ∙ here' in cc e') in
              ap copy_count (sym same) ∙ ap (λ (x : Bool). copy_count (record { kind = General; copied = x })) copied

      entry_opened : (g : Growth) (p : Progress) (seen seen' : Seen) → g.values ≡ known.values → known.next ≤ g.next
          → (stays : (j r : ℕ) → slice_get regs j ≡ Some r → Stands c b (g0.next + (length ns + j)) r seen')
          → (slots : (j : ℕ) (name : NameId) → slice_get ns j ≡ Some name → Stands c b (g0.next + total + j) (slot_of name) seen')
          → (link_slot : Stands c b (g0.next + total + (length ns + length regs)) s.link seen')
          → entry ≡ true → saved ≡ true → s.placed ≡ 0 → length seen'.made ≡ g.next → Front c b p.cycle seen' → 1 ≤ p.cycle → p.operands ≡ 0
          → Opened g p seen'
      entry_opened g p seen seen' same_values next stays slots link_slot in_entry copied placed size front started none = record {
        size = size;
        values = ap length same_values ∙ known_size;
        front = front;
        started = started;
        operands = none;
        placed = omega arith;
        names = λ j name got.
            let kind = name_kind e.names name in
            let word : kind ≡ General = (params in_entry j name got).1 in
            let v = known_at j (sort_by kind) (name_sort j name got) in
            let own = own_temps (g0.next + j) (sort_by kind) v.before in
            let n = v.next (λ i t at' lt. one_copy_each in_entry copied i t at') in
            let last_is : (chosen own (kept_place s own)).0 ≡ g0.next + total + j =
            ap (λ (t : Bool). (chosen own (if t then 0 else last_place own)).0) (not_placed c H b end e block s fit (g0.next + j) s.placed
            (omega arith))
            ∙ ap (λ (k : Kind). last_of (own_temps (g0.next + j) (sort_by k) v.before)) word ∙ n in
            record {
              kept = record {
                own = own;
                carries = carries_same known g (first_number + j) own (sort_by kind) same_values v.carries;
                size = own_size c H b end e block s fit kind (g0.next + j) v.before;
                room = slot_of name;
                slot = omega arith;
                stands = subst (λ (k : ℕ). Stands c b k (slot_of name) seen') (sym last_is) (slots j name got);
              };
              room = refl;
            };
        saved_at = λ j r got.
            let lt = slice_get_within regs j r got in
            let v = known_at (length ns + j) saved_value (saved_sort_at j (omega arith)) in
            let k = reg_kept j r got in
            let x : first_number + (length ns + j) ≡ first_number + length ns + j = omega arith in
            let high = k.high in
            let low = k.low in
            let own = own_temps (g0.next + (length ns + j)) saved_value v.before in
            record {
              own = own;
              carries = subst (λ (i : ℕ). Carries g i own saved_value) x (carries_same known g
                  (first_number + (length ns + j)) own saved_value same_values v.carries);
              within = omega arith;
              stands = stays j r got;
              safe = record { high = k.high; other = λ z. omega arith; spared = k.spared };
              low = omega arith;
            };
        link =
            let j = length ns + length regs in
            let v = known_at j saved_value (saved_sort_at (length regs) (omega arith)) in
            let x : first_number + j ≡ first_number + length ns + length regs = omega arith in
            let own = own_temps (g0.next + j) saved_value v.before in
            let n = v.next (λ i t at' lt. one_copy_each in_entry copied i t at') in
            let no_place = not_placed c H b end e block s fit (g0.next + j) s.placed (omega arith) in
            let two : length own ≡ 2 = ap (λ (t : Bool). length (own_temps (g0.next + j)
            (record { kind = General; copied = t }) v.before)) copied in
            let one_is : kept_place s own ≡ 1 = ap (λ (t : Bool). if t then 0 else last_place own) no_place
            ∙ (let z : length own - 1 ≡ 1 = omega arith in z) in
            let last_is : (chosen own (kept_place s own)).0 ≡ g0.next + total + j =
            ap (λ (i : ℕ). (chosen own i).0) one_is
            ∙ ap (λ (t : Bool). (chosen (own_temps (g0.next + j) (record { kind = General; copied = t }) v.before) 1).0) copied ∙ n in
            record {
              own = own;
              carries = subst (λ (i : ℕ). Carries g i own saved_value) x (carries_same known g
                  (first_number + j) own saved_value same_values v.carries);
              place = one_is ∙ ap (λ (t : Bool). zero_or t) (sym no_place);
              within = omega arith;
              stands = subst (λ (k : ℕ). Stands c b k s.link seen') (sym last_is) link_slot;
            };
      }
        where
          zero_or : Bool → ℕ
          zero_or t = if t then 0 else 1

          last_of : List TempId → ℕ
          last_of xs = (chosen xs (last_place xs)).0

      ones_next : (m : ℕ) (vs : List Sort) (g : Growth) → ((i : ℕ) (t : Sort) → slice_get vs i ≡ Some t → copy_count t ≡ 1)
          → (with_values m vs g).next ≡ g.next + length vs
      ones_next m [] g ones = omega arith
      ones_next m (t ∷ vs) g ones =
          let one = ones 0 t refl in
          let here' = value_next m t g in
          let rest = ones_next (m + 1) vs (with_value m t g) (λ i u got. ones (suc i) u got) in
          omega arith

      pub opens_entry : (n : ℕ) (p : Progress) (seen : Seen) (rest : List ExtOp) → entry ≡ true → saved ≡ true → s.placed ≡ 0
          → Fresh c H b end e block s fit seen → length seen.made ≡ g0.next → 1 ≤ p.cycle
          → ((n' : ℕ) (p' : Progress) (seen' : Seen) → Goes (first_number + length ns) (first_number + length ns + length regs) 0
          (with_extended e.names ns entry saved start_op g0) current0 (first_number + total) p' seen' → G n' p' seen' rest)
          → G n p seen (extended_ops e.names ns entry saved start_op g0 ++ rest)
      opens_entry n p seen rest in_entry copied placed fresh size le go =
          let m = g0.next in
          let h0 = here total in
          let name_sorts = map (sort_of_name e.names) ns in
          let saved_sorts = replicate (suc (length regs)) saved_value in
          let words = replicate (suc (length regs)) (sort_by General) in
          let h1 = with_values m name_sorts h0 in
          let us = values_ops m name_sorts h0 in
          let ds = values_ops (m + length ns) words h1 in
          let start : ExtOp = record { kind = In; operands = []; results = new_temps g0 total } in
          let more = frame_op Enter ∷ rest in
          let split : values_ops m sorts h0 ≡ us ++ ds =
          values_ops_append c H b end e block s fit m (m + length ns) name_sorts saved_sorts h0 (let a = names_sorts in omega arith)
          ∙ ap (λ (t : Bool). us ++ values_ops (m + length ns) (replicate (suc (length regs)) (record { kind = General; copied = t })) h1)
          copied in
          let shape : extended_ops e.names ns entry saved start_op g0 ++ rest ≡ start ∷ (us ++ (ds ++ more)) =
          ap (λ (os : List ExtOp). os ++ rest) (ops_are ∙ ap (λ (t : Bool). start ∷ (values_ops m sorts h0 ++ enter_ops t In)) in_entry
          ∙ ap (λ (os : List ExtOp). start ∷ (os ++ frame_op Enter ∷ [])) split)
          ∙ ap (λ (os : List ExtOp). start ∷ os) (append_assoc (us ++ ds) (frame_op Enter ∷ []) rest ∙ append_assoc us ds more) in
          let g1 = with_extended e.names ns entry saved start_op g0 in
          let same_values : g1.values ≡ known.values = ap (λ (x : Growth). x.values) grown_is ∙ (enter_values entry known).0 in
          let same_next : g1.next ≡ known.next = ap (λ (x : Growth). x.next) grown_is ∙ (enter_values entry known).1 in
          let known_next : known.next ≡ m + total + total = ones_next m sorts h0 (one_copy_each in_entry copied)
          ∙ ap (λ (k : ℕ). m + total + k) sorts_size in
          let names_next : h1.next ≡ m + total + length ns =
          ones_next m name_sorts h0 (λ i t got. one_copy_each in_entry copied i t (get_left name_sorts saved_sorts i t got))
          ∙ ap (λ (k : ℕ). m + total + k) names_sorts in
          let count : length (new_temps g0 total) ≡ length ns + suc (length regs) = length-map-range_with_len temp m total in
          let rooms_count : length start_rooms ≡ total =
          length-append (map name_room ns) (regs ++ last_room ∷ []) ∙ (let a = length-map ns name_room in let d = length-append regs
          (last_room ∷ []) in omega arith) in
          let first : (if s.is_entry then Start else Other) ≡ Start = ap (λ (t : Bool). if t then Start else Other) (is_entry ∙ in_entry) in
          let last : last_room ≡ LINK = ap last_by_entry in_entry in
          subst (G n p seen) (sym shape)
          (start_good c H b end e block s fit n p seen (new_temps g0 total) (us ++ (ds ++ more)) start_rooms
          (rooms_are (new_temps g0 total) count) rooms_apart fresh le
          (λ mid0 st.
          let stand : (j r : ℕ) → slice_get start_rooms j ≡ Some r → Stands c b (m + j) r mid0 = λ j r got. subst
          (λ (k : ℕ). Stands c b (k + j) r mid0) size (st.stands j r got) in
          let size0 : length mid0.made ≡ m + total = (let a = st.longer in omega arith) in
          params_spill c H b end e block s fit ns 0 m (n + 1) (other_progress p.cycle (if s.is_entry then Start else Other)) mid0 h0
          (ds ++ more) first refl
          (λ i name got. let z : 0 + i ≡ i = omega arith in ap (slice_get ns) z ∙ got)
          (λ i name got. (params in_entry i name got).1)
          (λ i name got. record {
            room = name_room name;
            low = (let a = room_low in_entry name (params in_entry i name got).0 in omega arith);
            stands = stand i (name_room name) (name_room_at i name got);
          })
          (λ i k x y lt a d z. let w = names_apart i k x y lt a d in omega arith)
          st.front size0
          (λ n1 p1 mid1 le1 d1 v1 o1 sp.
          let link_there : Stands c b (m + (length ns + length regs)) LINK mid1 =
          sp.others (m + (length ns + length regs)) LINK (λ i name got z. omega arith)
          (subst (λ (r : ℕ). Stands c b (m + (length ns + length regs)) r mid0) last
          (stand (length ns + length regs) last_room last_room_at)) in
          let place : m + (length ns + length regs) ≡ m + length ns + length regs = omega arith in
          link_spills c H b end e block s fit (length regs) (length ns) (m + length ns) n1 p1 mid1 h1 more d1
          (v1 ∙ (let z : 0 + length ns ≡ length ns = omega arith in z))
          (λ i. slice_get_past ns (length ns + i) (omega arith)) (omega arith) (omega arith)
          (record { room = LINK; low = omega arith; stands = subst (λ (k : ℕ). Stands c b k LINK mid1) place link_there })
          sp.front (let a = sp.size in omega arith)
          (λ n2 p2 mid2 le2 o2 ls.
          enter_good c H b end e block s fit n2 p2 mid2 rest
          (λ seen' idle.
          go (n2 + 1) (other_progress p2.cycle Other) seen'
          (opened g1 (other_progress p2.cycle Other) seen'
          (entry_opened g1 (other_progress p2.cycle Other) seen seen' same_values (omega arith)
          (λ j r got.
          let k = reg_kept j r got in
          let low = k.low in
          idle.stands (m + (length ns + j)) r (ls.others (m + (length ns + j)) r (λ z. omega arith)
          (sp.others (m + (length ns + j)) r (λ i name got' z. omega arith) (stand (length ns + j) r (reg_room_at j r got)))))
          (λ j name got.
          let lt = small j name got in
          idle.stands (m + total + j) (slot_of name) (ls.others (m + total + j) (slot_of name) (λ z. omega arith) (sp.new j name got)))
          (subst (λ (k : ℕ). Stands c b k s.link seen') (link_number names_next) (idle.stands (h1.next + length regs) s.link ls.new))
          in_entry copied placed (let a = idle.longer in let d = ls.size in omega arith) (idle.front p2.cycle ls.front)
          (omega arith) refl)))))))
        where
          room_low : entry ≡ true → (name : NameId) → name.0 < 6 → name_room name < 32
          room_low in_entry name lt = let a = ap (λ (t : Bool). room_by t name) in_entry ∙ args_at name.0 lt in omega arith

          link_number : {h : ℕ} → h ≡ g0.next + total + length ns → h + length regs ≡ g0.next + total + (length ns + length regs)
          link_number q = omega arith
