-- What is posted reads variables of the store alone, holds where it reads none, and counts over no more cycles than the largest horizon.
use Rattle.std.proofs.Common.{ℕ, zero, suc, ◌≡◌, ◌+◌, ◌<◌, ◌≤◌, Bool, true, false, List, [], ◌∷◌, ◌++◌, map, filter}
use Rattle.std.proofs.Common.{◌⊎◌, inl, inr, refl, arith}
use Rattle.std.specs.Prelude.{Option, Some, None, IfSome, slice_get, ◌==◌, ◌&&◌, not, if◌then◌else◌}
use Rattle.std.specs.Option.{option_to_list}
use Rattle.un_base.specs.declared.ids.TempId.{TempId}
use Rattle.un_base.specs.declared.ids.VarId.{VarId}
use Rattle.un_isa.specs.declared.op.Op.{Op}
use Rattle.un_isa.specs.declared.reg.Reg.{Reg}
use Rattle.un_isa.specs.declared.table.Table.{Table}
use Rattle.un_ir.specs.declared.function.Term.TheVariants.{Fall}
use Rattle.un_ir.specs.declared.extended.ExtKind.{ExtKind}
use Rattle.un_ir.specs.declared.extended.ExtKind.TheVariants.{In, Out, Body, End, Copy}
use Rattle.un_ir.specs.declared.extended.Operand.{Operand}
use Rattle.un_ir.specs.Extended.{is_copy, is_enter, is_leave}
use Rattle.un_ir.specs.Linear.{is_in}
use Rattle.un_model.specs.declared.model.Arc.{Arc}
use Rattle.un_model.specs.Pairs.{places_from, joined}
use Rattle.un_lists.proofs.Lists.{Each, each_of, each_member, each_more, each_map, each_join, each_filter, member_at}
use Rattle.un_prop.specs.Acts.{act_vars, at_vars}
use Rattle.un_prop.specs.declared.act.Act.{Act}
use Rattle.un_prop.specs.declared.act.Act.TheVariants.{Always}
use Rattle.un_prop.specs.declared.act.At.{At}
use Rattle.un_prop.specs.declared.act.At.TheVariants.{Const, Var}
use Rattle.un_prop.specs.declared.act.Temp.{Temp}
use Rattle.un_prop.specs.declared.act.UserOf.{UserOf}
use Rattle.un_alt.specs.declared.frame.FrameLeave.{FrameLeave}
use Rattle.un_alt.specs.declared.frame.FrameUse.{FrameUse}
use Rattle.un_alt.specs.Registers.{choice_vars}
use Rattle.un_prec.specs.declared.below.Weighted.{Weighted}
use Rattle.un_prec.specs.declared.reads.ReadAlt.{ReadAlt}
use Rattle.un_rect.specs.Apart.{user_vars}
use Rattle.un_rect.specs.Spans.{choice_vars as user_choice}
use Rattle.un_rect.specs.declared.clobber.ClobberCall.{ClobberCall}
use Rattle.un_slots.specs.declared.item.Item.{Item}
use Rattle.un_length.specs.declared.block.Task.{Task}
use Rattle.un_sites.specs.Befores.{place_or, place_with, arc_before}
use Rattle.un_kinds.specs.Constraints.{Constraint, Before, Reads, Inside, Last, Below, Chosen, Zeros, Spaces, Same, Home, Frame, meets}
use Rattle.un_kinds.specs.Constraints.{Apart, Clobber, Operands, PerCycle, Length}
use Rattle.un_sites.specs.Lengths.{is_task, var_in, task_of, tasks_in, length_by}
use Rattle.un_sites.specs.Places.{Place, Definer, Asked, act_by, act_of, time_by, time_of, definers_at}
use Rattle.un_sites.specs.Places.{definer_or, registers_at, asked, asked_by}
use Rattle.un_sites.specs.Places.{no_place}
use Rattle.un_sites.specs.Postings.{zeros_by, zeros_of, issue_by, issues_in, chosen_by, chosen_of, read_alt, lone_read, waits_by, waits_of}
use Rattle.un_sites.specs.Postings.{registers_of, space_by, operand_sets, spaces_of, home_by, homes_of, of_operand, result_by, result_sets}
use Rattle.un_sites.specs.Postings.{results_in, of_place, last_place, same_by, var_or, instr_var, cycle_var, frame_op, with_kind, copy_use}
use Rattle.un_ir.specs.Kinds.{is_call_kind, issues_kind}
use Rattle.un_sites.specs.Postings.{single_use, uses_of, leave_of, in_entry, enter_among}
use Rattle.un_sites.specs.Rooms.{user_if, operand_users, place_users, users_of, temp_by, temp_at, temps_in, is_behind, call_at, calls_but}
use Rattle.un_sites.specs.Rooms.{spared_at, item_of, each_two, operand_side, two_by, one_value, two_at, twos_in}
use Rattle.un_sites.specs.declared.edges.Accesses.{Accesses}
use Rattle.un_kinds.specs.Scopes.{vars_of, vars_in, own_var, alt_vars, end_var, op_vars, use_vars, leave_vars, rectangle_vars, clobber_vars}
use Rattle.un_kinds.specs.Scopes.{enter_vars, item_vars, side_vars, task_vars}
use Rattle.un_root.proofs.Eaches.{each_places}
use Rattle.un_post.proofs.Meeting.{joined_each}

-- how many cycles a constraint counts over
abbrev pub cycles_of : Constraint → ℕ
cycles_of (PerCycle items horizon) = horizon
cycles_of (Length ops arcs end horizon) = horizon
cycles_of _ = 0

-- a constraint on the first n variables alone, which is met where it is on none, and counts over at most so many cycles
pub record IsSound (n most : ℕ) (c : Constraint) : Type 0 where
  pub within : Each (λ (v : VarId). v.0 < n) (vars_of c)
  pub grounded : vars_of c ≡ [] → (x : List ℕ) → meets c x ≡ true
  pub spans : cycles_of c ≤ most

-- ---- lists that are not empty

some_last : (xs ys : List VarId) → (ys ≡ [] → ⊥) → xs ++ ys ≡ [] → ⊥
some_last [] ys h e = h e
some_last (x ∷ xs) ys h e = cc e

some_first : (xs ys : List VarId) → (xs ≡ [] → ⊥) → xs ++ ys ≡ [] → ⊥
some_first [] ys h e = h refl
some_first (x ∷ xs) ys h e = cc e

owns_some : (vs : List VarId) → (vs ≡ [] → ⊥) → vars_in own_var vs ≡ [] → ⊥
owns_some [] h e = h refl
owns_some (v ∷ vs) h e = cc e

mapped_some : {A B : Type 0} (f : A → B) (xs : List A) → (xs ≡ [] → ⊥) → map f xs ≡ [] → ⊥
mapped_some f [] h e = h refl
mapped_some f (x ∷ xs) h e = cc e

-- ---- what holds of each of joined lists

pub joined_places : {A B : Type 0} (P : B → Type 0) (f : ℕ → A → List B) (i : ℕ) (xs : List A) → ((j : ℕ) (x : A) → Each P (f j x))
    → Each P (joined (places_from f i xs))
joined_places P f i [] h = tt
joined_places P f i (x ∷ xs) h = each_join P (f i x) (joined (places_from f (i + 1) xs)) (h i x) (joined_places P f (i + 1) xs h)

two_places : {A B : Type 0} (P : B → Type 0) (f : ℕ → A → ℕ → A → List B) (i : ℕ) (xs : List A)
    → ((i : ℕ) (x : A) (j : ℕ) (y : A) → Each P (f i x j y)) → Each P (each_two f i xs)
two_places P f i [] h = tt
two_places P f i (x ∷ xs) h = each_join P (joined (places_from (f i x) (i + 1) xs)) (each_two f (i + 1) xs)
    (joined_places P (f i x) (i + 1) xs (h i x)) (two_places P f (i + 1) xs h)

-- ---- the first n variables

module _ (n : ℕ) (pos : 0 < n) where
  abbrev pub Within : List VarId → Type 0
  Within vs = Each (λ (v : VarId). v.0 < n) vs

  abbrev pub MayBe : Option VarId → Type 0
  MayBe o = IfSome o (λ (v : VarId). v.0 < n)

  pub record PlaceIn (p : Place) : Type 0 where
    pub end : p.end.0 < n
    pub instr : MayBe p.vars.instr
    pub cycle : MayBe p.vars.cycle
    pub choices : Within p.vars.choices

  pub record DefinerIn (d : Definer) : Type 0 where
    pub place : PlaceIn d.place
    pub reg : d.reg.0 < n

  pub no_place_in : PlaceIn no_place
  no_place_in = record { end = pos; instr = tt; cycle = tt; choices = tt }

  options_in : (o : Option VarId) → MayBe o → Within (option_to_list o)
  options_in None h = tt
  options_in (Some v) h = (h, tt)

  choice_in : (o : Option VarId) → MayBe o → Within (choice_vars o)
  choice_in None h = tt
  choice_in (Some v) h = (h, tt)

  user_choice_in : (o : Option VarId) → MayBe o → Within (user_choice o)
  user_choice_in None h = tt
  user_choice_in (Some v) h = (h, tt)

  pub get_in : (vs : List VarId) (k : ℕ) → Within vs → MayBe (slice_get vs k)
  get_in [] k h = tt
  get_in (v ∷ vs) zero h = h.0
  get_in (v ∷ vs) (suc k) h = get_in vs k h.1

  pub or_in : (o : Option VarId) → MayBe o → (var_or o).0 < n
  or_in None h = pos
  or_in (Some v) h = h

  pub each_in : {A : Type 0} (f : A → List VarId) (xs : List A) → Each (λ (a : A). Within (f a)) xs → Within (vars_in f xs)
  each_in f [] h = tt
  each_in f (x ∷ xs) h = each_join (λ (v : VarId). v.0 < n) (f x) (vars_in f xs) h.0 (each_in f xs h.1)

  owns_in : (vs : List VarId) → Within vs → Within (vars_in own_var vs)
  owns_in vs h = each_in own_var vs (each_more (λ (v : VarId). v.0 < n) (λ (v : VarId). Within (own_var v)) vs (λ v lt. (lt, tt)) h)

  pub two_in : (xs ys : List VarId) → Within xs → Within ys → Within (xs ++ ys)
  two_in xs ys h k = each_join (λ (v : VarId). v.0 < n) xs ys h k

  -- ---- operations and definers

  act_by_in : (o : Option VarId) → MayBe o → Within (act_vars (act_by o))
  act_by_in None h = tt
  act_by_in (Some v) h = (h, tt)

  act_in : (p : Place) → PlaceIn p → Within (act_vars (act_of p))
  act_in p h = act_by_in p.vars.instr h.instr

  time_by_in : (end : VarId) (kind : ExtKind) (cycle : Option VarId) → end.0 < n → MayBe cycle → Within (at_vars (time_by end kind cycle))
  time_by_in end In cycle h k = tt
  time_by_in end Out cycle h k = (h, tt)
  time_by_in end kind None h k = tt
  time_by_in end kind (Some v) h k = (k, tt)

  pub time_in : (p : Place) → PlaceIn p → Within (at_vars (time_of p))
  time_in p h = time_by_in p.end p.it.kind p.vars.cycle h.end h.cycle

  -- it has a variable for its time
  abbrev pub Timed : Place → Type 0
  Timed p = at_vars (time_of p) ≡ [] → ⊥

  regs_in : (alts : List Definer) → Each DefinerIn alts → Within (registers_of alts)
  regs_in alts h = each_map (λ (v : VarId). v.0 < n) (λ (d : Definer). d.reg) alts
      (each_more DefinerIn (λ (d : Definer). d.reg.0 < n) alts (λ d g. g.reg) h)

  module _ (ds : List Definer) (known : Each DefinerIn ds) where
    definer_in : (o : Option Definer) (k : ℕ) → slice_get ds k ≡ o → DefinerIn (definer_or o)
    definer_in None k e = record { place = no_place_in; reg = pos }
    definer_in (Some d) k e = each_member DefinerIn ds d known (member_at ds k d e)

    definers_in : (xs : List TempId) → Each DefinerIn (definers_at ds xs)
    definers_in xs = each_map DefinerIn (λ (x : TempId). definer_or (slice_get ds x.0)) xs
        (each_of (λ (x : TempId). DefinerIn (definer_or (slice_get ds x.0))) xs (λ x m. definer_in (slice_get ds x.0) x.0 refl))

    registers_in : (xs : List TempId) → Within (registers_at ds xs)
    registers_in xs = regs_in (definers_at ds xs) (definers_in xs)

  -- ---- constraints

  module _ (most : ℕ) where
    abbrev pub Sound : List Constraint → Type 0
    Sound cs = Each (IsSound n most) cs

    pub sound : (c : Constraint) → Within (vars_of c) → (vars_of c ≡ [] → ⊥) → cycles_of c ≡ 0 → IsSound n most c
    sound c within some none = record { within = within; grounded = λ e x. absurd (some e); spans = omega arith }

    join : (cs ds : List Constraint) → Sound cs → Sound ds → Sound (cs ++ ds)
    join cs ds h k = each_join (IsSound n most) cs ds h k

    -- ---- an operation's own variables

    zeros_are : (kind : ExtKind) (instr cycle : Option VarId) (others : List VarId) → MayBe instr → MayBe cycle → Within others
        → Sound (zeros_by kind instr cycle others)
    zeros_are (End Fall) instr (Some at) others h k l =
        (sound (Before (Var at) Always (Const 0) Always 0) (k, tt) (λ e. cc e) refl, tt)
    zeros_are kind (Some instr) cycle others h k l = (
      sound (Zeros instr (option_to_list cycle ++ others))
          (h, owns_in (option_to_list cycle ++ others) (two_in (option_to_list cycle) others (options_in cycle k) l)) (λ e. cc e) refl,
      tt,
    )
    zeros_are kind None cycle others h k l = tt

    issue_are : (kind : ExtKind) (on : Act) (end : VarId) (cycle : Option VarId) → Within (act_vars on) → end.0 < n → MayBe cycle
        → Sound (issue_by kind on end cycle)
    issue_are kind on end None h k l = tt
    issue_are (End Fall) on end (Some at) h k l = tt
    issue_are (End term) on end (Some at) h k l = (sound (Last at end) (l, (k, tt)) (λ e. cc e) refl, tt)
    issue_are kind on end (Some at) h k l =
        (sound (Inside at on end) (l, two_in (act_vars on) (end ∷ []) h (k, tt)) (λ e. cc e) refl, tt)

    -- ---- operands

    chosen_are : (on : Act) (choice : Option VarId) (alts : List Definer) → Within (act_vars on) → MayBe choice → Each DefinerIn alts
        → Sound (chosen_by on choice alts)
    chosen_are on None alts h k l = tt
    chosen_are on (Some c) alts h k l =
        let acts = map (λ (d : Definer). act_of d.place) alts in (
          sound (Chosen on c acts)
              (two_in (act_vars on ++ own_var c) (vars_in act_vars acts) (two_in (act_vars on) (own_var c) h (k, tt))
              (each_in act_vars acts (each_map (λ (a : Act). Within (act_vars a)) (λ (d : Definer). act_of d.place) alts
              (each_more DefinerIn (λ (d : Definer). Within (act_vars (act_of d.place))) alts (λ d g. act_in d.place g.place) l))))
              (some_first (act_vars on ++ own_var c) (vars_in act_vars acts) (some_last (act_vars on) (own_var c) (λ e. cc e))) refl,
          tt,
        )

    alt_in : (t : Table) (p : Place) (d : Definer) → DefinerIn d → Within (alt_vars (read_alt t p d))
    alt_in t p d h = two_in (at_vars (time_of d.place)) (act_vars (act_of d.place)) (time_in d.place h.place) (act_in d.place h.place)

    lone_are : (t : Table) (p : Place) (d : Definer) → PlaceIn p → Timed p → DefinerIn d → IsSound n most (lone_read t p d)
    lone_are t p d h timed k =
        let a = at_vars (time_of d.place) in
        let b = act_vars (act_of d.place) in
        let c = at_vars (time_of p) in
        sound (lone_read t p d)
        (two_in (a ++ b ++ c) (act_vars (act_of p))
        (two_in (a ++ b) c (two_in a b (time_in d.place k.place) (act_in d.place k.place)) (time_in p h)) (act_in p h))
        (some_first (a ++ b ++ c) (act_vars (act_of p)) (some_last (a ++ b) c timed)) refl

    waits_are : (t : Table) (p : Place) (choice : Option VarId) (alts : List Definer) → PlaceIn p → Timed p → MayBe choice
        → Each DefinerIn alts → Sound (waits_by t p choice alts)
    waits_are t p None alts h timed k l = each_map (IsSound n most) (lone_read t p) alts
        (each_more DefinerIn (λ (d : Definer). IsSound n most (lone_read t p d)) alts (λ d g. lone_are t p d h timed g) l)
    waits_are t p (Some c) alts h timed k l =
        let reads = map (read_alt t p) alts in
        let a = at_vars (time_of p) in
        let b = act_vars (act_of p) in (
          sound (Reads (time_of p) (act_of p) c reads)
              (two_in (a ++ b ++ own_var c) (vars_in alt_vars reads)
              (two_in (a ++ b) (own_var c) (two_in a b (time_in p h) (act_in p h)) (k, tt))
              (each_in alt_vars reads (each_map (λ (r : ReadAlt). Within (alt_vars r)) (read_alt t p) alts
              (each_more DefinerIn (λ (d : Definer). Within (alt_vars (read_alt t p d))) alts (λ d g. alt_in t p d g) l))))
              (some_first (a ++ b ++ own_var c) (vars_in alt_vars reads) (some_last (a ++ b) (own_var c) (λ e. cc e))) refl,
          tt,
        )

    spaces_are : (k : ℕ) (kind : ExtKind) (on : Act) (j : ℕ) (choice : Option VarId) (regs : List VarId) → Within (act_vars on)
        → MayBe choice → Within regs → (regs ≡ [] → ⊥) → Sound (space_by k kind on j choice regs)
    spaces_are k Out on j choice regs h c l some = tt
    spaces_are k kind on j choice regs h c l some = (
      sound (Spaces on choice regs (operand_sets k kind j))
          (two_in (act_vars on ++ choice_vars choice) (vars_in own_var regs)
          (two_in (act_vars on) (choice_vars choice) h (choice_in choice c)) (owns_in regs l))
          (some_last (act_vars on ++ choice_vars choice) (vars_in own_var regs) (owns_some regs some)) refl,
      tt,
    )

    homes_are : (choice : Option VarId) (regs : List VarId) (home : Option Reg) → MayBe choice → Within regs → (regs ≡ [] → ⊥)
        → Sound (home_by choice regs home)
    homes_are choice regs None c l some = tt
    homes_are choice regs (Some home) c l some = (
      sound (Home choice regs home.0)
          (two_in (choice_vars choice) (vars_in own_var regs) (choice_in choice c) (owns_in regs l))
          (some_last (choice_vars choice) (vars_in own_var regs) (owns_some regs some)) refl,
      tt,
    )

    operand_are : (t : Table) (k : ℕ) (a : Asked) → PlaceIn a.user → Timed a.user → MayBe a.choice → Each DefinerIn a.alts
        → (a.alts ≡ [] → ⊥) → Sound (of_operand t k a)
    operand_are t k a h timed c l some =
        let regs = registers_of a.alts in
        let any = mapped_some (λ (d : Definer). d.reg) a.alts some in
        let on = act_in a.user h in
        join (chosen_of a) (waits_of t a ++ (spaces_of k a ++ homes_of a)) (chosen_are (act_of a.user) a.choice a.alts on c l)
        (join (waits_of t a) (spaces_of k a ++ homes_of a) (waits_are t a.user a.choice a.alts h timed c l)
        (join (spaces_of k a) (homes_of a)
        (spaces_are k a.user.it.kind (act_of a.user) a.at a.choice regs on c (regs_in a.alts l) any)
        (homes_are a.choice regs a.home c (regs_in a.alts l) any)))

    -- ---- results

    result_are : (k : ℕ) (kind : ExtKind) (on : Act) (regs : List VarId) → Within (act_vars on) → Within regs
        → Sound (result_by k kind on regs)
    result_are k (Copy node) on regs h l =
        each_map (IsSound n most) (λ (r : VarId). Spaces on None (r ∷ []) (result_sets k (Copy node))) regs
        (each_more (λ (v : VarId). v.0 < n) (λ (r : VarId). IsSound n most (Spaces on None (r ∷ []) (result_sets k (Copy node)))) regs
        (λ r lt. sound (Spaces on None (r ∷ []) (result_sets k (Copy node)))
        (two_in (act_vars on ++ []) (vars_in own_var (r ∷ [])) (two_in (act_vars on) [] h tt) (lt, tt))
        (some_last (act_vars on ++ []) (vars_in own_var (r ∷ [])) (λ e. cc e)) refl) l)
    result_are k kind on regs h l = tt

    -- ---- all of an operation

    module _ (ds : List Definer) (known : Each DefinerIn ds) where
      -- an operation's operands have alternatives, where it has a time
      pub record OperandsIn (p : Place) : Type 0 where
        pub place : PlaceIn p
        pub timed : Each (λ (x : Operand). Timed p × (x.alts ≡ [] → ⊥)) p.it.operands

      pub place_are : (t : Table) (k : ℕ) (p : Place) → OperandsIn p → Sound (of_place t k ds p)
      place_are t k p h =
          let g = h.place in
          let it = p.it in
          let v = p.vars in
          let zeros = zeros_of ds p in
          let issues = issues_in p in
          let operands = joined (map (of_operand t k) (asked_by ds p)) in
          let results = results_in k ds p in
          let others = two_in v.choices (registers_at ds it.results) g.choices (registers_in ds known it.results) in
          join zeros (issues ++ (operands ++ results))
          (zeros_are it.kind v.instr v.cycle (v.choices ++ registers_at ds it.results) g.instr g.cycle others)
          (join issues (operands ++ results) (issue_are it.kind (act_of p) p.end v.cycle (act_in p g) g.end g.cycle)
          (join operands results
          (joined_each (IsSound n most) (of_operand t k) (asked_by ds p)
          (each_places (λ (a : Asked). Sound (of_operand t k a)) (asked ds p) it.operands (λ j x at.
          let own = each_member (λ (x : Operand). Timed p × (x.alts ≡ [] → ⊥)) it.operands x h.timed (member_at it.operands j x at) in
          operand_are t k (asked ds p j x) g own.0 (get_in v.choices j g.choices) (definers_in ds known x.alts)
          (mapped_some (λ (y : TempId). definer_or (slice_get ds y.0)) x.alts own.1))))
          (result_are k it.kind (act_of p) (registers_at ds it.results) (act_in p g) (registers_in ds known it.results))))

      -- ---- congruences

      pub last_in : (ps : List Place) → Each PlaceIn ps → PlaceIn (last_place ps)
      last_in [] h = no_place_in
      last_in (p ∷ []) h = h.0
      last_in (p ∷ q ∷ ps) h = last_in (q ∷ ps) h.1

      pub same_are : (x : TempId) (operand : Option Operand) (choice : Option VarId) → MayBe choice → Sound (same_by ds x operand choice)
      same_are x None choice c = tt
      same_are x (Some operand) None c = tt
      same_are x (Some operand) (Some v) c =
          let regs = registers_at ds operand.alts in
          let d = definer_in ds known (slice_get ds x.0) x.0 refl in (
            sound (Same v regs (definer_or (slice_get ds x.0)).reg) (
              c,
              two_in (vars_in own_var regs) (own_var (definer_or (slice_get ds x.0)).reg)
                  (owns_in regs (registers_in ds known operand.alts)) (d.reg, tt),
            ) (λ e. cc e) refl,
            tt,
          )

      -- ---- users

      user_in : (t : TempId) (p : Place) (choice : Option VarId) (i : ℕ) (y : TempId) → PlaceIn p → MayBe choice
          → Each (λ (u : UserOf). Within (user_vars u)) (user_if t p choice i y)
      user_in t p choice i y h c = by (y.0 == t.0)
        where
          by : (b : Bool) → Each (λ (u : UserOf). Within (user_vars u))
              (if b then record { on = act_of p; at = time_of p; choice = choice; value = i } ∷ [] else [])
          by true = (
            two_in (act_vars (act_of p)) (at_vars (time_of p) ++ user_choice choice) (act_in p h)
                (two_in (at_vars (time_of p)) (user_choice choice) (time_in p h) (user_choice_in choice c)),
            tt,
          )
          by false = tt

      pub users_in : (ps : List Place) (t : TempId) → Each PlaceIn ps → Each (λ (u : UserOf). Within (user_vars u)) (users_of ps t)
      users_in ps t h = joined_each (λ (u : UserOf). Within (user_vars u)) (place_users t) ps
          (each_more PlaceIn (λ (p : Place). Each (λ (u : UserOf). Within (user_vars u)) (place_users t p)) ps (λ p g.
          joined_places (λ (u : UserOf). Within (user_vars u)) (operand_users t p) 0 p.it.operands (λ j operand.
          joined_places (λ (u : UserOf). Within (user_vars u)) (user_if t p (slice_get p.vars.choices j)) 0 operand.alts (λ i y.
          user_in t p (slice_get p.vars.choices j) i y g (get_in p.vars.choices j g.choices)))) h)

      rectangle_in : (ps : List Place) (t : TempId) (d : Definer) → Each PlaceIn ps → DefinerIn d → Within (rectangle_vars (temp_by ps t d))
      rectangle_in ps t d h g =
          let a = act_vars (act_of d.place) in
          let b = at_vars (time_of d.place) in
          let us = vars_in user_vars (users_of ps t) in (
            g.reg,
            two_in a (b ++ us) (act_in d.place g.place)
                (two_in b us (time_in d.place g.place) (each_in user_vars (users_of ps t) (users_in ps t h))),
          )

      -- ---- registers

      pub apart_are : (ps : List Place) → Each PlaceIn ps → IsSound n most (Apart (map (temp_at ds ps) (temps_in ps)))
      apart_are ps h =
          let temps = map (temp_at ds ps) (temps_in ps) in
          record {
            within = each_in rectangle_vars temps (each_map (λ (a : Temp). Within (rectangle_vars a)) (temp_at ds ps) (temps_in ps)
                (each_of (λ (t : TempId). Within (rectangle_vars (temp_at ds ps t))) (temps_in ps) (λ t m.
                rectangle_in ps t (definer_or (slice_get ds t.0)) h (definer_in ds known (slice_get ds t.0) t.0 refl))));
            grounded = by temps;
            spans = omega arith;
          }
        where
          by : (temps : List Temp) → vars_of (Apart temps) ≡ [] → (x : List ℕ) → meets (Apart temps) x ≡ true
          by [] e x = refl
          by (t ∷ ts) e x = absurd (cc e)

      -- ---- calls

      pub spared_are : (mask : ℕ) (arcs : List Arc) (ps : List Place) (t : TempId) → Each PlaceIn ps
          → IsSound n most (spared_at mask arcs ds ps t)
      spared_are mask arcs ps t h =
          let d = definer_or (slice_get ds t.0) in
          let g = definer_in ds known (slice_get ds t.0) t.0 refl in
          let calls = calls_but d.place.op ps in
          let made = map (call_at arcs ps t d.place) calls in
          sound (Clobber mask (temp_by ps t d) made)
          (two_in (rectangle_vars (temp_by ps t d)) (vars_in clobber_vars made) (rectangle_in ps t d h g)
          (each_in clobber_vars made (each_map (λ (c : ClobberCall). Within (clobber_vars c)) (call_at arcs ps t d.place) calls
          (each_more PlaceIn (λ (q : Place). Within (clobber_vars (call_at arcs ps t d.place q))) calls (λ q k. (
            or_in q.vars.cycle k.cycle,
            each_in user_vars (users_of (filter (is_behind arcs q) ps) t)
                (users_in (filter (is_behind arcs q) ps) t (each_filter PlaceIn (is_behind arcs q) ps h)),
          ))
          (each_filter PlaceIn (λ (p : Place). is_call_kind p.it.kind && not (p.op == d.place.op)) ps h)))))
          (λ e. cc e) refl

      -- ---- two operands

      side_in : (k : ℕ) (instr : Op) (j : ℕ) (choice : VarId) (operand : Operand) → choice.0 < n
          → Within (side_vars (operand_side k ds instr j choice operand))
      side_in k instr j choice operand lt =
          (lt, owns_in (registers_of (definers_at ds operand.alts)) (registers_in ds known operand.alts))

      pub two_are : (k : ℕ) (kind : ExtKind) (i : ℕ) (a : Operand) (c : Option VarId) (j : ℕ) (b : Operand) (d : Option VarId) → MayBe c
          → MayBe d → Sound (two_by k ds kind i a c j b d)
      two_are k (Body so) i a (Some c) j b (Some d) h l =
          let p = operand_side k ds so.op i c a in
          let q = operand_side k ds so.op j d b in
          let within = two_in (side_vars p) (side_vars q) (side_in k so.op i c a h) (side_in k so.op j d b l) in
          (sound (Operands p q) within (λ e. cc e) refl, tt)
      two_are k kind i a c j b d h l = tt

      pub twos_are : (k : ℕ) (p : Place) → PlaceIn p → Sound (twos_in k ds p)
      twos_are k p g = two_places (IsSound n most) (two_at k ds p) 0 p.it.operands (λ i a j b.
          by i a j b (one_value a b))
        where
          by : (i : ℕ) (a : Operand) (j : ℕ) (b : Operand) (t : Bool) → Sound
              (if t then [] else two_by k ds p.it.kind i a (slice_get p.vars.choices i) j b (slice_get p.vars.choices j))
          by i a j b true = tt
          by i a j b false = two_are k p.it.kind i a (slice_get p.vars.choices i) j b (slice_get p.vars.choices j)
              (get_in p.vars.choices i g.choices) (get_in p.vars.choices j g.choices)

      -- ---- the frame

      uses_in : (ps : List Place) → Each PlaceIn ps → Each (λ (u : FrameUse). Within (use_vars u)) (map copy_use ps)
      uses_in ps h = each_map (λ (u : FrameUse). Within (use_vars u)) copy_use ps
          (each_more PlaceIn (λ (p : Place). Within (use_vars (copy_use p))) ps
          (λ p g. two_in (act_vars (act_of p)) (cycle_var p ∷ []) (act_in p g) (or_in p.vars.cycle g.cycle, tt)) h)

      singles_in : (ps : List Place) → Each PlaceIn ps → Each (λ (u : FrameUse). Within (use_vars u)) (map single_use ps)
      singles_in ps h = each_map (λ (u : FrameUse). Within (use_vars u)) single_use ps
          (each_more PlaceIn (λ (p : Place). Within (use_vars (single_use p))) ps
          (λ p g. two_in (act_vars (act_of p)) (cycle_var p ∷ []) (act_in p g) (or_in p.vars.cycle g.cycle, tt)) h)

      kind_in : (is : ExtKind → Bool) (ps : List Place) → Each PlaceIn ps → Each PlaceIn (with_kind is ps)
      kind_in is ps h = each_filter PlaceIn (λ (p : Place). is p.it.kind) ps h

      op_in : (p : Place) → PlaceIn p → Within (op_vars (frame_op p))
      op_in p g = (or_in p.vars.instr g.instr, (or_in p.vars.cycle g.cycle, tt))

      pub leaves_are : (ps : List Place) → Each PlaceIn ps
          → Each (λ (l : FrameLeave). Within (leave_vars l)) (map (leave_of ps) (with_kind is_leave ps))
      leaves_are ps h =
          let copies = map copy_use (with_kind is_copy ps) in
          let calls = map cycle_var (with_kind is_call_kind ps) in
          each_map (λ (l : FrameLeave). Within (leave_vars l)) (leave_of ps) (with_kind is_leave ps)
          (each_more PlaceIn (λ (p : Place). Within (leave_vars (leave_of ps p))) (with_kind is_leave ps) (λ p g.
          two_in (op_vars (frame_op p)) (vars_in use_vars copies ++ vars_in own_var calls) (op_in p g)
          (two_in (vars_in use_vars copies) (vars_in own_var calls)
          (each_in use_vars copies (uses_in (with_kind is_copy ps) (kind_in is_copy ps h)))
          (owns_in calls (each_map (λ (v : VarId). v.0 < n) cycle_var (with_kind is_call_kind ps)
          (each_more PlaceIn (λ (q : Place). (cycle_var q).0 < n) (with_kind is_call_kind ps) (λ q k. or_in q.vars.cycle k.cycle)
          (kind_in is_call_kind ps h)))))) (kind_in is_leave ps h))

      pub frame_are : (flag : VarId) (ps : List Place) (enter : Place) (leaves : List FrameLeave) → flag.0 < n → Each PlaceIn ps
          → PlaceIn enter → Each (λ (l : FrameLeave). Within (leave_vars l)) leaves
          → IsSound n most (Frame true flag (map instr_var (with_kind is_copy ps))
          (joined (map (λ (p : Place). registers_at ds p.it.results) (with_kind is_in ps))) (Some (frame_op enter)) (uses_of (in_entry ps)) leaves)
      frame_are flag ps enter leaves lt h g l =
          let touch = map instr_var (with_kind is_copy ps) in
          let ins = joined (map (λ (p : Place). registers_at ds p.it.results) (with_kind is_in ps)) in
          let entry = in_entry ps in
          let there = each_filter PlaceIn (λ (p : Place). p.block == 0) ps h in
          let copies = map copy_use (with_kind is_copy entry) in
          let calls = map single_use (with_kind is_call_kind entry) in
          let last = map single_use (with_kind is_leave entry) in
          let uses = each_join (λ (u : FrameUse). Within (use_vars u)) copies (calls ++ last)
          (uses_in (with_kind is_copy entry) (kind_in is_copy entry there))
          (each_join (λ (u : FrameUse). Within (use_vars u)) calls last
          (singles_in (with_kind is_call_kind entry) (kind_in is_call_kind entry there))
          (singles_in (with_kind is_leave entry) (kind_in is_leave entry there))) in
          let a = own_var flag in
          let b = vars_in own_var touch in
          let c = vars_in own_var ins in
          let d = op_vars (frame_op enter) in
          let u = vars_in use_vars (uses_of entry) in
          let w = vars_in leave_vars leaves in
          sound (Frame true flag touch ins (Some (frame_op enter)) (uses_of entry) leaves)
          (two_in (a ++ b ++ c ++ d ++ u) w
          (two_in (a ++ b ++ c ++ d) u
          (two_in (a ++ b ++ c) d
          (two_in (a ++ b) c
          (two_in a b (lt, tt) (owns_in touch (each_map (λ (v : VarId). v.0 < n) instr_var (with_kind is_copy ps)
          (each_more PlaceIn (λ (q : Place). (instr_var q).0 < n) (with_kind is_copy ps) (λ q k. or_in q.vars.instr k.instr)
          (kind_in is_copy ps h)))))
          (owns_in ins (joined_each (λ (v : VarId). v.0 < n) (λ (p : Place). registers_at ds p.it.results) (with_kind is_in ps)
          (each_of (λ (p : Place). Within (registers_at ds p.it.results)) (with_kind is_in ps)
          (λ p m. registers_in ds known p.it.results)))))
          (op_in enter g))
          (each_in use_vars (uses_of entry) uses))
          (each_in leave_vars leaves l))
          (λ e. cc e) refl

      enter_in : (ps : List Place) → Each PlaceIn ps → Within (enter_vars (enter_among ps))
      enter_in [] h = tt
      enter_in (p ∷ ps) h = op_in p h.0

      pub part_frame_are : (flag : VarId) (ps : List Place) → flag.0 < n → Each PlaceIn ps
          → IsSound n most (Frame false flag (map instr_var (with_kind is_copy ps))
          (joined (map (λ (p : Place). registers_at ds p.it.results) (with_kind is_in ps))) (enter_among (with_kind is_enter ps)) (uses_of ps)
          (map (leave_of ps) (with_kind is_leave ps)))
      part_frame_are flag ps lt h =
          let touch = map instr_var (with_kind is_copy ps) in
          let ins = joined (map (λ (p : Place). registers_at ds p.it.results) (with_kind is_in ps)) in
          let enter = enter_among (with_kind is_enter ps) in
          let leaves = map (leave_of ps) (with_kind is_leave ps) in
          let copies = map copy_use (with_kind is_copy ps) in
          let calls = map single_use (with_kind is_call_kind ps) in
          let last = map single_use (with_kind is_leave ps) in
          let uses = each_join (λ (u : FrameUse). Within (use_vars u)) copies (calls ++ last)
          (uses_in (with_kind is_copy ps) (kind_in is_copy ps h))
          (each_join (λ (u : FrameUse). Within (use_vars u)) calls last
          (singles_in (with_kind is_call_kind ps) (kind_in is_call_kind ps h))
          (singles_in (with_kind is_leave ps) (kind_in is_leave ps h))) in
          let a = own_var flag in
          let b = vars_in own_var touch in
          let c = vars_in own_var ins in
          let d = enter_vars enter in
          let u = vars_in use_vars (uses_of ps) in
          let w = vars_in leave_vars leaves in
          sound (Frame false flag touch ins enter (uses_of ps) leaves)
          (two_in (a ++ b ++ c ++ d ++ u) w
          (two_in (a ++ b ++ c ++ d) u
          (two_in (a ++ b ++ c) d
          (two_in (a ++ b) c
          (two_in a b (lt, tt) (owns_in touch (each_map (λ (v : VarId). v.0 < n) instr_var (with_kind is_copy ps)
          (each_more PlaceIn (λ (q : Place). (instr_var q).0 < n) (with_kind is_copy ps) (λ q k. or_in q.vars.instr k.instr)
          (kind_in is_copy ps h)))))
          (owns_in ins (joined_each (λ (v : VarId). v.0 < n) (λ (p : Place). registers_at ds p.it.results) (with_kind is_in ps)
          (each_of (λ (p : Place). Within (registers_at ds p.it.results)) (with_kind is_in ps)
          (λ p m. registers_in ds known p.it.results)))))
          (enter_in (with_kind is_enter ps) (kind_in is_enter ps h)))
          (each_in use_vars (uses_of ps) uses))
          (each_in leave_vars leaves (leaves_are ps h)))
          (λ e. cc e) refl

    -- ---- arcs, packets and the limit

    place_with_in : (ps : List Place) (k : ℕ) → Each PlaceIn ps → PlaceIn (place_with ps k)
    place_with_in ps k h = go (slice_get ps k) refl
      where
        go : (p : Option Place) → slice_get ps k ≡ p → PlaceIn (place_or p)
        go None e = no_place_in
        go (Some p) e = each_member PlaceIn ps p h (member_at ps k p e)

    -- an operation waits for another, where one of them has a variable for its time
    pub waits_always : (p q : Place) (gap : ℕ) → PlaceIn p → PlaceIn q → Timed p ⊎ Timed q
        → IsSound n most (Before (time_of p) Always (time_of q) Always gap)
    waits_always p q gap h k timed =
        let from = at_vars (time_of p) in
        let to = at_vars (time_of q) in
        sound (Before (time_of p) Always (time_of q) Always gap)
        (two_in (from ++ [] ++ to) [] (two_in (from ++ []) to (two_in from [] (time_in p h) tt) (time_in q k)) tt)
        (some_first (from ++ [] ++ to) [] (elim timed [
          | inl t ↦ some_first (from ++ []) to (some_first from [] t)
          | inr t ↦ some_last (from ++ []) to t
        ])) refl

    pub arc_are : (ps : List Place) (a : Arc) → Each PlaceIn ps → Timed (place_with ps a.to.0) → IsSound n most (arc_before ps a)
    arc_are ps a h timed = waits_always (place_with ps a.from.0) (place_with ps a.to.0) a.gap (place_with_in ps a.from.0 h)
        (place_with_in ps a.to.0 h) (inr timed)

    pub packet_are : (t : Table) (ps : List Place) (horizon : ℕ) → horizon ≤ most → Each PlaceIn ps
        → IsSound n most (PerCycle (map (item_of t) (with_kind issues_kind ps)) horizon)
    packet_are t ps horizon le h =
        let kept = with_kind issues_kind ps in
        let items = map (item_of t) kept in
        record {
          within = each_in item_vars items (each_map (λ (i : Item). Within (item_vars i)) (item_of t) kept
              (each_more PlaceIn (λ (p : Place). Within (item_vars (item_of t p))) kept
              (λ p g. two_in (act_vars (act_of p)) (own_var (cycle_var p)) (act_in p g) (or_in p.vars.cycle g.cycle, tt))
              (each_filter PlaceIn (λ (p : Place). issues_kind p.it.kind) ps h)));
          grounded = by items;
          spans = le;
        }
      where
        by : (items : List Item) → vars_of (PerCycle items horizon) ≡ [] → (x : List ℕ) → meets (PerCycle items horizon) x ≡ true
        by [] e x = refl
        by (i ∷ is) e x = absurd (some_first (act_vars i.on ++ own_var i.at) (vars_in item_vars is)
            (some_last (act_vars i.on) (own_var i.at) (λ f. cc f)) e)

    var_known : (a : At) → Within (at_vars a) → (var_in a).0 < n
    var_known (Const k) h = pos
    var_known (Var v) h = h.0

    pub length_are : (t : Table) (room : ℕ) (is_entry : Bool) (owed : Accesses) (arcs : List Arc) (befores : List Constraint) (end : VarId)
        (horizon : ℕ) (ps : List Place) → end.0 < n → horizon ≤ most → Each PlaceIn ps
        → IsSound n most (length_by t room is_entry owed arcs befores end horizon ps)
    length_are t room is_entry owed arcs befores end horizon ps lt le h =
        let found = with_kind is_task ps in
        let ops = tasks_in t room is_entry owed arcs ps in
        let made = task_of t room is_entry owed arcs ps in
        record {
          within = two_in (vars_in task_vars ops) (own_var end)
              (each_in task_vars ops (each_map (λ (k : Task). Within (task_vars k)) made found
              (each_more PlaceIn (λ (p : Place). Within (task_vars (made p))) found
              (λ p g. (var_known (time_of p) (time_in p g), tt))
              (each_filter PlaceIn (λ (p : Place). is_task p.it.kind) ps h)))) (lt, tt);
          grounded = λ e x. absurd (some_last (vars_in task_vars ops) (own_var end) (λ f. cc f) e);
          spans = le;
        }

    pub below_are : (ends : List Weighted) (limit : ℕ) → Each (λ (w : Weighted). w.end.0 < n) ends → (ends ≡ [] → ⊥)
        → IsSound n most (Below ends limit)
    below_are ends limit h some =
        let each = each_more (λ (w : Weighted). w.end.0 < n) (λ (w : Weighted). Within (end_var w)) ends (λ w lt. (lt, tt)) h in
        sound (Below ends limit) (each_in end_var ends each) (by ends some) refl
      where
        by : (ends : List Weighted) → (ends ≡ [] → ⊥) → vars_in end_var ends ≡ [] → ⊥
        by [] some e = some refl
        by (w ∷ ws) some e = cc e
