-- What chains of arcs lead to is reached by one pass over the arcs of a block, since they stand by rising ends. So what crosses a call
-- by chains is counted to cross it.
use Rattle.std.proofs.Common.{ℕ, zero, suc, ◌≡◌, ◌≢◌, ◌<◌, ◌≤◌, ◌+◌, ◌⊎◌, Bool, true, false, not, ◌&&◌, ◌||◌, List, [], ◌∷◌, length, fold, filter, map}
use Rattle.std.proofs.Common.{inl, inr, refl, sym, ap, ◌∙◌, subst, arith, nat_eq, Some, None, slice_get, eq-eqb}
use Rattle.std.specs.declared.option.Option.{Option}
use Rattle.std.specs.Prelude.{AllPairs, Contains, ◌==◌, if◌then◌else◌, slice_index_or}
use Rattle.std.specs.List.{list_any}
use Rattle.std.proofs.lemmas.Bool.Decides.{nat_tests}
use Rattle.un_base.specs.declared.ids.TempId.{TempId}
use Rattle.un_domains.specs.Sets.{has}
use Rattle.un_ir.specs.Kinds.{is_mandatory, ends_block}
use Rattle.un_ir.specs.Linear.{first_of, is_in}
use Rattle.un_ir.specs.declared.extended.ExtBlock.{ExtBlock}
use Rattle.un_ir.specs.declared.extended.ExtKind.{ExtKind}
use Rattle.un_ir.specs.declared.extended.ExtOp.{ExtOp}
use Rattle.un_ir.specs.declared.extended.ExtKind.TheVariants.{In}
use Rattle.un_ir.specs.declared.extended.Operand.{Operand}
use Rattle.un_isa.specs.declared.table.Table.{Table}
use Rattle.un_model.specs.ArcLaws.{arc_told, arcs_rise}
use Rattle.un_model.specs.Arcs.{block_arcs, blocks_arcs, IsArcOf, RisesTo}
use Rattle.un_model.specs.Variables.{IsModel, model_of}
use Rattle.un_model.specs.declared.model.Arc.{Arc}
use Rattle.un_model.specs.declared.model.Model.{Model}
use Rattle.un_model.specs.declared.model.TempVars.{TempVars}
use Rattle.un_lists.proofs.Lists.{Each, Member, each_member, each_of, member_filter, member_map}
use Rattle.un_model.proofs.PlacedSchedules.{member_joined}
use Rattle.un_sites.specs.Crossings.{reads_value, is_asked, is_ahead, is_loose, is_crossing, handed, crossing}
use Rattle.un_sites.specs.Places.{Place}
use Rattle.un_sites.specs.Rooms.{arcs_or, led_by, reached, is_before, is_behind, temps_in}
use Rattle.un_sites.specs.Sure.{Chain, here, along, SurelyCrosses}

-- ---- lists

member_in : {X : Type 0} (xs : List X) (x : X) → Contains xs x → Member x xs
member_in [] x c = absurd (omega (arith, c.1))
member_in (y ∷ ys) x c = by c.0 c.1 c.2 (member_in ys x)
  where
    by : (k : ℕ) → k < suc (length ys) → slice_index_or (y ∷ ys) k x ≡ x → (Contains ys x → Member x ys) → Member x (y ∷ ys)
    by zero lt e later = inl e
    by (suc k) lt e later = inr (later (k, omega (arith, lt), e))

contains_in : {X : Type 0} (xs : List X) (x : X) → Member x xs → Contains xs x
contains_in [] x m = absurd m
contains_in (y ∷ ys) x (inl e) = (0, omega arith, e)
contains_in (y ∷ ys) x (inr m) = let c = contains_in ys x m in (suc c.0, omega (arith, c.1), c.2)

or_left : (a b : Bool) → a ≡ true → (a || b) ≡ true
or_left true b h = refl
or_left false b h = absurd (cc h)

or_right : (a b : Bool) → b ≡ true → (a || b) ≡ true
or_right true b h = refl
or_right false b h = h

any_member : {X : Type 0} (p : X → Bool) (xs : List X) (x : X) → Member x xs → p x ≡ true → list_any p xs ≡ true
any_member p [] x m h = absurd m
any_member p (y ∷ ys) x (inl e) h = or_left (p y) (list_any p ys) (ap p e ∙ h)
any_member p (y ∷ ys) x (inr m) h = or_right (p y) (list_any p ys) (any_member p ys x m h)

and_both : (a b : Bool) → a ≡ true → b ≡ true → (a && b) ≡ true
and_both true b h k = k
and_both false b h k = absurd (cc h)

unequal : (a b : ℕ) → a ≢ b → not (a == b) ≡ true
unequal a b ne = let q : nat_eq a b ≡ false = grind (arith, nat_tests) in ap not q

-- ---- one pass over arcs that stand by rising ends

led_keeps : (ns : List ℕ) (d : Arc) (m : ℕ) → has ns m ≡ true → has (led_by ns d) m ≡ true
led_keeps ns d m h = by (has ns d.from.0)
  where
    by : (b : Bool) → has (if b then d.to.0 ∷ ns else ns) m ≡ true
    by true = or_right (nat_eq m d.to.0) (has ns m) h
    by false = h

keeps : (arcs : List Arc) (ns : List ℕ) (m : ℕ) → has ns m ≡ true → has (fold led_by ns arcs) m ≡ true
keeps [] ns m h = h
keeps (d ∷ ds) ns m h = keeps ds (led_by ns d) m (led_keeps ns d m h)

-- an arc leads to nothing below its end
led_below : (ns : List ℕ) (d : Arc) (m : ℕ) → m < d.to.0 → has (led_by ns d) m ≡ true → has ns m ≡ true
led_below ns d m lt h = by (has ns d.from.0) h
  where
    by : (b : Bool) → has (if b then d.to.0 ∷ ns else ns) m ≡ true → has ns m ≡ true
    by true k =
        let q : nat_eq m d.to.0 ≡ false = grind (arith, nat_tests, lt) in
        sym (ap (λ (t : Bool). t || has ns m) q) ∙ k
    by false k = k

abbrev EndsAbove : ℕ → Arc → Type 0
EndsAbove m d = m < d.to.0

below : (arcs : List Arc) (ns : List ℕ) (m : ℕ) → Each (EndsAbove m) arcs → has (fold led_by ns arcs) m ≡ true → has ns m ≡ true
below [] ns m all h = h
below (d ∷ ds) ns m all h = led_below ns d m all.0 (below ds (led_by ns d) m all.1 h)

-- each arc leads on, and none ends before an earlier one
abbrev LeadsOn : Arc → Type 0
LeadsOn a = a.from.0 < a.to.0

abbrev NotBefore : Arc → Arc → Type 0
NotBefore a b = a.to.0 ≤ b.to.0

abbrev Rises : List Arc → Type 0
Rises [] = Unit {0}
Rises (a ∷ rest) = Each (NotBefore a) rest × Rises rest

passes : (arcs : List Arc) → Rises arcs → Each LeadsOn arcs → (ns : List ℕ) (c : Arc) → Member c arcs
    → has (fold led_by ns arcs) c.from.0 ≡ true → has (fold led_by ns arcs) c.to.0 ≡ true
passes [] r f ns c m h = absurd m
passes (d ∷ ds) r f ns c (inl e) h = subst (λ (a : Arc). has (fold led_by (led_by ns d) ds) a.to.0 ≡ true) e
    (keeps ds (led_by ns d) d.to.0 (led (has ns d.from.0) refl))
  where
    back : has ns d.from.0 ≡ true
    back =
        let at : has (fold led_by (led_by ns d) ds) d.from.0 ≡ true =
        ap (λ (a : Arc). has (fold led_by (led_by ns d) ds) a.from.0) e ∙ h in
        let on = f.0 in
        led_below ns d d.from.0 on (below ds (led_by ns d) d.from.0
        (each_of (EndsAbove d.from.0) ds (λ b m. let le = each_member (NotBefore d) ds b r.0 m in omega (arith, on, le))) at)

    led : (t : Bool) → has ns d.from.0 ≡ t → has (led_by ns d) d.to.0 ≡ true
    led true k =
        let q : nat_eq d.to.0 d.to.0 ≡ true = grind (arith, nat_tests) in
        ap (λ (b : Bool). has (if b then d.to.0 ∷ ns else ns) d.to.0) k ∙ ap (λ (b : Bool). b || has ns d.to.0) q
    led false k = (let no : true ≡ false = sym back ∙ k in absurd (cc no))
passes (d ∷ ds) r f ns c (inr m) h = passes ds r.1 f.1 (led_by ns d) c m h

-- what a chain leads to is reached
chain_reached : (arcs : List Arc) → Rises arcs → Each LeadsOn arcs → (a n : ℕ) → Chain arcs a n → has (reached arcs a) n ≡ true
chain_reached arcs r f a n here = keeps arcs (a ∷ []) a (own a)
  where
    own : (k : ℕ) → has (k ∷ []) k ≡ true
    own k = let q : nat_eq k k ≡ true = grind (arith, nat_tests) in ap (λ (b : Bool). b || false) q
chain_reached arcs r f a n (along c before there) =
    passes arcs r f (a ∷ []) c (member_in arcs c there) (chain_reached arcs r f a c.from.0 before)

-- ---- the arcs of a model

rise_by : (arcs : List Arc) → AllPairs RisesTo arcs → Rises arcs
rise_by [] h = tt
rise_by (a ∷ rest) h = (
  each_of (NotBefore a) rest (λ b m.
      let c = contains_in rest b m in
      not_before b (subst (RisesTo a) c.2 (h 0 (suc c.0) b (omega arith) (omega (arith, c.1))))),
  rise_by rest (λ i j d less lt. h (suc i) (suc j) d (omega (arith, less)) (omega (arith, lt))),
)
  where
    not_before : (b : Arc) → RisesTo a b → NotBefore a b
    not_before b (inl less) = omega (arith, less)
    not_before b (inr same) = (let e = same.0 in omega (arith, e))

-- the arcs of a list are those of a block, of which the first operation has this number
record OfBlock (t : Table) (temps : List TempVars) (arcs : List Arc) : Type 0 where
  block : ExtBlock
  first : ℕ
  is : arcs ≡ block_arcs t temps first block.ops

of_block : (t : Table) (temps : List TempVars) (n : ℕ) (blocks : List ExtBlock) (b : ℕ) (arcs : List Arc)
    → slice_get (blocks_arcs t temps n blocks) b ≡ Some arcs → OfBlock t temps arcs
of_block t temps n [] b arcs h = absurd (cc h)
of_block t temps n (c ∷ cs) zero arcs h = (let same : block_arcs t temps n c.ops ≡ arcs = cc h in record { block = c; first = n; is = sym same })
of_block t temps n (c ∷ cs) (suc b) arcs h = of_block t temps (n + length c.ops) cs b arcs h

leads_on : (t : Table) (temps : List TempVars) (n : ℕ) (ops : List ExtOp) (a : Arc) → IsArcOf t temps n ops a → LeadsOn a
leads_on t temps n ops a is =
    let less = is.order in
    let from = is.numbers.0 in
    let to = is.numbers.1 in
    omega (arith, less, from, to)

module _ (t : Table) (temps : List TempVars) (arcs : List Arc) (w : OfBlock t temps arcs) where
  block_rises : Rises arcs
  block_rises =
      let ops = w.block.ops in
      rise_by arcs (subst (AllPairs RisesTo) (sym w.is) (arcs_rise t temps w.first ops))

  block_leads_on : Each LeadsOn arcs
  block_leads_on =
      let ops = w.block.ops in
      each_of LeadsOn arcs (λ a m. leads_on t temps w.first ops a
      (arc_told t temps w.first ops a (subst (λ (xs : List Arc). Contains xs a) w.is (contains_in arcs a m))))

-- ---- what crosses a call

abbrev results_of : Place → List TempId
results_of p = p.it.results

module _ (arcs : List Arc) (rises : Rises arcs) (lead : Each LeadsOn arcs) (ps : List Place) (call : Place) (x : TempId)
    (h : SurelyCrosses arcs ps call x) where
  ahead : is_ahead arcs call h.definer ≡ true
  ahead = and_both (not (h.definer.op == call.op)) (is_before arcs h.definer call) (unequal h.definer.op call.op h.other)
      (by h.before)
    where
      by : (h.definer.it.kind ≡ In) ⊎ Chain arcs h.definer.op call.op → is_before arcs h.definer call ≡ true
      by (inl is) = ap (λ (k : ExtKind). is_in k || has (reached arcs h.definer.op) call.op) is
      by (inr chain) = or_right (is_in h.definer.it.kind) (has (reached arcs h.definer.op) call.op)
          (chain_reached arcs rises lead h.definer.op call.op chain)

  behind : is_behind arcs call h.reader ≡ true
  behind = by h.behind
    where
      by : (ends_block h.reader.it.kind ≡ true) ⊎ ((h.reader.op ≢ call.op) × Chain arcs call.op h.reader.op)
          → is_behind arcs call h.reader ≡ true
      by (inl ends) = ap (λ (b : Bool). b || (not (h.reader.op == call.op) && has (reached arcs call.op) h.reader.op)) ends
      by (inr both) = or_right (ends_block h.reader.it.kind) (not (h.reader.op == call.op) && has (reached arcs call.op) h.reader.op)
          (and_both (not (h.reader.op == call.op)) (has (reached arcs call.op) h.reader.op) (unequal h.reader.op call.op both.0)
          (chain_reached arcs rises lead call.op h.reader.op both.1))

  read : reads_value false x.0 h.reader ≡ true
  read =
      let r = h.reads in
      and_both (is_mandatory h.reader.it.kind)
      (list_any (λ (y : Operand). first_of y.alts == x.0 && is_asked false h.reader.it.kind y) h.reader.it.operands) r.issued
      (any_member (λ (y : Operand). first_of y.alts == x.0 && is_asked false h.reader.it.kind y) h.reader.it.operands r.operand
      (member_in h.reader.it.operands r.operand r.listed) (and_both (first_of r.operand.alts == x.0) true
      (eq-eqb (first_of r.operand.alts) x.0 r.value) refl))

  pub counted : Contains (crossing false arcs ps call) x
  counted =
      let behinds = filter (is_behind arcs call) ps in
      let looses = filter (is_loose arcs call) ps in
      let listed = member_filter (is_behind arcs call) ps h.reader (member_in ps h.reader h.listed) behind in
      let carried : is_crossing false behinds looses x ≡ true =
      or_left (list_any (reads_value false x.0) behinds) (list_any (λ (m : ℕ). m == x.0) (handed false behinds looses))
      (any_member (reads_value false x.0) behinds h.reader listed read) in
      let there : Member x (temps_in (filter (is_ahead arcs call) ps)) =
      given (filter (is_ahead arcs call) ps) (member_filter (is_ahead arcs call) ps h.definer (member_in ps h.definer h.defined) ahead) in
      contains_in (crossing false arcs ps call) x
      (member_filter (is_crossing false behinds looses) (temps_in (filter (is_ahead arcs call) ps)) x there carried)
    where
      given : (qs : List Place) → Member h.definer qs → Member x (temps_in qs)
      given qs m = member_joined (map results_of qs) (results_of h.definer) x (member_map results_of qs h.definer m)
          (member_in h.definer.it.results x h.gives)

pub all_counted : (m : Model) → IsModel m → (b : ℕ) (ps : List Place) (call : Place) (x : TempId)
    → SurelyCrosses (arcs_or (slice_get m.arcs b)) ps call x → Contains (crossing false (arcs_or (slice_get m.arcs b)) ps call) x
all_counted m own b ps call x = by (slice_get m.arcs b) refl
  where
    by : (o : Option (List Arc)) → slice_get m.arcs b ≡ o → SurelyCrosses (arcs_or o) ps call x
        → Contains (crossing false (arcs_or o) ps call) x
    by None e h = counted [] tt tt ps call x h
    by (Some arcs) e h =
        let temps = (model_of m.ext m.options).temps in
        let at = sym (ap (λ (x : Model). slice_get x.arcs b) own) ∙ e in
        let w = of_block m.ext.table temps 0 m.ext.blocks b arcs at in
        counted arcs (block_rises m.ext.table temps arcs w) (block_leads_on m.ext.table temps arcs w) ps call x h
