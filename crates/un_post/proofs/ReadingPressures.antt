-- What is posted of pressure reads variables of the store alone, and holds where it reads none.
use Rattle.std.proofs.Common.{ℕ, ◌≡◌, ◌<◌, Bool, true, false, cond, List, [], ◌∷◌, ◌++◌, length, map, filter, refl, ap, ◌∙◌, arith}
use Rattle.std.specs.Prelude.{Option, Some, None, nat_le, nat_lt, ◌&&◌, ◌||◌}
use Rattle.std.specs.List.{list_any}
use Rattle.std.proofs.lemmas.Bool.Decides.{nat_tests}
use Rattle.un_base.specs.declared.ids.TempId.{TempId}
use Rattle.un_base.specs.declared.ids.VarId.{VarId}
use Rattle.un_ir.specs.Kinds.{is_call_kind, is_mandatory}
use Rattle.un_ir.specs.declared.extended.ExtKind.{ExtKind}
use Rattle.un_ir.specs.declared.extended.ExtKind.TheVariants.{In, Out}
use Rattle.un_model.specs.declared.model.Arc.{Arc}
use Rattle.un_lists.proofs.Lists.{Each, each_of, each_more, each_map, each_filter}
use Rattle.un_prop.specs.Acts.{at_vars, at_value}
use Rattle.un_prop.specs.declared.act.At.{At}
use Rattle.un_press.specs.Pressures.{is_live, live_holds}
use Rattle.un_press.specs.PressureLaws.{fits_holds}
use Rattle.un_press.specs.declared.live.Span.{Span}
use Rattle.un_kinds.specs.Scopes.{vars_in, span_vars}
use Rattle.un_sites.specs.Crossings.{reads_value}
use Rattle.un_sites.specs.Places.{Place, time_by, time_of}
use Rattle.un_sites.specs.Postings.{with_kind}
use Rattle.un_sites.specs.Pressures.{span_of, own_spans, spans_in, live_by, across_by, pressure_by}
use Rattle.un_post.proofs.Meeting.{joined_each}
use Rattle.un_post.proofs.Reading.{IsSound, PlaceIn, Within, each_in, two_in, time_in, or_in, sound}

-- ---- times without a variable are 0, so that no use is after a cycle

abbrev IsTimed : At → Type 0
IsTimed u = at_vars u ≡ [] → (x : List ℕ) → at_value u x ≡ 0

time_timed : (end : VarId) (kind : ExtKind) (cycle : Option VarId) → IsTimed (time_by end kind cycle)
time_timed end In cycle none x = refl
time_timed end Out cycle none x = absurd (cc none)
time_timed end kind None none x = refl
time_timed end kind (Some v) none x = absurd (cc none)

abbrev AreTimed : Span → Type 0
AreTimed v = Each IsTimed v.uses

spans_timed : (ps : List Place) → Each AreTimed (spans_in ps)
spans_timed ps = joined_each AreTimed (own_spans ps) ps (each_of (λ (p : Place). Each AreTimed (own_spans ps p)) ps (λ p mp.
    each_map AreTimed (span_of ps p) p.it.results (each_of (λ (t : TempId). AreTimed (span_of ps p t)) p.it.results (λ t mt.
    let readers = filter (reads_value false t.0) ps in
    each_map IsTimed time_of readers (each_of (λ (q : Place). IsTimed (time_of q)) readers (λ q mq.
    time_timed q.end q.it.kind q.vars.cycle))))))

first_empty : (xs ys : List VarId) → xs ++ ys ≡ [] → xs ≡ []
first_empty [] ys h = refl
first_empty (x ∷ xs) ys h = absurd (cc h)

rest_empty : (xs ys : List VarId) → xs ++ ys ≡ [] → ys ≡ []
rest_empty [] ys h = h
rest_empty (x ∷ xs) ys h = absurd (cc h)

never_after : (us : List At) (t : ℕ) (x : List ℕ) → Each IsTimed us → vars_in at_vars us ≡ []
    → list_any (λ (u : At). nat_lt t (at_value u x)) us ≡ false
never_after [] t x timed none = refl
never_after (u ∷ us) t x timed none =
    let zero = timed.0 (first_empty (at_vars u) (vars_in at_vars us) none) x in
    let here : nat_lt t (at_value u x) ≡ false = grind (arith, nat_tests, zero) in
    ap (λ (b : Bool). b || list_any (λ (u : At). nat_lt t (at_value u x)) us) here
    ∙ never_after us t x timed.1 (rest_empty (at_vars u) (vars_in at_vars us) none)

and_false : (a b : Bool) → b ≡ false → (a && b) ≡ false
and_false true b h = h
and_false false b h = refl

none_live : (values : List Span) (t : ℕ) (x : List ℕ) → Each AreTimed values → vars_in span_vars values ≡ []
    → length (filter (is_live t x) values) ≡ 0
none_live [] t x timed none = refl
none_live (v ∷ vs) t x timed none =
    let own = first_empty (span_vars v) (vars_in span_vars vs) none in
    let uses = rest_empty (at_vars v.def) (vars_in at_vars v.uses) own in
    let no : is_live t x v ≡ false = and_false (nat_le (at_value v.def x) t) _ (never_after v.uses t x timed.0 uses) in
    ap (λ (b : Bool). length (cond b (v ∷ filter (is_live t x) vs) (filter (is_live t x) vs))) no
    ∙ none_live vs t x timed.1 (rest_empty (span_vars v) (vars_in span_vars vs) none)

roomy : (values : List Span) (room horizon : ℕ) → Each AreTimed values → vars_in span_vars values ≡ [] → (x : List ℕ)
    → live_holds values room horizon x ≡ true
roomy values room horizon timed none x = fits_holds values room horizon x
    (λ t lt. let zero = none_live values t x timed none in omega (arith, zero))

-- ---- constraints

module _ (n : ℕ) (pos : 0 < n) (most : ℕ) where
  span_known : (ps : List Place) (p : Place) (t : TempId) → Each (PlaceIn n pos) ps → PlaceIn n pos p
      → Within n pos (span_vars (span_of ps p t))
  span_known ps p t h g =
      let readers = filter (reads_value false t.0) ps in
      two_in n pos (at_vars (time_of p)) (vars_in at_vars (map time_of readers)) (time_in n pos p g)
      (each_in n pos at_vars (map time_of readers) (each_map (λ (u : At). Within n pos (at_vars u)) time_of readers
      (each_more (PlaceIn n pos) (λ (q : Place). Within n pos (at_vars (time_of q))) readers (λ q k. time_in n pos q k)
      (each_filter (PlaceIn n pos) (reads_value false t.0) ps h))))

  spans_known : (ps : List Place) → Each (PlaceIn n pos) ps → Each (λ (v : Span). Within n pos (span_vars v)) (spans_in ps)
  spans_known ps h = joined_each (λ (v : Span). Within n pos (span_vars v)) (own_spans ps) ps
      (each_more (PlaceIn n pos) (λ (p : Place). Each (λ (v : Span). Within n pos (span_vars v)) (own_spans ps p)) ps (λ p g.
      each_map (λ (v : Span). Within n pos (span_vars v)) (span_of ps p) p.it.results
      (each_of (λ (t : TempId). Within n pos (span_vars (span_of ps p t))) p.it.results (λ t mt. span_known ps p t h g))) h)

  live_is : (room : List ℕ) (horizon : ℕ) (ps : List Place) → Each (PlaceIn n pos) ps → IsSound n most (live_by room horizon ps)
  live_is room horizon ps h =
      let mandatory = with_kind is_mandatory ps in
      let values = spans_in mandatory in
      let known = each_filter (PlaceIn n pos) (λ (p : Place). is_mandatory p.it.kind) ps h in
      record {
        within = each_in n pos span_vars values (spans_known mandatory known);
        grounded = λ none x. roomy values (length room) horizon (spans_timed mandatory) none x;
        spans = omega arith;
      }

  pub pressure_are : (clobbered : ℕ) (arcs : List Arc) (room : List ℕ) (horizon : ℕ) (ps : List Place) → Each (PlaceIn n pos) ps
      → Each (IsSound n most) (pressure_by clobbered arcs room horizon ps)
  pressure_are clobbered arcs room horizon ps h =
      let calls = with_kind is_call_kind ps in (
        live_is room horizon ps h,
        each_map (IsSound n most) (across_by clobbered arcs room ps) calls
            (each_more (PlaceIn n pos) (λ (p : Place). IsSound n most (across_by clobbered arcs room ps p)) calls
            (λ p g. sound n pos most (across_by clobbered arcs room ps p) (or_in n pos p.vars.cycle g.cycle, tt) (λ e. cc e) refl)
            (each_filter (PlaceIn n pos) (λ (p : Place). is_call_kind p.it.kind) ps h)),
      )
