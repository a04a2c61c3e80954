use Rattle.std.proofs.Common.{ℕ, ◌≡◌, ◌∙◌, ◌+◌, ◌-◌, ◌||◌, Bool, true, false, List, [], ◌∷◌, ◌++◌, drop, map, refl, sym, ap, subst, arith}
use Rattle.std.specs.Prelude.{◌==◌, if◌then◌else◌, Option, Some, None, slice_get}
use Rattle.std.specs.List.{list_any}
use Rattle.std.specs.Option.{option_to_list}
use Rattle.std.proofs.lemmas.List.Folds.{list_any-append}
use Rattle.un_base.specs.declared.ids.TempId.{TempId}
use Rattle.un_ir.specs.Linear.{first_of}
use Rattle.un_ir.specs.declared.extended.Operand.{Operand}
use Rattle.un_model.proofs.Steps.{drop_at}
use Rattle.un_rooms.specs.Marked.{is_marked, MarksWhere}
use Rattle.un_rooms.proofs.Gathering.{got}
use Rattle.un_sites.specs.Crossings.{reads_value, is_carried, first_new, handed_by, handed}
use Rattle.un_sites.specs.Places.{Place}
use Rattle.un_sites.specs.Sites.{place_of}
use Rattle.un_rooms.proofs.carried.hand_all.Goals as goal

-- ---- tests that agree

any_alike : {A : Type 0} (f g : A → Bool) (xs : List A) → ((x : A) → f x ≡ g x) → list_any f xs ≡ list_any g xs
any_alike f g [] same = refl
any_alike f g (x ∷ xs) same = ap (λ (b : Bool). b || list_any f xs) (same x) ∙ ap (λ (b : Bool). g x || b) (any_alike f g xs same)

first_alike : (f g : ℕ → Bool) (xs : List Operand) → ((n : ℕ) → f n ≡ g n) → first_new f xs ≡ first_new g xs
first_alike f g [] same = refl
first_alike f g (x ∷ xs) same =
    ap (λ (b : Bool). if b then first_new f xs else Some (first_of x.alts)) (same (first_of x.alts))
    ∙ ap (λ (o : Option ℕ). if g (first_of x.alts) then o else Some (first_of x.alts)) (first_alike f g xs same)

handed_alike : (f g : ℕ → Bool) (p : Place) → ((n : ℕ) → f n ≡ g n) → handed_by f p ≡ handed_by g p
handed_alike f g p same =
    let gives : list_any (λ (t : TempId). f t.0) p.it.results ≡ list_any (λ (t : TempId). g t.0) p.it.results =
    any_alike (λ (t : TempId). f t.0) (λ (t : TempId). g t.0) p.it.results (λ t. same t.0) in
    ap (λ (b : Bool). if b then first_new f p.it.operands else None) gives
    ∙ ap (λ (o : Option ℕ). if list_any (λ (t : TempId). g t.0) p.it.results then o else None) (first_alike f g p.it.operands same)

-- ---- one operation more

or_after : (a b c : Bool) → ((a || b) || c) ≡ (a || (b || c))
or_after true b c = refl
or_after false b c = refl

handed_more : (r : Bool) (behind : List Place) (ns : List ℕ) (p : Place) (marks next : List Bool) → MarksWhere (is_carried r behind ns) marks
    → ((n : ℕ) → is_marked next n ≡ (is_marked marks n || list_any (λ (m : ℕ). m == n) (option_to_list (handed_by (is_marked marks) p))))
    → MarksWhere (is_carried r behind (ns ++ option_to_list (handed_by (is_carried r behind ns) p))) next
handed_more r behind ns p marks next h more n =
    let is : ℕ → Bool = λ (m : ℕ). m == n in
    let same = handed_alike (is_marked marks) (is_carried r behind ns) p h in
    let new : List ℕ = option_to_list (handed_by (is_carried r behind ns) p) in
    more n ∙ ap (λ (b : Bool). b || list_any is (option_to_list (handed_by (is_marked marks) p))) (h n)
    ∙ ap (λ (o : Option ℕ). is_carried r behind ns n || list_any is (option_to_list o)) same
    ∙ or_after (list_any (reads_value r n) behind) (list_any is ns) (list_any is new)
    ∙ ap (λ (b : Bool). list_any (reads_value r n) behind || b) (sym (list_any-append is ns new))

pub loop-j-preserved : goal.loop-j-preserved
loop-j-preserved c =
    let loose = c.args.loose.now in
    let j = c.loop-j.j - 1 in
    let x = c.index-loose-j.result in
    let at : slice_get loose j ≡ Some x = got loose j x (let t = c.loop-j-test.true in let w = c.loop-j.invariant.within in omega (arith, t, w))
    c.index-loose-j.is in
    let next : j + 1 ≡ c.loop-j.j = (let t = c.loop-j-test.true in omega (arith, t)) in
    let step : map place_of (drop j loose) ≡ place_of x ∷ map place_of (drop c.loop-j.j loose) =
    ap (map place_of) (drop_at loose j x at) ∙ ap (λ (k : ℕ). place_of x ∷ map place_of (drop k loose)) next in
    record {
      within = (let w = c.loop-j.invariant.within in omega (arith, w));
      is = λ r behind start n. subst (λ (qs : List Place). is_marked c.hand.new.marks.items n ≡ is_carried r behind (handed r behind qs) n)
          (sym step) (handed_more r behind (handed r behind (map place_of (drop c.loop-j.j loose))) (place_of x) c.loop-j.marks.items
          c.hand.new.marks.items (c.loop-j.invariant.is r behind start) c.in_ok-hand.ensures n);
    }
