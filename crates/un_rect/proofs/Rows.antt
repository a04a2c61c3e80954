-- One step further in a row, and one row further.
use Rattle.std.proofs.Common.{ℕ, zero, suc, ◌≡◌, ◌≢◌, ◌<◌, ◌≤◌, ◌+◌, ◌-◌, true, List, length, get_or, refl, sym, ap}
use Rattle.std.proofs.Common.{◌∙◌, subst, arith, Some}
use Rattle.std.proofs.lemmas.List.{get_or_default}
use Rattle.std.specs.declared.option.Option.{Option}
use Rattle.un_base.specs.declared.ids.VarId.{VarId}
use Rattle.un_domains.specs.Sets.{Sets, NoneEmpty}
use Rattle.un_domains.specs.Cuts.{Contents}
use Rattle.un_prop.specs.Among.{among}
use Rattle.un_prop.specs.Going.{Stepped}
use Rattle.un_prop.specs.GoingLaws.{stepped_by, stepped_chain, stepped_same}
use Rattle.un_prop.specs.LastLaws.{Ascend}
use Rattle.un_prop.specs.Places.{each_place}
use Rattle.un_prop.specs.Rounds.{HasVars}
use Rattle.un_prop.specs.declared.act.Temp.{Temp}
use Rattle.un_prop.specs.declared.act.UserOf.{UserOf}
use Rattle.un_prop.specs.declared.propagator.Pruned.{Pruned}
use Rattle.un_prop.specs.declared.propagator.Pruned.TheVariants.{Failed}
use Rattle.un_rect.specs.Checks.{Written}
use Rattle.un_rect.specs.Spans.{TempVars, UserVars}
use Rattle.un_rect.specs.Pairs.{at_place, each_before, each_pair}
use Rattle.un_rect.specs.PairLaws.{at_is}

-- what holds of the list of variables holds of the same list after some steps

pub same_ascend : (vs us : List VarId) → us ≡ vs → Ascend vs → Ascend us
same_ascend vs us e h = subst Ascend (sym e) h

pub same_temp : (vs us : List VarId) (a : Temp) → us ≡ vs → TempVars vs a → TempVars us a
same_temp vs us a e h = subst (λ (ws : List VarId). TempVars ws a) (sym e) h

pub same_user : (vs us : List VarId) (u : UserOf) → us ≡ vs → UserVars vs u → UserVars us u
same_user vs us u e h = subst (λ (ws : List VarId). UserVars ws u) (sym e) h

pub same_among : (vs us : List VarId) (v : VarId) → us ≡ vs → among vs v ≡ true → among us v ≡ true
same_among vs us v e h = subst (λ (ws : List VarId). among ws v ≡ true) (sym e) h

pub same_known : (vs us : List VarId) (old new : Sets) → us ≡ vs → length new ≡ length old → HasVars vs old → HasVars us new
same_known vs us old new e long h = subst (λ (ws : List VarId). HasVars ws new) (sym e)
    (λ i d lt. (let known = h i d lt in omega (arith, known, long)))

pub same_written : (vs us : List VarId) (s : Sets) (fixed : List ℕ) (did : Pruned) → us ≡ vs → (did ≢ Failed → Written vs s fixed)
    → did ≢ Failed → Written us s fixed
same_written vs us s fixed did e h going = subst (λ (ws : List VarId). Written ws s fixed) (sym e) (h going)

pub row_next : (f : Temp → Temp → Sets → Option Sets) (temps : List Temp) (a b : Temp) (i : ℕ) (vs us : List VarId) (old mid new : Contents)
    (before did after : Pruned)
    → us ≡ vs → a ≡ get_or temps i a → i < length temps → Stepped vs (each_before f temps b i) old mid before did → Stepped us (f a b) mid
    new did after
    → Stepped vs (each_before f temps b (i + 1)) old new before after
row_next f temps a b i vs us old mid new before did after e is lt p q =
    let one = stepped_by us (at_place (λ c. f c b) temps i) (f a b) mid new did after
    (λ live. at_is (λ c. f c b) temps i a mid.sets lt ∙ ap (λ (c : Temp). f c b mid.sets) (sym is)) q in
    let next : suc i ≡ i + 1 = omega arith in
    subst (λ (k : ℕ). Stepped vs (each_before f temps b k) old new before after) next
    (stepped_chain vs (each_before f temps b i) (at_place (λ c. f c b) temps i) old mid new before did after p
    (subst (λ (ws : List VarId). Stepped ws (at_place (λ c. f c b) temps i) mid new did after) e one))

pub rows_next : (f : Temp → Temp → Sets → Option Sets) (temps : List Temp) (b : Temp) (j : ℕ) (vs us : List VarId) (old mid new : Contents)
    (before did after : Pruned)
    → us ≡ vs → b ≡ get_or temps j b → j < length temps → Stepped vs (each_pair f temps j) old mid before did
    → Stepped us (each_before f temps b j) mid new did after
    → Stepped vs (each_pair f temps (j + 1)) old new before after
rows_next f temps b j vs us old mid new before did after e is lt p q =
    let row = λ (c : Temp). each_before f temps c j in
    let one = stepped_by us (at_place row temps j) (row b) mid new did after
    (λ live. at_is row temps j b mid.sets lt ∙ ap (λ (c : Temp). row c mid.sets) (sym is)) q in
    let next : suc j ≡ j + 1 = omega arith in
    subst (λ (k : ℕ). Stepped vs (each_pair f temps k) old new before after) next
    (stepped_chain vs (each_pair f temps j) (at_place row temps j) old mid new before did after p
    (subst (λ (ws : List VarId). Stepped ws (at_place row temps j) mid new did after) e one))

pub place_next : {A : Type 0} (f : A → Sets → Option Sets) (xs : List A) (a : A) (i : ℕ) (vs us : List VarId) (old mid new : Contents)
    (before did after : Pruned)
    → us ≡ vs → a ≡ get_or xs i a → i < length xs → Stepped vs (each_place (at_place f xs) i) old mid before did → Stepped us (f a) mid new
    did after
    → Stepped vs (each_place (at_place f xs) (i + 1)) old new before after
place_next f xs a i vs us old mid new before did after e is lt p q =
    let one = stepped_by us (at_place f xs i) (f a) mid new did after
    (λ live. at_is f xs i a mid.sets lt ∙ ap (λ c. f c mid.sets) (sym is)) q in
    let next : suc i ≡ i + 1 = omega arith in
    subst (λ (k : ℕ). Stepped vs (each_place (at_place f xs) k) old new before after) next
    (stepped_chain vs (each_place (at_place f xs) i) (at_place f xs i) old mid new before did after p
    (subst (λ (ws : List VarId). Stepped ws (at_place f xs i) mid new did after) e one))

-- places at which nothing is cut are passed over
module _ (f : Temp → Temp → Sets → Option Sets) (temps : List Temp) (b d : Temp) (vs : List VarId) (old new : Contents)
    (before did : Pruned) (i : ℕ) (p : Stepped vs (each_before f temps b i) old new before did) where
  skip_by : (m : ℕ) → i + m ≤ length temps
      → ((k : ℕ) → i ≤ k → k < i + m → NoneEmpty new.sets → f (get_or temps k d) b new.sets ≡ Some new.sets)
      → Stepped vs (each_before f temps b (i + m)) old new before did
  skip_by zero few stays = (let e : i ≡ i + 0 = omega arith in
      subst (λ (k : ℕ). Stepped vs (each_before f temps b k) old new before did) e p)
  skip_by (suc m) few stays =
      let lt : i + m < length temps = omega (arith, few) in
      let e : (i + m) + 1 ≡ i + suc m = omega arith in
      let a = get_or temps (i + m) d in
      subst (λ (k : ℕ). Stepped vs (each_before f temps b k) old new before did) e
      (row_next f temps a b (i + m) vs vs old new new before did did refl (get_or_default temps (i + m) d a lt) lt
      (skip_by m (omega (arith, few)) (λ k le below. stays k le (omega (arith, below))))
      (stepped_same vs (f a b) new did (stays (i + m) (omega arith) (omega arith))))

  pub row_skip : (n : ℕ) → i ≤ n → n ≤ length temps
      → ((k : ℕ) → i ≤ k → k < n → NoneEmpty new.sets → f (get_or temps k d) b new.sets ≡ Some new.sets)
      → Stepped vs (each_before f temps b n) old new before did
  row_skip n le few stays =
      let e : i + (n - i) ≡ n = omega (arith, le) in
      subst (λ (k : ℕ). Stepped vs (each_before f temps b k) old new before did) e
      (skip_by (n - i) (omega (arith, le, few)) (λ k low below. stays k low (omega (arith, le, below))))
