-- What the first rule that numbers break says, and which cause a verdict or a bound is.
use Rattle.std.proofs.Common.{ℕ, ◌≡◌, ◌≤◌, ◌↔◌, ◌∙◌, Bool, IsTrue, nat_eq, List, [], ◌∷◌, Ok, Err, None, Some, MatchOption, OnOk, length, get_or, map, refl, sym, subst, arith}
use Rattle.std.proofs.lemmas.Bool.Decides.{nat_tests}
use Rattle.std.specs.declared.option.Option.{Option}
use Rattle.std.specs.declared.result.Result.{Result}
use Rattle.un_outside.specs.declared.status.NoCause.{NoCause}
use Rattle.un_outside.specs.declared.status.NoCause.TheVariants.{Strict, Split as Parted, Alive, Closed as Refuted, Short as Torn}
use Rattle.un_model.specs.Solutions.{IsSolution, ListsBroken, latency_gap}
use Rattle.un_model.specs.declared.model.Model.{Model}
use Rattle.un_model.specs.declared.model.Solution.{Solution}
use Rattle.un_model.specs.declared.verdict.Broken.{Broken}
use Rattle.un_emit.specs.Emitted.{IsEmitted}
use Rattle.un_packet.proofs.SameCode.{same_code}
use Rattle.un_packet.specs.declared.code.Code.{Code}
use Rattle.un_tree.specs.Waits.{Visit}
use Rattle.un_certificate.specs.Bounds.{IsBound}
use Rattle.un_certificate.proofs.Lowest.{bound_one}
use Rattle.un_check.specs.Causes.{Claim, limit_of, IsCause, IsFirstBroken, IsRightHead, IsTreeCause}

-- the first rule of a list that is not empty
pub first_clause : (xs ys : List Broken) (d : Broken) → xs ≡ ys → 1 ≤ length xs
    → (others : List ℕ) × (map (λ (b : Broken). b.clause) ys ≡ (get_or xs 0 d).clause ∷ others)
first_clause xs ys d e lt =
    subst (λ (zs : List Broken). (others : List ℕ) × (map (λ (b : Broken). b.clause) zs ≡ (get_or xs 0 d).clause ∷ others)) e (by xs lt)
  where
    by : (zs : List Broken) → 1 ≤ length zs
        → (others : List ℕ) × (map (λ (b : Broken). b.clause) zs ≡ (get_or zs 0 d).clause ∷ others)
    by [] lt = absurd (omega (arith, lt))
    by (z ∷ zs) lt = (map (λ (b : Broken). b.clause) zs, refl)

pub first_told : (m : Model) (s : Solution) (bs : List Broken) (o : Option ℕ)
    → ListsBroken (latency_gap m.ext.table) m.domains m s.values (map (λ (b : Broken). b.clause) bs) → (bs ≡ []) ↔ IsSolution m s
    → MatchOption o (bs ≡ []) (λ k. (others : List ℕ) × (map (λ (b : Broken). b.clause) bs ≡ k ∷ others))
    → MatchOption o (IsSolution m s) (IsFirstBroken m s)
first_told m s bs None lists solves h = solves.0 h
first_told m s bs (Some k) lists solves h = record {
  others = h.0;
  lists = subst (ListsBroken (latency_gap m.ext.table) m.domains m s.values) h.1 lists;
}

test_same : (a b : ℕ) → IsTrue (nat_eq a b) → a ≡ b
test_same a b e = grind (arith, nat_tests)

same_test : (a b : ℕ) → a ≡ b → IsTrue (nat_eq a b)
same_test a b e = grind (arith, nat_tests)

-- whether a number is the bound of a tree
pub bound_test : (m : Model) (c : ℕ) (ps : List Visit) (bound n : ℕ) → IsBound m c ps n → IsTrue (nat_eq bound n) ↔ IsBound m c ps bound
bound_test m c ps bound n is = (
  λ yes. subst (IsBound m c ps) (sym (test_same bound n yes)) is,
  λ b. same_test bound n (bound_one m c ps bound n b is),
)

-- a cause of the tree is one of the report where all before it is right
pub tree_cause : (name : List ℕ) (m : Model) (r : Claim) (c : NoCause) → IsRightHead name m r → IsTreeCause m (limit_of r.answer) r.tree c
    → IsCause name m r c
tree_cause name m r (Strict i) head x = (head, x)
tree_cause name m r (Parted i) head x = (head, x)
tree_cause name m r (Alive i) head x = (head, x)
tree_cause name m r (Refuted i) head x = (head, x)
tree_cause name m r Torn head x = (head, x)
tree_cause name m r _ head x = absurd x

pub on_ok : (r : Result (Unit {0}) NoCause) (P : Type 0) → P → OnOk r P
on_ok (Ok u) P p = p
on_ok (Err c) P p = tt

-- whether code is the one that values come to
pub emitted_test : (m : Model) (values : List ℕ) (emitted code : Code) (same : Bool) → IsEmitted m values emitted
    → IsTrue same ↔ (emitted ≡ code) → IsTrue same ↔ IsEmitted m values code
emitted_test m values emitted code same is test = (
  λ yes. subst (IsEmitted m values) (test.0 yes) is,
  λ own. test.1 (same_code emitted.frame code.frame emitted.blocks code.blocks (is.frame ∙ sym own.frame) (is.blocks ∙ sym own.blocks)
      emitted.rules code.rules),
)
