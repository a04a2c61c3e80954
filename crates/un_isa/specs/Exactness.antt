-- Equal registers and instructions are identical.
use Rattle.std.proofs.Common.{ℕ, ℤ, ◌≡◌, ◌-◌, Bool, true, false, ◌&&◌, List, [], ◌∷◌, ◌++◌, length, replicate, Option, Some, None, nat_eq}
use Rattle.std.proofs.Common.{refl, rules, ap, arith}
use Rattle.std.proofs.lemmas.Bool.Decides.{nat_tests}
use Rattle.std.proofs.lemmas.Bool.Decides.{Decides-int_eq}
use denote.Enum.Bare.{sameb, same_true, true_same}
use Rattle.std.specs.Cmp.Lexicographic.{pointwise}
use Rattle.std.specs.Option.{option_eq}
use Rattle.std.specs.Ordering.{int_eq}
use Rattle.un_lists.specs.Exactness.{list_exact, list_reflexive}
use Rattle.un_base.specs.declared.name.TheConstants.{NAME_BYTES}
use Rattle.un_isa.specs.declared.op.Op.{Op}
use Rattle.un_isa.specs.contracts.op.Op.{the_type}
use Rattle.un_isa.specs.declared.reg.Reg.{Reg}
use Rattle.un_isa.specs.declared.instr.Instr.{Instr}

both : (b c : Bool) → (b && c) ≡ true → (b ≡ true) × (c ≡ true)
both true c h = (refl, h)
both false c h = absurd (cc h)

-- what == says where it is identity
abbrev pub Identifies : (A : Type 0) → (A → A → Bool) → Type 0
Identifies A same = (a b : A) → same a b ≡ true → a ≡ b

abbrev pub Accepts : (A : Type 0) → (A → A → Bool) → Type 0
Accepts A same = (a : A) → same a a ≡ true

nat_exact : (m n : ℕ) → nat_eq m n ≡ true → m ≡ n
nat_exact m n h = grind (arith, nat_tests)

nat_same : (m : ℕ) → nat_eq m m ≡ true
nat_same m = grind (arith, nat_tests)

pub reg_exact : (a b : Reg) → nat_eq a.0 b.0 ≡ true → a ≡ b
reg_exact a b h = ap (λ (n : ℕ). record { 0 = n }) (nat_exact a.0 b.0 h)

pub reg_reflexive : (a : Reg) → nat_eq a.0 a.0 ≡ true
reg_reflexive a = nat_same a.0

option_exact : {A : Type 0} (same : A → A → Bool) → Identifies A same → Identifies (Option A) (option_eq same)
option_exact same f None None h = refl
option_exact same f None (Some b) h = absurd (cc h)
option_exact same f (Some a) None h = absurd (cc h)
option_exact same f (Some a) (Some b) h = ap Some (f a b h)

option_reflexive : {A : Type 0} (same : A → A → Bool) → Accepts A same → Accepts (Option A) (option_eq same)
option_reflexive same f None = refl
option_reflexive same f (Some a) = f a

int_exact : (a b : ℤ) → int_eq a b ≡ true → a ≡ b
int_exact a b h = grind (arith, Decides-int_eq a b)

int_reflexive : (a : ℤ) → int_eq a a ≡ true
int_reflexive a = grind (arith, Decides-int_eq a a)

-- names: their bytes with zeros after them up to the most bytes of a name, and their lengths
front : (a b pad_a pad_b : List ℕ) → a ++ pad_a ≡ b ++ pad_b → length a ≡ length b → a ≡ b
front [] [] p q e l = refl
front [] (y ∷ b) p q e l = absurd (omega (arith, l))
front (x ∷ a) [] p q e l = absurd (omega (arith, l))
front (x ∷ a) (y ∷ b) p q e l =
    let first : x ≡ y = cc e in
    let rest = front a b p q (cc e) (omega (arith, l)) in cc

abbrev pub padded : List ℕ → List ℕ
padded a = a ++ replicate (NAME_BYTES - length a) 0

abbrev pub padded_same : List ℕ → List ℕ → Bool
padded_same a b = pointwise nat_eq (padded a) (padded b) && nat_eq (length a) (length b)

name_exact : Identifies (List ℕ) padded_same
name_exact a b h =
    let parts = both (pointwise nat_eq (padded a) (padded b)) (nat_eq (length a) (length b)) h in
    front a b _ _ (list_exact nat_eq nat_exact _ _ parts.0) (nat_exact _ _ parts.1)

name_reflexive : Accepts (List ℕ) padded_same
name_reflexive a = rw (list_reflexive nat_eq nat_same (padded a)) (nat_same (length a))

op_exact : Identifies Op (sameb the_type)
op_exact a b h = same_true the_type (search rules) a b h

op_reflexive : Accepts Op (sameb the_type)
op_reflexive a = true_same the_type a a refl

-- field by field
abbrev made : Op → Option Reg → List Reg → ℤ → Option (List ℕ) → Instr
made o d s n l = record { op = o; dst = d; srcs = s; imm = n; label = l }

made_same : (o p : Op) (d e : Option Reg) (s t : List Reg) (m n : ℤ) (k l : Option (List ℕ)) → o ≡ p → d ≡ e → s ≡ t → m ≡ n → k ≡ l
    → made o d s m k ≡ made p e t n l
made_same o p d e s t m n k l h1 h2 h3 h4 h5 = rw (h1, h2, h3, h4, h5) refl

pub instr_exact : (a b : Instr) → (sameb the_type a.op b.op && (option_eq (λ (r q : Reg). nat_eq r.0 q.0) a.dst b.dst &&
    (pointwise (λ (r q : Reg). nat_eq r.0 q.0) a.srcs b.srcs && (int_eq a.imm b.imm && option_eq padded_same a.label b.label)))) ≡ true
    → a ≡ b
instr_exact a b h =
    let s1 = both _ _ h in
    let s2 = both _ _ s1.1 in
    let s3 = both _ _ s2.1 in
    let s4 = both _ _ s3.1 in
    let e1 = op_exact a.op b.op s1.0 in
    let e2 = option_exact (λ (r q : Reg). nat_eq r.0 q.0) reg_exact a.dst b.dst s2.0 in
    let e3 = list_exact (λ (r q : Reg). nat_eq r.0 q.0) reg_exact a.srcs b.srcs s3.0 in
    let e4 = int_exact a.imm b.imm s4.0 in
    let e5 = option_exact padded_same name_exact a.label b.label s4.1 in
    made_same _ _ _ _ _ _ _ _ _ _ e1 e2 e3 e4 e5

pub instr_reflexive : (a : Instr) → (sameb the_type a.op a.op && (option_eq (λ (r q : Reg). nat_eq r.0 q.0) a.dst a.dst &&
    (pointwise (λ (r q : Reg). nat_eq r.0 q.0) a.srcs a.srcs && (int_eq a.imm a.imm && option_eq padded_same a.label a.label)))) ≡ true
instr_reflexive a = rw (
  op_reflexive a.op,
  option_reflexive (λ (r q : Reg). nat_eq r.0 q.0) reg_reflexive a.dst,
  list_reflexive (λ (r q : Reg). nat_eq r.0 q.0) reg_reflexive a.srcs,
  int_reflexive a.imm,
)
    (option_reflexive padded_same name_reflexive a.label)
