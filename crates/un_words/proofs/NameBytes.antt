-- Names are equal where their bytes with zeros to their full number, and their lengths, are.
use Rattle.std.proofs.Common.{◌≡◌, ℕ, ◌-◌, ◌++◌, ◌&&◌, Bool, true, false, nat_eq, List, length, take, replicate, refl, sym, ap, ◌∙◌}
use Rattle.std.specs.Str.{bytes_eq}
use Rattle.std.proofs.Math.Seq.{take-append_seam}
use Rattle.std.proofs.lemmas.Slice.Eq.{bytes_eq-Decides}
use Rattle.std.proofs.lemmas.Bool.Decides.{Decides-eqb}
use Rattle.std.proofs.lemmas.Bool.{and_parts}

-- the bytes of a name with zeros to their full number
abbrev pub padded : List ℕ → List ℕ
padded bs = bs ++ replicate (32 - length bs) 0

pub same_truth : (p q : Bool) → (p ≡ true → q ≡ true) → (q ≡ true → p ≡ true) → p ≡ q
same_truth true q f g = sym (f refl)
same_truth false true f g = g refl
same_truth false false f g = refl

front_of : (a b : List ℕ) → padded a ≡ padded b → length a ≡ length b → a ≡ b
front_of a b same long =
    sym (take-append_seam a (replicate (32 - length a) 0)) ∙ ap (take (length a)) same ∙ ap (λ (n : ℕ). take n (padded b)) long
    ∙ take-append_seam b (replicate (32 - length b) 0)

pub padded_eq : (a b : List ℕ) → (bytes_eq (padded a) (padded b) && nat_eq (length a) (length b)) ≡ bytes_eq a b
padded_eq a b = same_truth _ _ forward backward
  where
    forward : (bytes_eq (padded a) (padded b) && nat_eq (length a) (length b)) ≡ true → bytes_eq a b ≡ true
    forward h =
        let parts = and_parts _ _ h in
        (bytes_eq-Decides a b).1 (front_of a b ((bytes_eq-Decides (padded a) (padded b)).0 parts.0)
        ((Decides-eqb (length a) (length b)).0 parts.1))

    backward : bytes_eq a b ≡ true → (bytes_eq (padded a) (padded b) && nat_eq (length a) (length b)) ≡ true
    backward h =
        let e = (bytes_eq-Decides a b).0 h in
        rw e (ap (λ (x : Bool). x && nat_eq (length b) (length b)) ((bytes_eq-Decides (padded b) (padded b)).1 refl)
        ∙ (Decides-eqb (length b) (length b)).1 refl)
