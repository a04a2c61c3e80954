-- What is added to a list, one part after another.
use Rattle.std.proofs.Common.{◌≡◌, List, ◌++◌, ap, ◌∙◌, append_assoc}

pub two_added : {A : Type 0} (old mid new xs ys : List A) → mid ≡ old ++ xs → new ≡ mid ++ ys → new ≡ old ++ (xs ++ ys)
two_added old mid new xs ys h k = k ∙ ap (λ zs. zs ++ ys) h ∙ append_assoc old xs ys

pub three_added : {A : Type 0} (old a b new xs ys zs : List A) → a ≡ old ++ xs → b ≡ a ++ ys → new ≡ b ++ zs
    → new ≡ old ++ (xs ++ (ys ++ zs))
three_added old a b new xs ys zs h k l = two_added old a new xs (ys ++ zs) h (two_added a b new ys zs k l)

pub four_added : {A : Type 0} (old a b c new ws xs ys zs : List A) → a ≡ old ++ ws → b ≡ a ++ xs → c ≡ b ++ ys → new ≡ c ++ zs
    → new ≡ old ++ (ws ++ (xs ++ (ys ++ zs)))
four_added old a b c new ws xs ys zs h k l m = two_added old a new ws (xs ++ (ys ++ zs)) h (three_added a b c new xs ys zs k l m)

pub five_added : {A : Type 0} (old a b c d new vs ws xs ys zs : List A) → a ≡ old ++ vs → b ≡ a ++ ws → c ≡ b ++ xs → d ≡ c ++ ys
    → new ≡ d ++ zs → new ≡ old ++ (vs ++ (ws ++ (xs ++ (ys ++ zs))))
five_added old a b c d new vs ws xs ys zs h k l m n =
    two_added old a new vs (ws ++ (xs ++ (ys ++ zs))) h (four_added a b c d new ws xs ys zs k l m n)
