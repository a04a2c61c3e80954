-- What is read or written in pieces.
use Rattle.std.proofs.Common.{drop-drop, ◌≡◌, ℕ, ◌+◌, ◌-◌, ◌≤◌, List, ◌++◌, sym, ap, ◌∙◌, length, take, drop, subst, take-append-drop}
use Rattle.std.proofs.Common.{arith, take_all, length-drop, take-add, length-take-le}
use Rattle.std.proofs.Math.Seq.{take-append_seam}
use Rattle.std.specs.declared.option.Option.{Option}
use Rattle.std.specs.Io.KnownBytes.{Keeps, Appends}
use Rattle.std.proofs.KnownBytes.{Appends-trans, Appends-kept}
use Rattle.un_outside.specs.Causes.{AppendsPrefix}

-- a failed call leaves the front that was there
pub prefix_kept : (a b c : Option (List ℕ)) (n : ℕ) (bs : List ℕ) → Appends a b (take n bs) → Keeps b c → AppendsPrefix a c bs
prefix_kept a b c n bs p q = (take n bs, drop n bs, take-append-drop n bs, Appends-kept a b c _ p q)

-- `&bs[n..]`
abbrev pub rest_of : ℕ → List ℕ → List ℕ
rest_of n bs = take (length bs - n) (drop n bs)

pub rest_of-drop : (n : ℕ) (bs : List ℕ) → rest_of n bs ≡ drop n bs
rest_of-drop n bs = take_all (length bs - n) (drop n bs) (omega (arith, length-drop n bs))

pub length-rest_of : (n : ℕ) (bs : List ℕ) → length (rest_of n bs) ≡ length bs - n
length-rest_of n bs = ap length (rest_of-drop n bs) ∙ length-drop n bs

-- a call that takes m more bytes appends the front that is so much longer
pub front_longer : (a b c : Option (List ℕ)) (n m : ℕ) (bs : List ℕ) → Appends a b (take n bs) → Appends b c (take m (rest_of n bs))
    → Appends a c (take (n + m) bs)
front_longer a b c n m bs p q =
    let r = subst (λ (xs : List ℕ). Appends b c (take m xs)) (rest_of-drop n bs) q in
    subst (Appends a c) (sym (take-add n m bs)) (Appends-trans a b c _ _ p r)

-- and a front of the whole
pub prefix_longer : (a b c : Option (List ℕ)) (n m : ℕ) (bs : List ℕ) → Appends a b (take n bs) → Appends b c (take m (rest_of n bs))
    → AppendsPrefix a c bs
prefix_longer a b c n m bs p q = (take (n + m) bs, drop (n + m) bs, take-append-drop (n + m) bs, front_longer a b c n m bs p q)

-- a copy of the front, of n bytes
pub front_read : (bs buf copied : List ℕ) (at n : ℕ) → n ≤ length (rest_of at bs) → copied ≡ take n (rest_of at bs)
    → drop at bs ≡ take n (copied ++ drop n buf) ++ drop (at + n) bs
front_read bs buf copied at n some copy =
    let whole = rest_of-drop at bs in
    let long : length copied ≡ n = ap length copy ∙ length-take-le n (rest_of at bs) some in
    let same : copied ≡ take n (drop at bs) = copy ∙ ap (take n) whole in
    let front : take n (copied ++ drop n buf) ≡ copied = subst (λ (m : ℕ). take m (copied ++ drop n buf) ≡ copied) long
    (take-append_seam copied (drop n buf)) in
    sym (ap (λ (xs : List ℕ). xs ++ drop (at + n) bs) (front ∙ same)
    ∙ ap (λ (xs : List ℕ). take n (drop at bs) ++ xs) (sym (drop-drop n at bs)) ∙ take-append-drop n (drop at bs))
