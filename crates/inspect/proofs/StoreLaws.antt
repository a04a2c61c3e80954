-- A new store has a value of each variable.
use Rattle.std.proofs.Common.{ℕ, ◌≡◌, ◌<◌, ◌≤◌, ◌+◌, ◌-◌, List, [], length, map, All, IfOk, Ok, Err, sym, ap, subst}
use Rattle.std.proofs.Common.{arith}
use Rattle.std.specs.declared.result.Result.{Result}
use Rattle.std.proofs.lemmas.List.{get_or-map, length-map}
use Rattle.std.proofs.lemmas.List.FromFn.{length-range_with_len, get_or-range_with_len}
use Rattle.un_domains.specs.declared.domain.Domain.{Domain}
use Rattle.un_domains.specs.declared.domain.Domain.TheVariants.{Range}
use Rattle.un_domains.specs.Domains.{IsDomain, values_of}
use Rattle.un_domains.specs.Cuts.{Contents}
use Rattle.un_domains.specs.Sets.{Sets, set_at, NoneEmpty}

pub full : (ds : List Domain) (d : Domain) → All IsDomain ds → (s : Sets) → s ≡ map values_of ds → NoneEmpty s
full ds d all s e v lt =
    let below : v < length ds = omega (arith, lt, ap length e, length-map ds values_of) in
    let some = (all v d below).some in
    subst (λ (u : Sets). 0 < length (set_at u v)) (sym e)
    (subst (λ (xs : List ℕ). 0 < length xs) (sym (get_or-map values_of ds v d [] below)) some)

pub new_full : {E : Type 0} (ds : List Domain) (d : Domain) → All IsDomain ds → (r : Result Contents E) → IfOk r
    (λ s. s.sets ≡ map values_of ds) → IfOk r (λ s. NoneEmpty s.sets)
new_full ds d all (Ok s) h = full ds d all s.sets h
new_full ds d all (Err e) h = h

-- a range that has a value is a domain
pub range_is : (lo hi : ℕ) → lo ≤ hi → hi < 10000 → IsDomain (Range lo hi)
range_is lo hi le small = record {
  rises = λ i j lt below.
      (let n = length-range_with_len lo (hi + 1 - lo) in
      let a = get_or-range_with_len lo (hi + 1 - lo) i 0 (omega (arith, lt, below, n)) in
      let b = get_or-range_with_len lo (hi + 1 - lo) j 0 (omega (arith, below, n)) in
      omega (arith, a, b, lt));
  some = omega (arith, length-range_with_len lo (hi + 1 - lo), le);
  few = omega (arith, length-range_with_len lo (hi + 1 - lo), small);
}
