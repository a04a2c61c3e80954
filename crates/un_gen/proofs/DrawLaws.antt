-- Draws: the next state as it is computed, and the bound of an answer.
use Rattle.std.proofs.Common.{◌≡◌, ℕ, suc, ◌+◌, ◌*◌, ◌/◌, ◌%◌, ◌^◌, ◌<◌, ap}
use Rattle.std.proofs.Math.Nat.{mod-add-mod}
use Rattle.std.proofs.lemmas.Nat.{mod_below}
use Rattle.un_gen.specs.Draws.{next, answer, after, drawn}
use Rattle.un_gen.specs.declared.draws.TheConstants.{FACTOR, STEP}

pub next_is : (s : ℕ) → ((s * FACTOR) % 2 ^ 64 + STEP) % 2 ^ 64 ≡ next s
unfolding next
next_is s = mod-add-mod (s * FACTOR) (2 ^ 64) STEP

pub answer_is : (s m : ℕ) → (((s * FACTOR) % 2 ^ 64 + STEP) % 2 ^ 64 / 2 ^ 33) % m ≡ drawn 0 m s
unfolding next answer
answer_is s m = ap (λ (t : ℕ). (t / 2 ^ 33) % m) (mod-add-mod (s * FACTOR) (2 ^ 64) STEP)

answer_below : (m s : ℕ) → 0 < m → answer m s < m
unfolding answer
answer_below m s some = mod_below (s / 2 ^ 33) m some

pub drawn_below : (draws m s : ℕ) → 0 < m → drawn draws m s < m
drawn_below draws m s some = answer_below m (after (suc draws) s) some
