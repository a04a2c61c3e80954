-- What a block's operations say of its start and its end, found by loops.
use Rattle.std.proofs.Common.{◌≡◌, ℕ, ◌+◌, Bool, true, false, Option, Some, None, List, drop, slice_get, sym, ap, ◌∙◌}
use Rattle.std.specs.Prelude.{unwrap_or, if◌then◌else◌}
use Rattle.un_ir.specs.declared.function.Term.{Term}
use Rattle.un_ir.specs.declared.extended.ExtOp.{ExtOp}
use Rattle.un_ir.specs.Linear.{is_in}
use Rattle.un_model.specs.Congruences.{term_or, term_of, results_of_start, live_in_temps}
use Rattle.un_model.proofs.Steps.{drop_at}

pub term_found : (ops : List ExtOp) (k : ℕ) (op : ExtOp) (o : Option Term) (found : Term) → slice_get ops k ≡ Some op
    → ((later : Term) → unwrap_or o later ≡ term_or op.kind later) → o ≡ Some found → term_of (drop k ops) ≡ term_of ops
    → found ≡ term_of ops
term_found ops k op o found at h e so =
    let s : term_of (drop k ops) ≡ term_or op.kind (term_of (drop (k + 1) ops)) = ap term_of (drop_at ops k op at) in
    let f : found ≡ term_or op.kind (term_of (drop (k + 1) ops)) = sym
    (ap (λ (p : Option Term). unwrap_or p (term_of (drop (k + 1) ops))) e) ∙ h (term_of (drop (k + 1) ops)) in
    f ∙ sym s ∙ so

pub term_on : (ops : List ExtOp) (k : ℕ) (op : ExtOp) (o : Option Term) → slice_get ops k ≡ Some op
    → ((later : Term) → unwrap_or o later ≡ term_or op.kind later) → o ≡ None → term_of (drop k ops) ≡ term_of ops
    → term_of (drop (k + 1) ops) ≡ term_of ops
term_on ops k op o at h e so =
    let s : term_of (drop k ops) ≡ term_or op.kind (term_of (drop (k + 1) ops)) = ap term_of (drop_at ops k op at) in
    sym (ap (λ (p : Option Term). unwrap_or p (term_of (drop (k + 1) ops))) e) ∙ h (term_of (drop (k + 1) ops)) ∙ sym s ∙ so

pub start_found : (ops : List ExtOp) (k : ℕ) (op : ExtOp) (t : Bool) → slice_get ops k ≡ Some op
    → t ≡ is_in op.kind → t ≡ true
    → live_in_temps (drop k ops) ≡ live_in_temps ops → op.results ≡ live_in_temps ops
start_found ops k op t at h e so =
    let s : live_in_temps (drop k ops) ≡ results_of_start op.kind op.results (live_in_temps (drop (k + 1) ops)) = ap live_in_temps
    (drop_at ops k op at) in
    sym (ap (λ (b : Bool). if b then op.results else live_in_temps (drop (k + 1) ops)) e) ∙ ap
    (λ (b : Bool). if b then op.results else live_in_temps (drop (k + 1) ops)) h ∙ sym s ∙ so

pub start_on : (ops : List ExtOp) (k : ℕ) (op : ExtOp) (t : Bool) → slice_get ops k ≡ Some op
    → t ≡ is_in op.kind → t ≡ false
    → live_in_temps (drop k ops) ≡ live_in_temps ops → live_in_temps (drop (k + 1) ops) ≡ live_in_temps ops
start_on ops k op t at h e so =
    let s : live_in_temps (drop k ops) ≡ results_of_start op.kind op.results (live_in_temps (drop (k + 1) ops)) = ap live_in_temps
    (drop_at ops k op at) in
    sym (ap (λ (b : Bool). if b then op.results else live_in_temps (drop (k + 1) ops)) e) ∙ ap
    (λ (b : Bool). if b then op.results else live_in_temps (drop (k + 1) ops)) h ∙ sym s ∙ so
