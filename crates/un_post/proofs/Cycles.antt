-- The cycle of an operation is in its domain.
use Rattle.std.proofs.Common.{ℕ, ◌≡◌, ◌+◌, Bool, List, ◌++◌, length, map, refl, ap, subst, arith}
use Rattle.std.specs.Prelude.{Option, Some, slice_get, slice_index}
use Rattle.std.specs.Option.{option_to_list}
use Rattle.un_ir.specs.declared.extended.ExtKind.{ExtKind}
use Rattle.un_ir.specs.declared.extended.ExtKind.TheVariants.{In, Out, Body, End, Copy, Enter, Leave}
use Rattle.un_ir.specs.declared.extended.Ext.{Ext}
use Rattle.un_domains.specs.declared.domain.Domain.{Domain}
use Rattle.un_model.specs.declared.model.Options.{Options}
use Rattle.un_model.specs.Pairs.{places_from}
use Rattle.un_model.specs.Solutions.{InDomain}
use Rattle.un_ir.specs.Kinds.{is_optional}
use Rattle.un_model.specs.Variables.{count_if, cycle_place, chosen_operands, choice_domain, carries_truth, instr_domain}
use Rattle.un_model.specs.Variables.{cycle_domain, result_domain, own_horizon}
use Rattle.un_model.proofs.Placed.{Placed}
use Rattle.un_model.proofs.OpDomains.{InDomains, sits_left, sits_right}

length_instr : (truth : Bool) (kind : ExtKind) → length (option_to_list (instr_domain truth kind)) ≡ count_if (is_optional kind)
length_instr truth In = refl
length_instr truth Out = refl
length_instr truth (Body so) = refl
length_instr truth (End term) = refl
length_instr truth (Copy node) = refl
length_instr truth Enter = refl
length_instr truth Leave = refl

pub cycle_sits : (e : Ext) (o : Options) (x : List ℕ) (ie : Bool) (q : Placed) (d : Domain) → InDomains e o x ie q
    → cycle_domain (own_horizon q.owner) q.op.kind ≡ Some d
    → InDomain (slice_index x (q.first + cycle_place q.op)) d
cycle_sits e o x ie q d h at =
    let truth = carries_truth e q.owner q.op q.op.results in
    let a = option_to_list (instr_domain truth q.op.kind) in
    let b = option_to_list (cycle_domain (own_horizon q.owner) q.op.kind) in
    let c = map choice_domain (chosen_operands q.op) in
    let r = places_from (result_domain e o ie q.owner q.op) 0 q.op.results in
    let first : slice_get b 0 ≡ Some d = ap (λ (y : Option Domain). slice_get (option_to_list y) 0) at in
    let n = length_instr truth q.op.kind in
    let z : q.first + cycle_place q.op + 0 ≡ q.first + cycle_place q.op = omega arith in
    subst (λ k. InDomain (slice_index x k) d) z
    (sits_right x a b q.first (q.first + cycle_place q.op) (omega arith)
    (sits_left x (a ++ b) c q.first (sits_left x (a ++ b ++ c) r q.first h.all)) 0 d first)
