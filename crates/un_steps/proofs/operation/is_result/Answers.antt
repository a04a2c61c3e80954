use Rattle.std.proofs.Common.{Bool, ◌+◌, ◌||◌, sym, ap, ◌∙◌, drop, nat_eq}
use Rattle.std.specs.Prelude.{slice_get}
use Rattle.std.specs.List.{flat_map, list_any}
use Rattle.un_base.specs.declared.ids.TempId.{TempId}
use Rattle.un_steps.specs.Words.{reg_numbers}
use Rattle.un_steps.proofs.Finding.{flat_more, hit, missed}
use Rattle.un_steps.proofs.operation.is_result.Goals as goal

pub returns-then-is_register : goal.returns-then-is_register
returns-then-is_register c =
    let m = c.args.m.now in
    let f = λ (x : TempId). reg_numbers (slice_get m.temps x.0) in
    let rest = list_any (nat_eq c.args.v.0) (flat_map f (drop (c.loop-j.j + 1) c.args.p.now.op.now.results)) in
    hit c.is_register.result rest _ (sym c.loop-j.invariant ∙ flat_more (nat_eq c.args.v.0) f c.args.p.now.op.now.results c.loop-j.j
    c.get-x.result.now c.get-x.ensures ∙ ap (λ (b : Bool). b || rest) (sym c.is_register.ensures)) c.if-is_register.true

pub loop-j-preserved : goal.loop-j-preserved
loop-j-preserved c =
    let m = c.args.m.now in
    let f = λ (x : TempId). reg_numbers (slice_get m.temps x.0) in
    let rest = list_any (nat_eq c.args.v.0) (flat_map f (drop (c.loop-j.j + 1) c.args.p.now.op.now.results)) in
    missed c.is_register.result rest _ (sym c.loop-j.invariant ∙ flat_more (nat_eq c.args.v.0) f c.args.p.now.op.now.results c.loop-j.j
    c.get-x.result.now c.get-x.ensures ∙ ap (λ (b : Bool). b || rest) (sym c.is_register.ensures)) c.if-is_register.false
