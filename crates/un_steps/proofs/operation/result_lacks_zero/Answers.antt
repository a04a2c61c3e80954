use Rattle.std.proofs.Common.{Bool, ◌+◌, ◌||◌, sym, ap, ◌∙◌, drop}
use Rattle.std.specs.Prelude.{slice_get}
use Rattle.std.specs.List.{flat_map, list_any}
use Rattle.un_base.specs.declared.ids.TempId.{TempId}
use Rattle.un_steps.specs.Words.{reg_numbers}
use Rattle.un_steps.specs.Rules.{lacks_zero}
use Rattle.un_steps.proofs.Finding.{flat_more, hit, missed}
use Rattle.un_steps.proofs.operation.result_lacks_zero.Goals as goal

pub returns-then-register_lacks_zero : goal.returns-then-register_lacks_zero
returns-then-register_lacks_zero c =
    let m = c.args.m.now in
    let f = λ (x : TempId). reg_numbers (slice_get m.temps x.0) in
    let rest = list_any (lacks_zero c.args.s.now.sets) (flat_map f (drop (c.loop-j.j + 1) c.args.p.now.op.now.results)) in
    hit c.register_lacks_zero.result rest _ (sym c.loop-j.invariant ∙ flat_more (lacks_zero c.args.s.now.sets) f c.args.p.now.op.now.results c.loop-j.j
    c.get-x.result.now c.get-x.ensures ∙ ap (λ (b : Bool). b || rest) (sym c.register_lacks_zero.ensures)) c.if-register_lacks_zero.true

pub loop-j-preserved : goal.loop-j-preserved
loop-j-preserved c =
    let m = c.args.m.now in
    let f = λ (x : TempId). reg_numbers (slice_get m.temps x.0) in
    let rest = list_any (lacks_zero c.args.s.now.sets) (flat_map f (drop (c.loop-j.j + 1) c.args.p.now.op.now.results)) in
    missed c.register_lacks_zero.result rest _ (sym c.loop-j.invariant ∙ flat_more (lacks_zero c.args.s.now.sets) f c.args.p.now.op.now.results c.loop-j.j
    c.get-x.result.now c.get-x.ensures ∙ ap (λ (b : Bool). b || rest) (sym c.register_lacks_zero.ensures)) c.if-register_lacks_zero.false
