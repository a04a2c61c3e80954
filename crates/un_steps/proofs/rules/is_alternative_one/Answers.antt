use Rattle.std.proofs.Common.{sym, ◌∙◌}
use Rattle.std.specs.Prelude.{slice_get}
use Rattle.un_base.specs.declared.ids.TempId.{TempId}
use Rattle.un_steps.specs.Found.{operation_of}
use Rattle.un_steps.specs.Rules.{AreOneRegister}
use Rattle.un_steps.proofs.Looks.{only_at, none_at}
use Rattle.un_steps.proofs.rules.is_alternative_one.Goals as goal

pub returns-in-None : goal.returns-in-None
returns-in-None c =
    let b = c.args.b.now in let a = c.args.a.now in
    none_at (slice_get b.alts c.args.i) (λ (z : TempId). AreOneRegister c.args.m.now c.args.s.now.sets (operation_of c.args.p.now) a.at a.temp
    c.args.k z) (sym c.temp_at.ensures ∙ c.in-None.is)

pub returns-in-Some : goal.returns-in-Some
returns-in-Some c =
    let b = c.args.b.now in let a = c.args.a.now in
    only_at (slice_get b.alts c.args.i) (λ (z : TempId). AreOneRegister c.args.m.now c.args.s.now.sets (operation_of c.args.p.now) a.at a.temp
    c.args.k z) c.in-Some.z c.are_one_at.result (sym c.temp_at.ensures ∙ c.in-Some.is) c.are_one_at.ensures
