use Rattle.std.proofs.Common.{false, ◌∙◌, ap, get_or, subst, sym}
use Rattle.un_prop.specs.declared.act.Temp.{Temp}
use Rattle.un_rect.specs.Apart.{temp_vars}
use Rattle.un_rect.specs.Checks.{is_off}
use Rattle.un_rect.specs.Opened.{opened_after, is_more}
use Rattle.un_rect.specs.Spans.{TempVars}
use Rattle.un_rect.specs.declared.left.Left.{Left}
use Rattle.un_rect.specs.declared.opened.Opened.TheVariants.{Nothing}
use Rattle.un_rect.proofs.CheckSteps.{idle_open}
use Rattle.un_rect.proofs.left.is_done.Goals as goal

pub is_idle-requires-clause-of_b : goal.is_idle-requires-clause-of_b
is_idle-requires-clause-of_b c = subst (λ (a : Temp). TempVars c.args.w.now.vars.now a) (sym c.index-temps-j.is)
    (c.requires.of_temps c.args.j c.index-temps-j.result c.requires.there)

pub returns-then-j-left : goal.returns-then-j-left
returns-then-j-left c = λ b.
    (let none : Left = record { opened = Nothing; reg = 0; one = false; first = 0; end = 0 } in
    let s = c.args.w.now.store.now.sets in
    let a = get_or c.args.temps.now c.args.j b in
    c.is_more.ensures ∙ (ap (λ (x : Left). is_more x.opened) (c.requires.are c.args.j b none c.requires.there c.if-j-left.true)
    ∙ idle_open (is_off a.on s) (opened_after s (temp_vars a) Nothing)))
