use Rattle.std.proofs.Common.{◌<◌, ◌≤◌, ◌+◌, ◌*◌, ◌/◌, List, All, sym, subst, arith}
use Rattle.std.proofs.lemmas.List.Elements.{All-push}
use Rattle.un_kinds.specs.AnyProps.{scope_of, span_of}
use Rattle.un_kinds.specs.declared.any.AnyProp.{AnyProp}
use Rattle.inspect.proofs.chains.all_links.Goals as goal

pub loop-i-preserved : goal.loop-i-preserved
loop-i-preserved c =
    let n = 5 * (c.args.links / 4 + 1) in
    let e = sym c.in_ok-push.ensures.items in
    record {
      among = subst (λ (ps : List AnyProp). All (λ (p : AnyProp). All (λ v. v.0 < n) (scope_of p)) ps) e
          (All-push (λ (p : AnyProp). All (λ v. v.0 < n) (scope_of p)) c.loop-i.props.items c.in_ok-p.p c.loop-i.invariant.among
          (c.in_ok-p.ensures.among n (omega arith)));
      spans = subst (λ (ps : List AnyProp). All (λ (p : AnyProp). span_of p ≤ 0) ps) e
          (All-push (λ (p : AnyProp). span_of p ≤ 0) c.loop-i.props.items c.in_ok-p.p c.loop-i.invariant.spans c.in_ok-p.ensures.span);
    }
