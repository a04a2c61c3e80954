use Rattle.std.proofs.Common.{◌≡◌, ◌++◌, drop, map}
use Rattle.un_ir.specs.Kinds.{is_call_kind}
use Rattle.un_sites.specs.Postings.{cycle_var, with_kind}
use Rattle.un_sites.specs.Sites.{place_of}
use Rattle.un_single.proofs.post_frame.call_cycles.Given as goal

abbrev pub invariant-loop-p : goal.invariant-loop-p
invariant-loop-p l = l.vars ++ map cycle_var (with_kind is_call_kind (map place_of (drop l.p-index l.spots))) ≡ map cycle_var
    (with_kind is_call_kind (map place_of l.spots))
