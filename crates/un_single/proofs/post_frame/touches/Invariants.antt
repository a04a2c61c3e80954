use Rattle.std.proofs.Common.{◌≡◌, ◌++◌, drop, map}
use Rattle.un_ir.specs.Extended.{is_copy}
use Rattle.un_sites.specs.Postings.{instr_var, with_kind}
use Rattle.un_sites.specs.Sites.{place_of}
use Rattle.un_single.proofs.post_frame.touches.Given as goal

abbrev pub invariant-loop-p : goal.invariant-loop-p
invariant-loop-p l = l.vars ++ map instr_var (with_kind is_copy (map place_of (drop l.p-index l.spots))) ≡ map instr_var
    (with_kind is_copy (map place_of l.spots))
