use Rattle.std.proofs.Common.{arith}
use Rattle.un_mirrors.proofs.StandFacts.{above_at, mirror_by, mirror_needs, read_at, sets_full, sets_long, there_at}
use Rattle.un_mirrors.proofs.mirror.is_mirror.Goals as goal

pub turns_left-requires-clause-there : goal.turns_left-requires-clause-there
turns_left-requires-clause-there c =
    let at = c.in-Some.at.now in
    let found = c.in-Some.ensures.lookup.3 in
    let r = read_at c.as_slice.result.now c.args.stand.now.path.items c.args.depth at c.as_slice.ensures.value found.0 (found.1 at) in
    there_at c.args.m.now c.args.stand.now c.requires.at c.args.depth at r.0 r.1

pub turns_left-requires-clause-same : goal.turns_left-requires-clause-same
turns_left-requires-clause-same c = sets_long c.args.m.now c.args.stand.now c.requires.at

pub turns_left-requires-clause-full : goal.turns_left-requires-clause-full
turns_left-requires-clause-full c = sets_full c.args.m.now c.args.stand.now c.requires.at

pub turns_left-requires-clause-above : goal.turns_left-requires-clause-above
turns_left-requires-clause-above c =
    let at = c.in-Some.at.now in
    let found = c.in-Some.ensures.lookup.3 in
    let r = read_at c.as_slice.result.now c.args.stand.now.path.items c.args.depth at c.as_slice.ensures.value found.0 (found.1 at) in
    above_at c.args.m.now c.args.stand.now c.requires.at c.args.depth at r.0 r.1 c.in_default-side.is

pub returns-then-not-turns_left : goal.returns-then-not-turns_left
returns-then-not-turns_left c =
    let at = c.in-Some.at.now in
    let found = c.in-Some.ensures.lookup.3 in
    let r = read_at c.as_slice.result.now c.args.stand.now.path.items c.args.depth at c.as_slice.ensures.value found.0 (found.1 at) in (
      λ t. absurd (cc t),
      λ is. absurd (let p = c.turns_left.ensures.1
          (mirror_needs c.args.m.now c.args.stand.now c.requires.at c.args.a.0 c.args.b.0 c.args.depth at r.2 is).1 in
          let no = c.if-not-turns_left.true in cc (p, no)),
    )

pub pass_all-requires-clause-within : goal.pass_all-requires-clause-within
pass_all-requires-clause-within c =
    let at = c.in-Some.at.now in
    let found = c.in-Some.ensures.lookup.3 in
    let r = read_at c.as_slice.result.now c.args.stand.now.path.items c.args.depth at c.as_slice.ensures.value found.0 (found.1 at) in
    omega (arith, r.0)

pub returns-then-not-pass_all : goal.returns-then-not-pass_all
returns-then-not-pass_all c =
    let at = c.in-Some.at.now in
    let found = c.in-Some.ensures.lookup.3 in
    let r = read_at c.as_slice.result.now c.args.stand.now.path.items c.args.depth at c.as_slice.ensures.value found.0 (found.1 at) in (
      λ t. absurd (cc t),
      λ is. absurd (let p = c.pass_all.ensures.1
          (mirror_needs c.args.m.now c.args.stand.now c.requires.at c.args.a.0 c.args.b.0 c.args.depth at r.2 is).0 in
          let no = c.if-not-pass_all.true in cc (p, no)),
    )

pub returns : goal.returns
returns c =
    let at = c.in-Some.at.now in
    let found = c.in-Some.ensures.lookup.3 in
    let r = read_at c.as_slice.result.now c.args.stand.now.path.items c.args.depth at c.as_slice.ensures.value found.0 (found.1 at) in (
      λ t. mirror_by c.args.m.now c.args.stand.now c.requires.at c.args.a.0 c.args.b.0 c.args.depth at r.2 c.in_default-side.is
          (c.pass_all.ensures.0 c.if-not-pass_all.false) (c.turns_left.ensures.0 c.if-not-turns_left.false) (c.interchangeable.ensures.0 t),
      λ is. c.interchangeable.ensures.1 is.alike,
    )
