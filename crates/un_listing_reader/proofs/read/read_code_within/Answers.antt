-- The first line tells the frame, and the others the blocks or the first bad line.
use Rattle.std.proofs.Common.{rules, ◌≡◌, Some, None}
use Rattle.un_listing_reader.specs.Reading.{AllStand, IsFirstBadOf}
use Rattle.un_listing_reader.proofs.CodeRead.{where_none, where_some, frame_bad, line_bad, kept, read_text}
use Rattle.un_listing_reader.proofs.CodeBack.{one_code, refused_within}
use Rattle.un_listing_reader.proofs.read.read_code_within.Goals as goal

pub invariant_of-result : goal.invariant_of-result
invariant_of-result c =
    let none : c.in-Ok-None.field-0 ≡ None = search rules in
    let all : AllStand c.in-Ok.lines = where_none c.in-Ok-None.field-0 c.in-Ok.lines c.as_slice.result.now none c.as_slice.ensures
    c.in-Ok-None.ensures in
    record {
      rules = ∣ kept c.args.most c.args.text.now c.first_len-len.result c.first_len-len.ensures.bound c.first_len-len.ensures.cut
          c.in-Some.frame c.in-Ok.lines c.in-Some.ensures.some c.in-Ok.ensures
          c.in-Ok-assemble.blocks all c.in-Ok-assemble.ensures c.requires ∣₁;
    }

pub returns-in-Ok-assemble : goal.returns-in-Ok-assemble
returns-in-Ok-assemble c =
    let none : c.in-Ok-None.field-0 ≡ None = search rules in
    let all : AllStand c.in-Ok.lines = where_none c.in-Ok-None.field-0 c.in-Ok.lines c.as_slice.result.now none c.as_slice.ensures
    c.in-Ok-None.ensures in
    let spelled = read_text c.args.most c.args.text.now c.first_len-len.result c.first_len-len.ensures.bound c.first_len-len.ensures.cut
    c.in-Some.frame c.in-Ok.lines c.in-Some.ensures.some c.in-Ok.ensures c.in-Ok-assemble.blocks all c.in-Ok-assemble.ensures in
    record {
      ok = (spelled, c.in-Some.ensures.some.small);
      bad = tt;
      whole = λ code is. one_code c.args.text.now _ code spelled is.0;
    }

-- a first line that is no frame's is not that of a listing
pub returns-in_default-clause-whole : goal.returns-in_default-clause-whole
returns-in_default-clause-whole c = λ code is.
    refused_within c.args.most c.requires c.args.text.now _ code (frame_bad c.args.most c.args.text.now c.first_len-len.result c.first_len-len.ensures.bound
    c.first_len-len.ensures.cut c.in_default.ensures.none) is

-- and no other line of a listing is bad
pub returns-in-Ok-Some-clause-whole : goal.returns-in-Ok-Some-clause-whole
returns-in-Ok-Some-clause-whole c = λ code is.
    let some : c.in-Ok-Some.field-0 ≡ Some c.in-Ok-Some.k = search rules in
    let bad : IsFirstBadOf c.in-Ok.lines c.in-Ok-Some.k = where_some c.in-Ok-Some.field-0 c.in-Ok-Some.k c.in-Ok.lines
    c.as_slice.result.now some c.as_slice.ensures c.in-Ok-Some.ensures in
    refused_within c.args.most c.requires c.args.text.now c.refusal.result code (c.refusal.ensures c.args.most c.args.text.now (line_bad c.args.most c.args.text.now c.first_len-len.result
    c.first_len-len.ensures.bound c.first_len-len.ensures.cut c.in-Some.frame c.in-Ok.lines c.in-Some.ensures.some c.in-Ok.ensures
    c.in-Ok-Some.k bad)) is
