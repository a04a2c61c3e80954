-- The frame of code is small.
use Rattle.un_listing_reader.proofs.CodeBack.{frame_small}
use Rattle.un_listing_reader.proofs.read.read_code.Goals as goal

pub returns-clause-whole : goal.returns-clause-whole
returns-clause-whole c = λ code is. c.read_code_within.ensures.whole code (is, frame_small code)
