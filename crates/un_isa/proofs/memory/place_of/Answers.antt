use Rattle.std.proofs.Common.{rules}
use Rattle.std.proofs.lemmas.List.Sorted.{answers_always}
use Rattle.un_isa.proofs.MemoryWords.{searched}
use Rattle.un_isa.proofs.memory.place_of.Goals as goal

-- the closure gives a word's address
pub returns : goal.returns
returns c =
    let facts = c.binary_search_by_key.ensures in
    let by_key = facts.position (λ word. word.0) (answers_always _ _ _ (λ f a r g called. search rules)) in
    searched c.args.words.now c.requires c.args.address _ facts.bound by_key
