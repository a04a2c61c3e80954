use Rattle.std.proofs.Common.{◌≡◌, true, sym, subst, ◌∙◌}
use Rattle.un_isa.specs.Memories.{is_memory}
use Rattle.un_isa.proofs.MemoryWords.{word_found, word_absent}
use Rattle.un_isa.proofs.memory.Memory.get.Goals as goal

-- the address is at its place, and the word there is the one that was read
pub returns-in-Ok : goal.returns-in-Ok
returns-in-Ok c =
    let words = c.as_slice-words.result.now in
    let memory = subst (λ ws. is_memory ws ≡ true) (sym c.as_slice-words.ensures) c.self.invariant in
    let found = word_found words memory _ _ c.in-Ok.ensures.found in
    let same : words ≡ c.args.self.now = c.as_slice-words.ensures ∙ c.self.view_is in
    rw (← same) (sym found)

-- the address is not there
pub returns-in-Err : goal.returns-in-Err
returns-in-Err c =
    let words = c.as_slice-words.result.now in
    let same : words ≡ c.args.self.now = c.as_slice-words.ensures ∙ c.self.view_is in
    rw (← same) (sym (word_absent _ _ _ c.in-Err.ensures.absent))
