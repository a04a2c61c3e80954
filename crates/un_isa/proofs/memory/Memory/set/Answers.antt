use Rattle.std.proofs.Common.{ℕ, List, ◌≡◌, true, refl, sym, subst, ◌∙◌, set}
use Rattle.un_isa.specs.Memories.{is_memory, set_word, IsAddressAt, IsGapAt}
use Rattle.un_isa.proofs.MemoryWords.{word_put, word_kept, still_memory}
use Rattle.un_isa.proofs.memory.Memory.set.Goals as goal

-- the word at its place is written over
put : (searched words new : List (ℕ × ℕ)) → searched ≡ words → is_memory words ≡ true → (a v i : ℕ) → IsAddressAt searched a i
    → new ≡ set words i (a, v) → new ≡ set_word a v words
put searched words new same memory a v i at write =
    write ∙ sym (word_put words memory a v i (subst (λ ws. IsAddressAt ws a i) same at))

pub invariant_of-self : goal.invariant_of-self
invariant_of-self c =
    let e = put _ c.self.inside.words c.set.new.self c.as_slice.ensures c.self.invariant c.args.address c.args.word _ c.in-Ok.ensures.found
    c.set.ensures in
    rw e (still_memory c.args.address c.args.word c.self.inside.words ∙ c.self.invariant)

pub returns-in-Ok : goal.returns-in-Ok
returns-in-Ok c =
    let e = put _ c.self.inside.words c.set.new.self c.as_slice.ensures c.self.invariant c.args.address c.args.word _ c.in-Ok.ensures.found
    c.set.ensures in
    e ∙ rw c.self.view_is refl

-- the address is not there
pub returns-in-Err : goal.returns-in-Err
returns-in-Err c =
    let gap = subst (λ ws. IsGapAt ws c.args.address c.in-Err.field-0) (c.as_slice.ensures ∙ c.self.view_is) c.in-Err.ensures.absent in
    sym (word_kept _ c.args.address c.args.word _ gap)
