-- What a packet leaves of the length of a memory.
use Rattle.std.proofs.Common.{ℕ, suc, ◌≡◌, Bool, true, false, nat_eq, List, [], ◌∷◌, length, refl, ◌∙◌}
use Rattle.std.specs.Prelude.{if◌then◌else◌}
use Rattle.un_isa.specs.declared.op.Op.{Op}
use Rattle.un_isa.specs.declared.op.Op.TheVariants.{Store}
use Rattle.un_isa.specs.declared.instr.Instr.{Instr}
use Rattle.un_isa.specs.Memories.{set_word, set_words}
use Rattle.un_packet.specs.Step.{PacketState, memory_by, memory_after}

length-choice : (b : Bool) (w : ℕ × ℕ) (c : ℕ × ℕ) (ws vs : List (ℕ × ℕ)) → length ws ≡ length vs
    → length (if b then w ∷ ws else c ∷ vs) ≡ suc (length ws)
length-choice true w c ws vs e = refl
length-choice false w c ws vs e = rw e refl

length-set_word : (a v : ℕ) (ws : List (ℕ × ℕ)) → length (set_word a v ws) ≡ length ws
length-set_word a v [] = refl
length-set_word a v (w ∷ ws) = let e = length-set_word a v ws in length-choice (nat_eq w.0 a) (a, v) w ws (set_word a v ws) (rw e refl)

pub length-set_words : (cs ws : List (ℕ × ℕ)) → length (set_words cs ws) ≡ length ws
length-set_words [] ws = refl
length-set_words (c ∷ cs) ws = length-set_words cs (set_word c.0 c.1 ws) ∙ length-set_word c.0 c.1 ws

length-by : (op : Op) (s : PacketState) (i : Instr) (m : List (ℕ × ℕ)) → length (memory_by op s i m) ≡ length m
length-by Store s i m = length-set_word _ _ m
length-by _ s i m = refl

pub length-memory : (s : PacketState) (is : List Instr) (m : List (ℕ × ℕ)) → length (memory_after s is m) ≡ length m
length-memory s [] m = refl
length-memory s (i ∷ is) m = length-memory s is (memory_by i.op s i m) ∙ length-by i.op s i m
