-- Steps of the machine through a block.
use Rattle.std.proofs.Common.{ℕ, zero, suc, ◌≡◌, ◌+◌, ◌-◌, ◌<◌, ◌≤◌, List, [], ◌∷◌, length, drop, get_or, slice_get, Option, Some, None}
use Rattle.std.proofs.Common.{IsSomeAnd, MatchOption, refl, sym, ap, subst, ◌∙◌, arith, add-one, ◌^◌, inl, inr}
use Rattle.std.proofs.lemmas.Option.{slice_get_within}
use Rattle.un_base.specs.declared.ids.BlockId.{BlockId}
use Rattle.un_base.specs.declared.ids.NameId.{NameId}
use Rattle.un_isa.specs.declared.outcome.End.TheVariants as EndOf
use Rattle.un_isa.specs.declared.table.Table.{Table}
use Rattle.un_isa.specs.declared.outcome.End.{End}
use Rattle.un_packet.specs.declared.code.Packet.{Packet}
use Rattle.un_packet.specs.declared.code.CodeBlock.{CodeBlock}
use Rattle.un_packet.specs.declared.code.Code.{Code}
use Rattle.un_packet.specs.declared.machine.Stepped.{Stepped}
use Rattle.un_packet.specs.declared.machine.Stepped.TheVariants.{Left, Ended}
use Rattle.un_packet.specs.declared.machine.Stepped.TheVariants
use Rattle.un_packet.specs.Step.{PacketState, PacketStep, Went, Jumped, Stopped, packet_step}
use Rattle.un_packet.specs.Run.{PacketRun, then_packets, packets_run, leave, through, enter}
use Rattle.un_packet.specs.Ends.{EndsBy, EndsRun}
use Rattle.un_packet.specs.CodeRules.{KeepsRules}
use Rattle.un_packet.specs.Machine.{MachineState, moved, GoesOn, WhereItGoesOn, LeadsTo, IsInCode, IsPlace}
use Rattle.un_packet.proofs.Rules.{few_packets, stays}
use Rattle.un_packet.proofs.Steps.{read_at}
use Rattle.un_packet.specs.Outcomes.{IsPacketStep, IsEmptyStep, IsBlockStep, IsStep, IsBlockRun}

pub drop_some : {A : Type 0} (xs : List A) (k : ℕ) (x : A) → slice_get xs k ≡ Some x → drop k xs ≡ x ∷ drop (suc k) xs
drop_some [] k x h = absurd (cc h)
drop_some (y ∷ ys) zero x h = let same : y ≡ x = cc h in rw same refl
drop_some (y ∷ ys) (suc k) x h = drop_some ys k x h

drop_none : {A : Type 0} (xs : List A) (k : ℕ) → slice_get xs k ≡ None → drop k xs ≡ []
drop_none [] zero h = refl
drop_none [] (suc k) h = refl
drop_none (y ∷ ys) zero h = absurd (cc h)
drop_none (y ∷ ys) (suc k) h = drop_none ys k h

drop_all : {A : Type 0} (xs : List A) (k : ℕ) → length xs ≡ k → drop k xs ≡ []
drop_all [] zero h = refl
drop_all [] (suc k) h = refl
drop_all (y ∷ ys) zero h = absurd (omega (arith, h))
drop_all (y ∷ ys) (suc k) h = drop_all ys k (omega (arith, h))

goes : (step : PacketStep) (s : PacketState) → GoesOn step s → step ≡ Went s
goes (Went q) s h = ap Went (sym h)
goes (Jumped label q) s h = absurd h
goes (Stopped stop q) s h = absurd h

-- behind the last packet of a block, or where a packet jumps or stops, its step is that of the block
last : (t : Table) (step : PacketStep) (rest : List Packet) → WhereItGoesOn step (rest ≡ []) → then_packets step (packets_run t rest) ≡ step
last t (Went s) rest h = rw h refl
last t (Jumped label s) rest h = refl
last t (Stopped stop s) rest h = refl

where_goes : (step : PacketStep) (A B : Type 0) → (A → B) → WhereItGoesOn step A → WhereItGoesOn step B
where_goes (Went s) A B f h = f h
where_goes (Jumped label s) A B f h = tt
where_goes (Stopped stop s) A B f h = tt

stopped : (t : Table) (blocks : List CodeBlock) (step : PacketStep) (rest : List Packet) (e : _) (new : PacketState)
    → EndsBy blocks step e new → then_packets step (packets_run t rest) ≡ step
stopped t blocks (Went s) rest e new h = absurd h
stopped t blocks (Jumped label s) rest e new h = absurd h
stopped t blocks (Stopped stop s) rest e new h = refl

moved_same : (m : MachineState) (s q : PacketState) (a b : ℕ) → s ≡ q → a ≡ b → moved m s a 0 ≡ moved m q b 0
moved_same m s q a b e f = rw (e, f) refl

-- the rest of a block at a packet
at_packet : (t : Table) (packets : List Packet) (k : ℕ) (p : Packet) (s : PacketState) → slice_get packets k ≡ Some p
    → packets_run t (drop k packets) s ≡ then_packets (packet_step t p.instrs s) (packets_run t (drop (suc k) packets))
at_packet t packets k p s e = rw (drop_some packets k p e) refl

module _ (blocks : List CodeBlock) (m new : MachineState) (b : CodeBlock) where
  -- a packet went
  went_in : (p : Option Packet) → slice_get b.packets m.place ≡ p
      → MatchOption p (IsEmptyStep m new TheVariants.Went) (λ packet. IsPacketStep blocks (length b.packets) m
      (packet_step m.table packet.instrs m.state) new TheVariants.Went) → (m.place + 1 < length b.packets)
      × (new ≡ moved m new.state m.block (m.place + 1)) × (packets_run m.table (drop (m.place + 1) b.packets) new.state ≡ packets_run
      m.table (drop m.place b.packets) m.state)
  went_in None e h = absurd (cc (h.0))
  went_in (Some p) e h =
      let step = goes (packet_step m.table p.instrs m.state) new.state h.1 in
      (h.0, h.2, rw (at_packet m.table b.packets m.place p m.state e, step, add-one) refl)

  -- it led to another block
  left_in : (to : _) (p : Option Packet) → slice_get b.packets m.place ≡ p
      → MatchOption p (IsEmptyStep m new (Left to)) (λ packet. IsPacketStep blocks (length b.packets) m
      (packet_step m.table packet.instrs m.state) new (Left to)) →
      LeadsTo blocks m.block (packets_run m.table (drop m.place b.packets) m.state) to.0 new.state × (new ≡ moved m new.state to.0 0)
  left_in to None e h =
      let same : to ≡ record { 0 = m.block + 1 } = cc (h.0) in
      let id : to.0 ≡ m.block + 1 = ap (λ (x : BlockId). x.0) same in
      let state : new.state ≡ m.state = ap (λ (x : MachineState). x.state) h.1 in
      (rw (drop_none b.packets m.place e) (id, state), h.1 ∙ moved_same m m.state new.state (m.block + 1) to.0 (sym state) (sym id))
  left_in to (Some p) e h =
      let behind = where_goes (packet_step m.table p.instrs m.state) _ _
      (λ (l : length b.packets ≡ m.place + 1). drop_all b.packets (suc m.place) (l ∙ add-one m.place)) h.0 in (
        rw (
          at_packet m.table b.packets m.place p m.state e,
          last m.table (packet_step m.table p.instrs m.state)
              (drop (suc m.place) b.packets) behind,
        ) h.1,
        h.2,
      )

  -- it ended the run
  ended_in : (end : _) (p : Option Packet) → slice_get b.packets m.place ≡ p
      → MatchOption p (IsEmptyStep m new (Ended end)) (λ packet. IsPacketStep blocks (length b.packets) m
      (packet_step m.table packet.instrs m.state) new (Ended end))
      → EndsBy blocks (packets_run m.table (drop m.place b.packets) m.state) end new.state
  ended_in end None e h = absurd (cc (h.0))
  ended_in end (Some p) e h =
      rw (
        at_packet m.table b.packets m.place p m.state e,
        stopped m.table blocks (packet_step m.table p.instrs m.state)
            (drop (suc m.place) b.packets) end new.state h.0,
      ) h.0

-- what is left of the block comes to the whole
pub record IsHalfway (c : Code) (first m : MachineState) : Type 0 where
  pub table : m.table ≡ first.table
  pub block : m.block ≡ first.block
  pub ended : m.ended ≡ first.ended
  pub rest : IsSomeAnd (slice_get c.blocks first.block) (λ b. packets_run first.table (drop m.place b.packets) m.state ≡ packets_run
      first.table b.packets first.state)

-- what the step says of the block
of_block : (c : Code) (first m new : MachineState) (answer : Stepped) → IsHalfway c first m → IsStep c m new answer → (o : Option CodeBlock)
    → slice_get c.blocks first.block ≡ o → IsSomeAnd o (λ block. IsBlockStep c.blocks block m new answer)
of_block c first m new answer half h o e = subst (λ (x : Option CodeBlock). IsSomeAnd x (λ block. IsBlockStep c.blocks block m new answer))
    (ap (slice_get c.blocks) half.block ∙ e) h

of_rest : (c : Code) (first m : MachineState) → IsHalfway c first m → (o : Option CodeBlock) → slice_get c.blocks first.block ≡ o
    → IsSomeAnd o (λ b. packets_run first.table (drop m.place b.packets) m.state ≡ packets_run first.table b.packets first.state)
of_rest c first m half o e = subst (λ (x : Option CodeBlock). IsSomeAnd x
    (λ b. packets_run first.table (drop m.place b.packets) m.state ≡ packets_run first.table b.packets first.state)) e half.rest

-- a step that goes on
pub record HasGone (c : Code) (first m new : MachineState) : Type 0 where
  pub half : IsHalfway c first new
  pub place : new.place ≡ m.place + 1
  pub going : new.ended ≡ m.ended
  pub short : IsSomeAnd (slice_get c.blocks first.block) (λ b. m.place + 1 < length b.packets)

gone_by : (c : Code) (first m new : MachineState) → IsHalfway c first m → (o : Option CodeBlock) → slice_get c.blocks first.block ≡ o
    → IsSomeAnd o (λ block. IsBlockStep c.blocks block m new TheVariants.Went)
    → IsSomeAnd o (λ b. packets_run first.table (drop m.place b.packets) m.state ≡ packets_run first.table b.packets first.state)
    → HasGone c first m new
gone_by c first m new half None e step rest = absurd step
gone_by c first m new half (Some b) e step rest =
    let facts = went_in c.blocks m new b (slice_get b.packets m.place) refl step in
    let table = ap (λ (x : MachineState). x.table) facts.1 ∙ half.table in
    let place : new.place ≡ m.place + 1 = ap (λ (x : MachineState). x.place) facts.1 in
    record {
      half = record {
        table = table;
        block = ap (λ (x : MachineState). x.block) facts.1 ∙ half.block;
        ended = ap (λ (x : MachineState). x.ended) facts.1 ∙ half.ended;
        rest = rw (e, place, ← half.table) (facts.2 ∙ (rw half.table rest));
      };
      place = place;
      going = ap (λ (x : MachineState). x.ended) facts.1;
      short = rw e facts.0;
    }

pub gone : (c : Code) (first m new : MachineState) → IsHalfway c first m → IsStep c m new TheVariants.Went → HasGone c first m new
gone c first m new half h =
    let o = slice_get c.blocks first.block in
    gone_by c first m new half o refl (of_block c first m new TheVariants.Went half h o refl) (of_rest c first m half o refl)

-- a step that leads to another block
left_by : (c : Code) (first m new : MachineState) (to : BlockId) → IsHalfway c first m → (o : Option CodeBlock)
    → slice_get c.blocks first.block ≡ o → IsSomeAnd o (λ block. IsBlockStep c.blocks block m new (Left to))
    → IsSomeAnd o (λ b. packets_run first.table (drop m.place b.packets) m.state ≡ packets_run first.table b.packets first.state)
    → IsBlockRun c first new (Left to)
left_by c first m new to half None e step rest = absurd step
left_by c first m new to half (Some b) e step rest =
    let facts = left_in c.blocks m new b to (slice_get b.packets m.place) refl step in
    rw e (rw (← rest, ← half.table, ← half.block) facts.0, rw (← half.table, ← half.ended) facts.1)

pub left : (c : Code) (first m new : MachineState) (to : BlockId) → IsHalfway c first m → IsStep c m new (Left to)
    → IsBlockRun c first new (Left to)
left c first m new to half h =
    let o = slice_get c.blocks first.block in
    left_by c first m new to half o refl (of_block c first m new (Left to) half h o refl) (of_rest c first m half o refl)

-- a step that ends the run
ended_by : (c : Code) (first m new : MachineState) (end : End) → IsHalfway c first m → (o : Option CodeBlock)
    → slice_get c.blocks first.block ≡ o → IsSomeAnd o (λ block. IsBlockStep c.blocks block m new (Ended end))
    → IsSomeAnd o (λ b. packets_run first.table (drop m.place b.packets) m.state ≡ packets_run first.table b.packets first.state)
    → IsBlockRun c first new (Ended end)
ended_by c first m new end half None e step rest = absurd step
ended_by c first m new end half (Some b) e step rest =
    let facts = ended_in c.blocks m new b end (slice_get b.packets m.place) refl step in
    rw e (rw (← rest, ← half.table) facts)

pub ended : (c : Code) (first m new : MachineState) (end : End) → IsHalfway c first m → IsStep c m new (Ended end)
    → IsBlockRun c first new (Ended end)
ended c first m new end half h =
    let o = slice_get c.blocks first.block in
    ended_by c first m new end half o refl (of_block c first m new (Ended end) half h o refl) (of_rest c first m half o refl)

-- the step at the last packet
too_far : (c : Code) (first m new : MachineState) → IsHalfway c first m → (o : Option CodeBlock) → slice_get c.blocks first.block ≡ o
    → IsSomeAnd o (λ b. length b.packets ≤ m.place + 1) → IsSomeAnd o (λ b. m.place + 1 < length b.packets) → ⊥
too_far c first m new half None e long short = absurd long
too_far c first m new half (Some b) e long short = omega arith

pub finished : (c : Code) (first m new : MachineState) (answer : Stepped) → IsHalfway c first m → IsStep c m new answer
    → IsSomeAnd (slice_get c.blocks first.block) (λ b. length b.packets ≤ m.place + 1) → IsBlockRun c first new answer
finished c first m new TheVariants.Went half h long = absurd (too_far c first m new half (slice_get c.blocks first.block) refl long
    (gone c first m new half h).short)
finished c first m new (Left to) half h long = left c first m new to half h
finished c first m new (Ended end) half h long = ended c first m new end half h

pub whole : (c : Code) (first : MachineState) → first.block < length c.blocks → first.place ≡ 0 → IsHalfway c first first
whole c first below place = record { table = refl; block = refl; ended = refl; rest = there c.blocks first.block below }
  where
    there : (bs : List CodeBlock) (k : ℕ) → k < length bs → IsSomeAnd (slice_get bs k)
        (λ b. packets_run first.table (drop first.place b.packets) first.state ≡ packets_run first.table b.packets first.state)
    there [] k lt = absurd (omega (arith, lt))
    there (b ∷ bs) zero lt = rw place refl
    there (b ∷ bs) (suc k) lt = there bs k (omega (arith, lt))

-- the machine stays in the code
stays_by : (new m : MachineState) (o : Option CodeBlock) → new.place ≡ m.place + 1 → IsSomeAnd o (λ b. m.place + 1 < length b.packets)
    → IsSomeAnd o (λ b. IsPlace b.packets new.place)
stays_by new m None e h = absurd h
stays_by new m (Some b) e h = inr (omega (arith, e, h))

pub stays_in : (c : Code) (first m new : MachineState) → HasGone c first m new → IsInCode c new
stays_in c first m new g = rw (g.half.block) (stays_by new m (slice_get c.blocks first.block) g.place g.short)

small_by : (blocks : List CodeBlock) (frame k : ℕ) (rules : ∥ KeepsRules frame blocks ∥₁) (b : ℕ) (o : Option CodeBlock)
    → slice_get blocks b ≡ o → IsSomeAnd o (λ b. IsPlace b.packets k) → k < 2 ^ 28
small_by blocks frame k rules b None e h = absurd h
small_by blocks frame k rules b (Some block) e h = let few = few_packets frame blocks rules b block e in
    elim h [ inl none ↦ omega (arith, none) | inr lt ↦ omega (arith, lt, few) ]

pub place_small : (c : Code) (m : MachineState) → IsInCode c m → m.place < 2 ^ 28
place_small c m h = small_by c.blocks c.frame m.place c.rules m.block (slice_get c.blocks m.block) refl h

in_by : (blocks : List CodeBlock) (b : ℕ) → b < length blocks → (k : ℕ) → k ≡ 0 → IsSomeAnd (slice_get blocks b) (λ b. IsPlace b.packets k)
in_by [] b lt k e = absurd (omega (arith, lt))
in_by (x ∷ xs) zero lt k e = inl e
in_by (x ∷ xs) (suc b) lt k e = in_by xs b (omega (arith, lt)) k e

pub at_start : (c : Code) (m : MachineState) → m.block < length c.blocks → m.place ≡ 0 → IsInCode c m
at_start c m lt e = in_by c.blocks m.block lt m.place e

-- the block whose packets were counted
pub counted : (c : Code) (m : MachineState) (shown : List CodeBlock) (k n : ℕ) (b : CodeBlock) → shown ≡ c.blocks → k ≡ m.block
    → m.block < length c.blocks → b ≡ get_or shown k b → length b.packets ≤ n
    → IsSomeAnd (slice_get c.blocks m.block) (λ b. length b.packets ≤ n)
counted c m shown k n b blocks at below e few = rw (read_at c.blocks shown m.block k b blocks at below e) few

-- ---- label by label

module _ (t : Table) (blocks : List CodeBlock) (b : ℕ) (s : PacketState) where
  led_on : (go : ℕ → PacketState → PacketRun) (step : PacketStep) (to : ℕ) (new : PacketState) → LeadsTo blocks b step to new
      → leave blocks b step go ≡ go to new
  led_on go (Went q) to new h = rw (h.0, h.1) refl
  led_on go (Jumped label q) to new h = rw (h.0, h.1) refl
  led_on go (Stopped stop q) to new h = absurd h

  ended_on : (go : ℕ → PacketState → PacketRun) (step : PacketStep) (end : End) (new : PacketState) → EndsBy blocks step end new
      → EndsRun blocks (leave blocks b step go) end new
  ended_on go (Went q) end new h = absurd h
  ended_on go (Jumped label q) end new h = absurd h
  ended_on go (Stopped stop q) end new h = h

  -- a block that leads on, and one that ends the run
  pub entered : (k to : ℕ) (new : PacketState) → IsSomeAnd (slice_get blocks b)
      (λ block. LeadsTo blocks b (packets_run t block.packets s) to new) → enter t blocks (suc k) b s ≡ enter t blocks k to new
  entered k to new h = by (slice_get blocks b) h
    where
      by : (o : Option CodeBlock) → IsSomeAnd o (λ block. LeadsTo blocks b (packets_run t block.packets s) to new)
          → through t blocks o b s (enter t blocks k) ≡ enter t blocks k to new
      by None g = absurd g
      by (Some block) g = led_on (enter t blocks k) (packets_run t block.packets s) to new g

  pub finished_run : (k : ℕ) (end : End) (new : PacketState) → IsSomeAnd (slice_get blocks b)
      (λ block. EndsBy blocks (packets_run t block.packets s) end new) → EndsRun blocks (enter t blocks (suc k) b s) end new
  finished_run k end new h = by (slice_get blocks b) h
    where
      by : (o : Option CodeBlock) → IsSomeAnd o (λ block. EndsBy blocks (packets_run t block.packets s) end new)
          → EndsRun blocks (through t blocks o b s (enter t blocks k)) end new
      by None g = absurd g
      by (Some block) g = ended_on (enter t blocks k) (packets_run t block.packets s) end new g

-- a block that was left for another one
pub record HasLed (c : Code) (old new : MachineState) (to : ℕ) : Type 0 where
  pub leads : IsSomeAnd (slice_get c.blocks old.block) (λ block. LeadsTo c.blocks old.block (packets_run old.table block.packets old.state)
      to new.state)
  pub moves : new ≡ moved old new.state to 0
  pub inside : to < length c.blocks

led_by : (c : Code) (old new : MachineState) (to : ℕ) (o : Option CodeBlock) → slice_get c.blocks old.block ≡ o
    → IsSomeAnd o (λ block. LeadsTo c.blocks old.block (packets_run old.table block.packets old.state) to new.state
    × (new ≡ moved old new.state to 0)) → HasLed c old new to
led_by c old new to None e h = absurd h
led_by c old new to (Some block) e h = record {
  leads = rw e (h.0);
  moves = h.1;
  inside = stays c.frame c.blocks c.rules old.table old.block block old.state to new.state e (slice_get_within c.blocks old.block block e)
      h.0;
}

pub has_led : (c : Code) (old new : MachineState) (to : BlockId) → IsBlockRun c old new (Left to) → HasLed c old new to.0
has_led c old new to h = led_by c old new to.0 (slice_get c.blocks old.block) refl h

-- what is left of a run after a block
pub run_goes : (t : Table) (c : Code) (n i : ℕ) (old new : MachineState) (to : ℕ) (all : PacketRun) → i < n → old.table ≡ t
    → HasLed c old new to → enter t c.blocks (n - i) old.block old.state ≡ all → enter t c.blocks (n - (i + 1)) new.block new.state ≡ all
run_goes t c n i old new to all lt table h e =
    let left : n - i ≡ suc (n - (i + 1)) = omega arith in
    let block : new.block ≡ to = ap (λ (m : MachineState). m.block) h.moves in
    let one = entered old.table c.blocks old.block old.state (n - (i + 1)) to new.state h.leads in
    rw block (ap (λ (x : Table). enter x c.blocks (n - (i + 1)) to new.state) (sym table) ∙ sym one
    ∙ ap (λ (x : Table). enter x c.blocks (suc (n - (i + 1))) old.block old.state) table
    ∙ ap (λ (k : ℕ). enter t c.blocks k old.block old.state) (sym left) ∙ e)

-- a run that is cut off
pub run_left : (t : Table) (blocks shown : List CodeBlock) (n i k : ℕ) (m : MachineState) (b : CodeBlock) (label : List ℕ)
    (values : List (NameId × ℕ)) (all : PacketRun) → n ≤ i → enter t blocks (n - i) m.block m.state ≡ all → shown ≡ blocks → k ≡ m.block
    → m.block < length blocks
    → b ≡ get_or shown k b → label ≡ b.label → values ≡ [] → EndsRun blocks all (EndOf.Running label values) m.state
run_left t blocks shown n i k m b label values all done e same at below read named none =
    let left : n - i ≡ 0 = omega arith in
    let cut : enter t blocks 0 m.block m.state ≡ all = ap (λ (j : ℕ). enter t blocks j m.block m.state) (sym left) ∙ e in
    rw (← cut) (rw (read_at blocks shown m.block k b same at below read) (rw (named, none) refl), refl)
