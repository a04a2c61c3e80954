-- What a block issues besides its own operations where so many saved values have slots.
use Rattle.std.specs.Prelude.{ℕ, ◌+◌, ◌-◌, ◌==◌, nat_lt, Bool, ◌&&◌, if◌then◌else◌, List, [], ◌∷◌, ◌++◌, filter, fold, length, map, max, replicate}
use Rattle.std.specs.Prelude.{Option, Some, None}
use Rattle.un_isa.specs.Tables.{latency_of}
use Rattle.un_isa.specs.declared.op.Op.{Op}
use Rattle.un_isa.specs.declared.op.Op.TheVariants.{Spill, Reload, Enter, Leave}
use Rattle.un_isa.specs.declared.table.Table.{Table}
use Rattle.un_model.specs.Instructions.{needs_by}
use Rattle.un_model.specs.Pairs.{places_from}
use Rattle.un_model.specs.Variables.{var_at}
use Rattle.un_length.specs.declared.block.Precedence.{Precedence}
use Rattle.un_length.specs.declared.block.Task.{Task}
use Rattle.un_rows.specs.declared.draft.Draft.{Draft}
use Rattle.un_rows.specs.declared.draft.Owed.{Owed}
use Rattle.un_rows.specs.declared.known.Basis.{Basis}
use Rattle.un_rows.specs.declared.known.Crossed.{Crossed}
use Rattle.un_rows.specs.declared.known.Known.{Known}
use Rattle.un_rows.specs.declared.role.Role.{Role}
use Rattle.un_rows.specs.declared.role.Role.TheVariants.{Entry, Middle, Return, Other}

abbrev pub owed : Op → ℕ → ℕ → Owed
owed op head tail = record { op = op; head = head; tail = tail }

abbrev pub arc : ℕ → ℕ → Precedence
arc from to = record { from = from; to = to; gap = 1 }

abbrev pub no_draft : Draft
no_draft = record { owed = []; front = []; back = [] }

-- the one at place n issues before each call, or behind each
abbrev pub before_calls : ℕ → List Crossed → List Precedence
before_calls n calls = map (λ (c : Crossed). arc n c.place) calls

abbrev pub behind_calls : ℕ → List Crossed → List Precedence
behind_calls n calls = map (λ (c : Crossed). arc c.place n) calls

-- so many Spills behind Enter, before the end of the entry
abbrev pub spilling : ℕ → List Crossed → ℕ → Draft
spilling n calls s = record { owed = owed Enter 1 2 ∷ replicate s (owed Spill 2 1); front = before_calls n calls; back = [] }

abbrev pub entry_draft : ℕ → List Crossed → ℕ → Draft
entry_draft n calls s = if s == 0 then no_draft else spilling n calls s

-- so many Reloads before the end, and behind the calls Leave, where there is one
abbrev pub reloading : Table → ℕ → Draft
reloading t s = record { owed = replicate s (owed Reload 1 (latency_of t Reload)); front = []; back = [] }

abbrev pub leaving : Table → ℕ → List Crossed → ℕ → Draft
leaving t n calls s = record {
  owed = owed Leave 1 1 ∷ replicate s (owed Reload 1 (latency_of t Reload));
  front = [];
  back = behind_calls n calls;
}

abbrev pub return_draft : Table → Bool → ℕ → List Crossed → ℕ → Draft
return_draft t leaves n calls s = if leaves && nat_lt 0 s then leaving t n calls s else reloading t s

-- each of those that have the places from n on issues behind the call at place c
abbrev pub behind_call : ℕ → ℕ → List Owed → List Precedence
behind_call c n os = places_from (λ (i : ℕ) (o : Owed). arc c i) n os

-- so many Reloads behind a call at place c, each for an operation before the end
abbrev pub call_draft : Table → ℕ → ℕ → ℕ → Draft
call_draft t n c many = let os : List Owed = replicate many (owed Reload 1 (latency_of t Reload + 1)) in
    record { owed = os; front = []; back = behind_call c n os }

-- Of names that cross a call which keeps so many registers, those are reloaded that are more than the registers which `saved - s` saved
-- values leave; where those leave less than none, it cannot be.
abbrev pub crossed_draft : Table → Basis → ℕ → ℕ → Crossed → Draft
crossed_draft t basis s n c = call_draft t n c.place (c.names - (s + basis.kept - basis.saved))

abbrev pub call_drafts : Table → Basis → ℕ → ℕ → List Crossed → List Draft
call_drafts t basis s n calls = map (crossed_draft t basis s n) calls

abbrev pub is_crowded : Basis → ℕ → List Crossed → Bool
is_crowded basis s calls = nat_lt 0 (length calls) && nat_lt (s + basis.kept) basis.saved

-- what a block of so many operations, with these calls, and with a Leave or not, owes by one of several drafts at a time; nothing where it
-- cannot be
abbrev pub drafts_by : Table → Basis → ℕ → Role → Bool → ℕ → List Crossed → Option (List Draft)
drafts_by t basis s Entry leaves n calls = Some (entry_draft n calls s ∷ [])
drafts_by t basis s Return leaves n calls = Some (return_draft t leaves n calls s ∷ [])
drafts_by t basis s Middle leaves n calls = if is_crowded basis s calls then None else Some (call_drafts t basis s n calls)
drafts_by t basis s Other leaves n calls = Some []

abbrev pub drafts_of : Table → Basis → ℕ → Known → Option (List Draft)
drafts_of t basis s k = drafts_by t basis s k.role k.leaves (length k.ops) k.calls

-- ---- a draft among the operations of a block

-- an operation with the number of a variable that no other operation has
abbrev pub owed_task : Table → ℕ → Owed → Task
owed_task t v o = record { at = var_at v; head = o.head; tail = o.tail; needs = needs_by t (Some o.op) }

-- those of a draft, with numbers from this one on
abbrev pub owed_tasks : Table → ℕ → List Owed → List Task
owed_tasks t first os = places_from (owed_task t) first os

-- the first number from which on no operation has one for its variable
abbrev pub past_all : List Task → ℕ
past_all ops = fold max 0 (map (λ (t : Task). t.at.0 + 1) ops)

abbrev pub drafted_ops : Table → List Task → Draft → List Task
drafted_ops t ops d = ops ++ owed_tasks t (past_all ops) d.owed

-- those precedences of which both places are among the first n
abbrev pub is_within : ℕ → Precedence → Bool
is_within n a = nat_lt a.from n && nat_lt a.to n

abbrev pub within : ℕ → List Precedence → List Precedence
within n arcs = filter (is_within n) arcs

-- those before which a call waits stand first, so that one pass back has a call's latest cycle
abbrev pub drafted_arcs : ℕ → List Precedence → Draft → List Precedence
drafted_arcs n arcs d = within n d.front ++ (within n arcs ++ within n d.back)
