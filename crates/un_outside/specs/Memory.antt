-- What a source and a sink in memory were made of, and what their next call answers.
use Rattle.std.specs.Prelude.{ℕ, Bool, ◌==◌, ◌-◌, min, List, Option, Some, length, drop}
use Rattle.std.specs.List.{list_any}
use Rattle.un_outside.specs.declared.memory.MemSource.{MemSource}
use Rattle.un_outside.specs.declared.memory.MemSink.{MemSink}

-- the bytes that a source has left
abbrev pub source_left : MemSource → Option (List ℕ)
source_left source = Some (drop source.at source.bytes.items)

-- how often it has failed
abbrev pub source_faults : MemSource → ℕ
source_faults source = source.faults

-- how often it was called, up to the count's last value
abbrev pub source_calls : MemSource → ℕ
source_calls source = source.calls

-- how many bytes a call gives at most
abbrev pub source_piece : MemSource → ℕ
source_piece source = source.piece

-- the numbers of the calls that fail
abbrev pub source_fails : MemSource → List ℕ
source_fails source = source.fails.items

-- whether the next call fails
abbrev pub source_fails_next : MemSource → Bool
source_fails_next source = list_any (λ number. number == source.calls) source.fails.items

-- how many bytes the next call gives into a buffer of this length, where it does not fail
abbrev pub source_gives_next : MemSource → ℕ → ℕ
source_gives_next source buffer = min (min (length source.bytes.items - source.at) source.piece) buffer

-- how many bytes a sink holds at most
abbrev pub sink_room : MemSink → ℕ
sink_room sink = sink.room

-- how many bytes a call takes at most
abbrev pub sink_piece : MemSink → ℕ
sink_piece sink = sink.piece

-- the numbers of the calls that fail
abbrev pub sink_fails : MemSink → List ℕ
sink_fails sink = sink.fails.items

-- the bytes that a sink holds
abbrev pub sink_held : MemSink → Option (List ℕ)
sink_held sink = Some sink.bytes.items

-- how often it has failed
abbrev pub sink_faults : MemSink → ℕ
sink_faults sink = sink.faults

-- how often it was called, up to the count's last value
abbrev pub sink_calls : MemSink → ℕ
sink_calls sink = sink.calls

-- whether it holds as many as it may
abbrev pub sink_is_full : MemSink → Bool
sink_is_full sink = length sink.bytes.items == sink.room

-- whether the next call is one of those that fail
abbrev pub sink_fails_next : MemSink → Bool
sink_fails_next sink = list_any (λ number. number == sink.calls) sink.fails.items

-- how many of so many bytes the next call takes, where it does not fail
abbrev pub sink_takes_next : MemSink → ℕ → ℕ
sink_takes_next sink count = min (min count sink.piece) (sink.room - length sink.bytes.items)
