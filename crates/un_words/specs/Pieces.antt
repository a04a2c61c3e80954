-- A line of a text without its end and its comment.
use Rattle.std.specs.Prelude.{ℕ, Bool, ◌-◌, ◌&&◌, ◌==◌, nat_lt, List, length, slice_index, take, map, if◌then◌else◌}
use Rattle.std.specs.List.{before_first}
use Rattle.un_base.specs.Lines.{pieces_of}

-- the last byte is b
abbrev pub ends_with : ℕ → List ℕ → Bool
ends_with b bs = nat_lt 0 (length bs) && slice_index bs (length bs - 1) == b

abbrev pub without_last : ℕ → List ℕ → List ℕ
without_last b bs = if ends_with b bs then take (length bs - 1) bs else bs

-- a line without its line feed, and without a carriage return directly before that
abbrev pub without_end : List ℕ → List ℕ
without_end piece = if ends_with 10 piece then without_last 13 (take (length piece - 1) piece) else piece

-- what stands before the comment, which a semicolon begins
abbrev pub without_comment : List ℕ → List ℕ
without_comment line = before_first (λ b. b == 59) line

-- the lines of a text without their ends and comments
abbrev pub lines_in : List ℕ → List (List ℕ)
lines_in text = map (λ piece. without_comment (without_end piece)) (pieces_of text)
