-- Texts that begin with a word.
use Rattle.std.proofs.Common.{◌≡◌, ◌≢◌, ℕ, List, ◌++◌, length, take, drop, sym, ap, ◌∙◌, true, false}
use Rattle.std.specs.Str.{bytes_eq}
use Rattle.std.proofs.lemmas.List.{take-append-drop}
use Rattle.std.proofs.lemmas.Slice.Eq.{bytes_eq-Decides}
use Rattle.std.proofs.Math.Seq.{take-append_seam}

pub begins : (line start : List ℕ) → bytes_eq (take (length start) line) start ≡ true → line ≡ start ++ drop (length start) line
begins line start h =
    sym (take-append-drop (length start) line)
    ∙ ap (λ (t : List ℕ). t ++ drop (length start) line) ((bytes_eq-Decides (take (length start) line) start).0 h)

pub not_begins : (line start : List ℕ) → bytes_eq (take (length start) line) start ≡ false → (rest : List ℕ) → line ≢ start ++ rest
not_begins line start h rest e =
    let same : take (length start) line ≡ start = ap (take (length start)) e ∙ take-append_seam start rest in
    let yes : bytes_eq (take (length start) line) start ≡ true = (bytes_eq-Decides (take (length start) line) start).1 same in
    cc (h, yes)
