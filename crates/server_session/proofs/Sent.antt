-- Sending keeps the bytes that the writer holds.
use Rattle.std.proofs.Common.{ℕ, List, [], ◌++◌, Option, None, Some, Result, Ok, Err, sym, ap, ◌∙◌, append-nil}
use Rattle.std.specs.Io.KnownBytes.{Appends, Keeps}
use Rattle.std.proofs.KnownBytes.{Appends-kept}
use Rattle.server_read.specs.Failures.{WritesText}

-- nothing is added
pub kept_nil : (held holds : Option (List ℕ)) → Keeps held holds → Appends held holds []
kept_nil None holds h = tt
kept_nil (Some xs) None h = absurd h
kept_nil (Some xs) (Some ys) h = h ∙ sym (append-nil xs)

-- everything is sent, and a text is written after it
pub kept_then : (held mid holds : Option (List ℕ)) (text : List ℕ) → Keeps held mid → Appends mid holds text → Appends held holds text
kept_then None mid holds text k h = tt
kept_then (Some xs) None holds text k h = absurd k
kept_then (Some xs) (Some ys) None text k h = absurd h
kept_then (Some xs) (Some ys) (Some zs) text k h = h ∙ ap (λ l. l ++ text) k

-- a text is written, and may be sent after it
pub written_then_sent : {T E : Type 0} (held mid holds : Option (List ℕ)) (text : List ℕ) (r : Result T E) → Appends held mid text → Keeps mid holds
    → WritesText held holds text r
written_then_sent held mid holds text (Ok done) h k = Appends-kept held mid holds text h k
written_then_sent held mid holds text (Err failed) h k = record {
  written = text;
  unwritten = [];
  whole = sym (append-nil text);
  appended = Appends-kept held mid holds text h k;
}
