-- Faults as JSON.
use Rattle.std.specs.Prelude.{ℕ, ℤ, List, codes}
use Rattle.serde_json.specs.Data.{Data, Items, array, number, string, object, member, no_members, unsigned}
use Rattle.serde_json.specs.Find.{of_integer}
use Rattle.lsp_answers.specs.Places.{range_value}
use Rattle.lsp_answers.specs.declared.places.Between.{Between}

-- A fault: an error with the word of its kind, and what is told of it.
abbrev pub diagnostic_value : Between → (kind message : List ℕ) → Data
diagnostic_value range kind message =
    object (member (codes "code") (string kind) (member (codes "message") (string message) (member (codes "range") (range_value range)
    (member (codes "severity") (number (unsigned 1)) (member (codes "source") (string (codes "gorefd")) no_members)))))

-- The parameters with which the faults of a document are published.
abbrev pub diagnostics_params : List ℕ → ℤ → Items → Data
diagnostics_params uri version faults =
    object (member (codes "diagnostics") (array faults) (member (codes "uri") (string uri) (member (codes "version") (number (of_integer version)) no_members)))
