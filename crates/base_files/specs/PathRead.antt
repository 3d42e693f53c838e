-- The result of reading a path.
use Rattle.std.specs.Prelude.{◌≡◌, ℕ, List, ⊤, Result, Ok, Err}
use Rattle.base_files.specs.declared.refusal.Refusal.{Refusal}
use Rattle.base_files.specs.declared.refusal.Refusal.TheVariants.{Memory, BadPath}
use Rattle.base_files.specs.Path.{IsPath}

-- Reading `text` as a path of at least `least` segments gives this result: the path, or `BadPath` exactly where the text is no such path.
abbrev pub ReadsPath : ℕ → List ℕ → Result (List ℕ) Refusal → Type 0
ReadsPath least text (Ok path) = (path ≡ text) × IsPath least text
ReadsPath least text (Err BadPath) = ¬ (IsPath least text)
ReadsPath least text (Err Memory) = ⊤
ReadsPath least text (Err refusal) = ⊥
