-- What commands over a folder print.
use Rattle.std.specs.Prelude.{◌≡◌, ℕ, Bool, true, List, [], ◌∷◌, ◌++◌, codes}
use Rattle.base_files.specs.Workspace.{Workspace}
use Rattle.base_edits.specs.declared.change.FileChange.{FileChange}
use Rattle.tool_told.specs.Telling.{TellsFiles}
use Rattle.tool_told.specs.declared.telling.Naming.{Naming}
use Rattle.tool_told.specs.declared.outcome.CommandOutcome.{CommandOutcome}

-- The outcome prints this, notes this, and is done or not.
abbrev pub Prints : (output notes : List ℕ) → Bool → CommandOutcome → Type 0
Prints output notes is_done outcome = (outcome.output.items ≡ output) × (outcome.notes.items ≡ notes) × (outcome.is_done ≡ is_done)

-- The outcome shows how the files change.
abbrev pub Shows : Naming → Workspace → List FileChange → (notes : List ℕ) → CommandOutcome → Type 0
Shows naming after changes notes outcome = (told : List ℕ) × TellsFiles naming after changes told × Prints told notes true outcome

-- What is told of a word that names nothing, and why.
abbrev pub word_text : (word why : List ℕ) → List ℕ
word_text word why = word ++ (codes ": " ++ (why ++ 10 ∷ []))

-- What is told of a change that failed while its files were written.
abbrev pub cut_off_text : List ℕ → List ℕ
cut_off_text why = codes "gorefd: " ++ (why ++ 10 ∷ [])
