-- The folders that requests name.
use Rattle.std.specs.Prelude.{ℕ, ◌≡◌, List, Option, None, Some, Result, Ok, Err, String, ⊤}
use Rattle.std.specs.declared.alloc.Global.{Global}
use Rattle.serde_json.specs.Data.{Data}
use Rattle.lsp_edits.specs.Naming.{NamesFile, owned_text}
use Rattle.lsp_edits.specs.declared.telling.Telling.{Telling}
use Rattle.lsp_params.specs.Members.{text_at}
use Rattle.lsp_told.specs.declared.fault.AskFault.{AskFault}
use Rattle.lsp_told.specs.declared.fault.AskFault.TheVariants as fault

-- The name of the folder that a member of a value names; none where it does not lie below the folder of the session.
abbrev pub FindsFolder : Telling → (member : List ℕ) → Data → Result (Option (String Global)) AskFault → Type 0
FindsFolder telling member value (Ok name) =
    (uri : List ℕ) × (text_at member value ≡ Some uri) × NamesFile telling.naming.now uri (owned_text name)
FindsFolder telling member value (Err fault.Params) = text_at member value ≡ None
FindsFolder telling member value (Err fault.Memory) = ⊤
FindsFolder telling member value (Err failed) = ⊥
