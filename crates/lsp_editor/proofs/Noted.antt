-- What initialize says of the folder.
use Rattle.std.proofs.Common.{◌≡◌, None, Some, refl, string_bytes, subst, sym}
use Rattle.std.specs.Prelude.{String}
use Rattle.std.specs.declared.alloc.Global.{Global}
use Rattle.serde_json.specs.Data.{Data}
use Rattle.lsp_params.specs.Client.{abilities_in}
use Rattle.lsp_params.specs.declared.client.ClientAbilities.{ClientAbilities}
use Rattle.lsp_editor.specs.Folders.{NamesFolder, NotesClient}
use Rattle.lsp_editor.specs.declared.editor.Editor.{Editor}

-- the editor with these abilities
abbrev pub able : Editor → ClientAbilities → Editor
able old abilities = record old { abilities = abilities }

-- the editor with these abilities and this folder
abbrev pub at_folder : Editor → String Global → ClientAbilities → Editor
at_folder old root abilities = record old { abilities = abilities; naming = record { root = root; prefix = old.naming.prefix } }

-- the folder is named
pub noted_folder : (params : Data) (root : String Global) (abilities : ClientAbilities) (old : Editor) → abilities ≡ abilities_in params
    → NamesFolder params (Some (string_bytes root)) → NotesClient (Some params) old (at_folder old root abilities)
noted_folder params root abilities old is named =
    subst (λ (a : ClientAbilities). NotesClient (Some params) old (at_folder old root a)) (sym is)
    (Some (string_bytes root), named, (record { root = root; prefix = old.naming.prefix }, refl, refl, refl))

-- no folder is named
pub noted_alone : (params : Data) (abilities : ClientAbilities) (old : Editor) → abilities ≡ abilities_in params → NamesFolder params None
    → NotesClient (Some params) old (able old abilities)
noted_alone params abilities old is named =
    subst (λ (a : ClientAbilities). NotesClient (Some params) old (able old a)) (sym is) (None, named, refl)
