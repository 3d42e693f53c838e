-- The answers to the goals of `heeding::document_named`.
use Rattle.std.proofs.Common.{ℕ, IfOk, List, None, Option, refl, subst}
use Rattle.lsp_edits.specs.Naming.{owned_text}
use Rattle.lsp_editor.specs.Heeding.{NamesFileIf}
use Rattle.lsp_editor.proofs.heeding.document_named.Goals as goal

pub returns-in-Some : goal.returns-in-Some
returns-in-Some c =
    subst (λ (uri : Option (List ℕ)). IfOk c.name_in.result (λ name. NamesFileIf c.args.editor.now.naming uri (owned_text name))) c.in-Some.ensures
    c.name_in.ensures

pub returns-in-None : goal.returns-in-None
returns-in-None c = subst (λ (uri : Option (List ℕ)). NamesFileIf c.args.editor.now.naming uri None) c.in-None.ensures refl
