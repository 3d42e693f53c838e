-- The answers to the goals of `asked_byte::path_asked`.
use Rattle.std.proofs.Common.{None, string_bytes, subst}
use Rattle.lsp_edits.specs.Naming.{NamesFile, owned_text}
use Rattle.lsp_told.specs.Asking.{ReadsName}
use Rattle.lsp_told.proofs.Refusing.{named_path}
use Rattle.lsp_told.proofs.asked_byte.path_asked.Goals as goal

pub returns-in-Some : goal.returns-in-Some
returns-in-Some c =
    named_path c.args.telling c.args.uri.now (string_bytes c.in-Some.name)
    (subst (λ o. NamesFile c.args.telling.naming.now c.args.uri.now (owned_text o)) c.in-Some.is c.in_ok-name.ensures) c.path_named.result
    (subst (λ n. ReadsName n c.path_named.result) c.as_str.ensures.value c.path_named.ensures)

pub returns-in-None : goal.returns-in-None
returns-in-None c =
    (None, subst (λ o. NamesFile c.args.telling.naming.now c.args.uri.now (owned_text o)) c.in-None.is c.in_ok-name.ensures, tt)
