-- The answers to the goals of `naming::name_in`.
use Rattle.std.proofs.Common.{inl, inr, refl, subst, sym}
use Rattle.std.proofs.lemmas.Result.{IfOk-weaker}
use Rattle.lsp_documents.specs.Uris.{IsPathIn}
use Rattle.lsp_edits.specs.Naming.{NamesFile, NamesFileAt, owned_text}
use Rattle.lsp_edits.proofs.naming.name_in.Goals as goal

pub returns-in-Some : goal.returns-in-Some
returns-in-Some c =
    let named = rw c.in-Some.is at c.in_ok-path.ensures in
    let path = c.as_slice.result.now in
    let given = subst (IsPathIn c.args.uri.now) (sym c.as_slice.ensures.value) named in
    IfOk-weaker c.name_at_path.result (λ name. NamesFileAt c.args.naming.now path (owned_text name))
    (λ name. NamesFile c.args.naming.now c.args.uri.now (owned_text name)) (λ name h. inl (path, given, h)) c.name_at_path.ensures

pub returns-in-None : goal.returns-in-None
returns-in-None c =
    let none = rw c.in-None.is at c.in_ok-path.ensures in
    inr (none, refl)
