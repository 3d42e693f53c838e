-- The answers to the goals of `naming::name_at_path`.
use Rattle.std.proofs.Common.{inl, inr, refl, subst}
use Rattle.std.proofs.lemmas.Result.{IfOk-weaker}
use Rattle.lsp_edits.specs.Naming.{IsFileName, NamesFileAt, owned_text}
use Rattle.lsp_edits.proofs.naming.name_at_path.Goals as goal

pub returns-in-Some : goal.returns-in-Some
returns-in-Some c =
    IfOk-weaker c.name_of.result (λ name. IsFileName c.args.naming.now c.in-Some.text.now (owned_text name))
    (λ name. NamesFileAt c.args.naming.now c.args.path.now (owned_text name))
    (λ name h. inl (c.in-Some.ensures.1, subst (λ path. IsFileName c.args.naming.now path (owned_text name)) c.in-Some.ensures.0 h)) c.name_of.ensures

pub returns-in-None : goal.returns-in-None
returns-in-None c = inr (c.in-None.ensures, refl)
