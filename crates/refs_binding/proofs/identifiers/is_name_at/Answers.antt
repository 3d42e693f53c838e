-- The answers to the goals of `identifiers::is_name_at`.
use Rattle.std.proofs.Common.{◌≡◌, length, ap, sym, subst, ◌∙◌}
use Rattle.std.specs.Prelude.{◌↔◌, IsTrue, Some, slice_get}
use Rattle.std.proofs.lemmas.Option.{slice_get-get_or, slice_get_past}
use Rattle.base_lemmas.proofs.Tests.{not_below}
use Rattle.go_scanner.specs.declared.piece.Class.{Class}
use Rattle.go_scanner.specs.declared.piece.Class.TheVariants.{Name}
use Rattle.refs_binding.proofs.Files.{none_named, is_named}
use Rattle.refs_binding.proofs.identifiers.is_name_at.Goals as goal

pub returns-in-None : goal.returns-in-None
returns-in-None c =
    none_named (slice_get c.args.tokens.now c.args.token)
    (slice_get_past c.args.tokens.now c.args.token (not_below c.args.token (length c.args.tokens.now) c.in-None.ensures.lookup.2))

pub returns-in-Some : goal.returns-in-Some
returns-in-Some c =
    let tokens = c.args.tokens.now in
    let piece = c.in-Some.piece.now in
    is_named (slice_get tokens c.args.token) piece c.is_name_class.result
    (slice_get-get_or tokens c.args.token piece c.in-Some.ensures.lookup.3.0 ∙ ap Some (sym c.in-Some.ensures.lookup.1))
    (subst (λ (k : Class). IsTrue c.is_name_class.result ↔ (k ≡ Name)) c.class.ensures c.is_name_class.ensures)
