-- The answers to the goals of `qualified::add_name`.
use Rattle.std.proofs.Common.{ℕ, ◌∙◌, List, map, ap, subst, MatchOption}
use Rattle.types_declared.proofs.Listings.{adds_none}
use Rattle.go_ast.specs.SourceFile.{source_of}
use Rattle.types_resolve.specs.Scoping.{qualified_fault}
use Rattle.types_declared.specs.Laid.{laid_in, IsPathOf, is_exported}
use Rattle.types_resolve.specs.QualifiedParts.{IsUnknownOf}
use Rattle.types_resolve.proofs.UnknownParts.{name_added}
use Rattle.types_resolve.proofs.qualified.add_name.Goals as goal

pub returns-in-None : goal.returns-in-None
returns-in-None g c =
    let p = laid_in c.args.of.now.table.now in
    let files = map source_of c.args.of.now.files.now in
    let none : (v : List ℕ) → IsPathOf files p c.args.import v → ⊥ =
    subst (λ o. MatchOption o ((v : List ℕ) → IsPathOf files p c.args.import v → ⊥) (λ v. IsPathOf files p c.args.import v.items)) c.in-None.is
    c.in_ok-path_of.ensures in
    adds_none c.args.found.now.items (IsUnknownOf files (g.E.Exports.exported c.args.exports.now) p c.args.import c.args.u) (λ f h. none h.path h.of_path)

pub returns-in-Some : goal.returns-in-Some
returns-in-Some g c =
    let p = laid_in c.args.of.now.table.now in
    let files = map source_of c.args.of.now.files.now in
    let exports = g.E.Exports.exported c.args.exports.now in
    let path : IsPathOf files p c.args.import c.in-Some.path.items =
    subst (λ o. MatchOption o ((v : List ℕ) → IsPathOf files p c.args.import v → ⊥) (λ v. IsPathOf files p c.args.import v.items)) c.in-Some.is
    c.in_ok-path_of.ensures in
    name_added c.one_string_value.ensures files exports p c.args.import c.args.u c.in-Some.path.items c.qualified_fault-kind.result c.args.found.now.items
    c.add_kind.new.found.items c.add_kind.result path
    (c.qualified_fault-kind.ensures ∙ ap (λ n. qualified_fault (is_exported n) (exports c.deref.result.now n)) c.name.ensures ∙
    ap (λ v. qualified_fault (is_exported (p.names c.args.u)) (exports v (p.names c.args.u))) c.deref.ensures.value)
    c.add_kind.ensures
