-- The answers to the goals of `meanings::definition_bound`.
use Rattle.std.proofs.Common.{◌<◌, length, subst, sym, ◌∙◌}
use Rattle.std.proofs.lemmas.Bool.{false≢true}
use Rattle.std.proofs.lemmas.Option.{slice_get_within}
use Rattle.types_expr.specs.Types.{TypeName}
use Rattle.types_expr.specs.World.{Means}
use Rattle.types_expr.specs.WorldView.{bound_of}
use Rattle.types_declared.specs.Package.{package_types}
use Rattle.types_declared.specs.MeaningOf.{IsMeaningOf, definition, broken_definition}
use Rattle.types_declared.specs.PackageView.{package_of}
use Rattle.types_info.proofs.meanings.definition_bound.Goals as goal

pub returns-then-broken-rank : goal.returns-then-broken-rank
unfolding bound_of
returns-then-broken-rank c =
    let p = package_of c.args.pkg in
    let lt : c.args.rank < length (package_types p) = slice_get_within (package_types p) c.args.rank c.requires.definition.item
    c.requires.definition.has_rank in
    broken_definition {rank = c.args.rank} c.requires.level c.requires.definition ((c.requires.broken.each c.args.rank lt).0 c.if-broken-rank.true)

pub returns : goal.returns
unfolding bound_of
returns c =
    let p = package_of c.args.pkg in
    let lt : c.args.rank < length (package_types p) = slice_get_within (package_types p) c.args.rank c.requires.definition.item
    c.requires.definition.has_rank in
    subst (λ t. IsMeaningOf p c.args.d (Means (TypeName t))) (sym c.in_ok-own.ensures)
    (definition {rank = c.args.rank} c.requires.level c.requires.definition
    (λ b. false≢true (sym c.if-broken-rank.false ∙ (c.requires.broken.each c.args.rank lt).1 b)))
