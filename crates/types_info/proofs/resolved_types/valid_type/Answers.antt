-- The answers to the goals of `resolved_types::valid_type`.
use Rattle.std.proofs.Common.{sym, ◌∙◌}
use Rattle.std.specs.Prelude.{option_map}
use Rattle.std.proofs.lemmas.Bool.{false≢true}
use Rattle.std.proofs.lemmas.Result.{IfOk-weaker}
use Rattle.go_ast.specs.View.{type_view}
use Rattle.types_expr.specs.View.{type_of}
use Rattle.types_declared.specs.PackageView.{package_of}
use Rattle.types_info.proofs.ResolvedTypes.{broken_none, whole_named}
use Rattle.types_info.proofs.resolved_types.valid_type.Goals as goal

pub returns-then-mentions_broken : goal.returns-then-mentions_broken
returns-then-mentions_broken c = broken_none (package_of c.args.pkg) c.args.file (type_view c.args.written.now)
    (c.mentions_broken.ensures.0 c.if-mentions_broken.true)

pub returns-else-mentions_broken : goal.returns-else-mentions_broken
returns-else-mentions_broken c =
    IfOk-weaker c.named_type.result _ _
    (λ o h. whole_named (package_of c.args.pkg) c.args.file (type_view c.args.written.now) (option_map type_of o)
    (λ b. false≢true (sym c.if-mentions_broken.false ∙ c.mentions_broken.ensures.1 b)) h)
    c.named_type.ensures
