-- Both literals are spelled alike.
use Rattle.std.proofs.Common.{sym, ◌∙◌}
use Rattle.go_ast.specs.SourceFile.{source_of}
use Rattle.workspace_graph.proofs.SameImports.{alike}
use Rattle.workspace_graph.proofs.same_imports.are_alike_at.Goals as goal

pub returns-then-are_strings : goal.returns-then-are_strings
returns-then-are_strings c same =
    let strings = c.if-are_strings.true in
    alike (source_of c.args.one.now) (source_of c.args.other.now) c.args.token c.in-Some.first c.in-Some-token_of.second (sym c.in-Some.ensures)
    (sym c.in-Some-token_of.ensures) (c.are_strings.ensures.one strings) (c.are_strings.ensures.other strings)
    (sym c.spelling.ensures ∙ c.have_same_bytes.ensures same ∙ c.spelling-then-are_strings.ensures)
