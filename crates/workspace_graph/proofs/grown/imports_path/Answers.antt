-- Where no path is imported none is this one, and otherwise it is looked for.
use Rattle.std.proofs.Common.{sym, ◌∙◌}
use Rattle.std.proofs.lemmas.Bool.{false≢true}
use Rattle.workspace_graph.proofs.ImportedPaths.{among_paths, none_among, paths_among}
use Rattle.workspace_graph.proofs.grown.imports_path.Goals as goal

pub returns-then-is_empty : goal.returns-then-is_empty
returns-then-is_empty c =
    let keys = c.imports-imports.result.now.keys in
    let empty = c.is_empty.ensures.0 c.if-is_empty.true in (
      λ no. absurd (false≢true no),
      λ some. absurd (none_among keys c.args.path.now empty ((c.imports-imports.ensures.each c.args.path.now).1 some)),
    )

pub returns : goal.returns
returns c =
    let keys = c.imports-imports.result.now.keys in
    let path = c.args.path.now in (
      λ yes. (c.imports-imports.ensures.each path).0 (paths_among keys path (sym c.contains.ensures ∙ yes)),
      λ some. c.contains.ensures ∙ among_paths keys path ((c.imports-imports.ensures.each path).1 some),
    )
