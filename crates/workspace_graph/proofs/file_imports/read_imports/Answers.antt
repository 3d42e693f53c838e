-- One more import.
use Rattle.std.proofs.Common.{◌≡◌, ◌+◌, ℕ, List, [], ◌∷◌, ◌++◌, take, get_or, refl, sym, subst}
use Rattle.std.specs.List.{AllZip}
use Rattle.std.proofs.lemmas.List.{take_more}
use Rattle.go_ast.specs.SourceFile.{source_of}
use Rattle.workspace_graph.specs.FileImports.{HasValue}
use Rattle.workspace_graph.specs.declared.file_imports.FileImport.{FileImport}
use Rattle.workspace_graph.proofs.ImportViews.{zip_push}
use Rattle.workspace_graph.proofs.file_imports.read_imports.Goals as goal

pub loop-literal-preserved : goal.loop-literal-preserved
loop-literal-preserved c =
    let xs = c.deref-literal-items.result.now in
    let i = c.loop-literal.literal-index in
    let R : ℕ → FileImport → Type 0 = λ token found. (found.literal ≡ token) × HasValue (source_of c.args.file.now) token found.path in
    let found : FileImport = record { literal = get_or xs i 0; path = c.in_ok-token_value.field-0 } in
    let more = zip_push R (take i xs) c.loop-literal.imports.items (get_or xs i 0) found c.loop-literal.invariant (refl, c.in_ok-token_value.ensures) in
    subst (λ (ys : List FileImport). AllZip R (take (i + 1) xs) ys) (sym c.in_ok-push.ensures.items)
    (subst (λ (zs : List ℕ). AllZip R zs (c.loop-literal.imports.items ++ found ∷ [])) (sym (take_more xs i 0 c.loop-literal-test.true)) more)
