-- The answers to the goals of `import_paths::add_import`.
use Rattle.std.proofs.Common.{◌∙◌, subst, Global, ℕ}
use Rattle.std.specs.Prelude.{Option, Vec}
use Rattle.workspace_graph.specs.ImportPaths.{IsPathValue}
use Rattle.workspace_graph.proofs.ImportedPaths.{adds_none, insert_adds}
use Rattle.workspace_graph.proofs.import_paths.add_import.Goals as goal

pub returns-in-None : goal.returns-in-None
returns-in-None c = adds_none (IsPathValue c.args.import.now.path) c.args.paths.now.keys
    (λ q s. let none : ⊥ = subst (λ (o : Option (Vec ℕ Global)). IsPathValue o q) c.in-None.is s in none)

pub returns-in_ok-insert-in-Some : goal.returns-in_ok-insert-in-Some
returns-in_ok-insert-in-Some c = insert_adds c.args.paths.now.keys c.insert.new.self.keys c.in_ok-path-in-Some.path c.in-Some.path c.args.import.now.path
    c.in-Some.is (c.in_ok-path-in-Some.ensures.items ∙ c.deref.ensures.value) c.in_ok-insert-in-Some.ensures.keys
