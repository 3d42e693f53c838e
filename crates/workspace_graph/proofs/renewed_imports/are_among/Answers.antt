-- One more path, and all of them at the end.
use Rattle.std.proofs.Common.{ℕ, List, ◌+◌, ◌∷◌, ◌++◌, [], ⊎_elim, ap, sym, subst, ◌∙◌, take, arith, Global}
use Rattle.std.specs.Prelude.{Option, Vec}
use Rattle.std.specs.List.{Contains}
use Rattle.std.proofs.lemmas.List.{take_more, take_all}
use Rattle.workspace_graph.specs.ImportPaths.{AnyIsOfPath, IsPathValue, bytes_of_paths}
use Rattle.workspace_graph.specs.declared.file_imports.FileImport.{FileImport}
use Rattle.workspace_graph.proofs.ImportedPaths.{paths_among, some_more}
use Rattle.workspace_graph.proofs.renewed_imports.are_among.Goals as goal
use Rattle.workspace_graph.proofs.renewed_imports.are_among.Goals.{in-Some+else-not-contains, in_default}

pub loop-import-preserved : goal.loop-import-preserved
loop-import-preserved c =
    let all = c.args.come.now in
    let k = c.loop-import.import-index in
    let keys = c.args.paths.now.keys in
    let one = c.import-item.result in
    let more = some_more (λ (found : FileImport) q. IsPathValue found.path q) (take k all) (take (k + 1) all) one
    (take_more all k one c.loop-import-test.true ∙ ap (λ y. take k all ++ (y ∷ [])) (sym c.import-item.is)) in
    elim c.match-import.branch [
      | in-Some+else-not-contains w ↦ λ q some. ⊎_elim (c.loop-import.invariant q)
          (λ (stands : IsPathValue one.path q). subst (Contains (bytes_of_paths keys))
          (w.as_slice.ensures.value ∙ subst (λ (o : Option (Vec ℕ Global)). IsPathValue o q) w.in-Some.is stands)
          (paths_among keys w.as_slice.result.now (sym w.contains.ensures ∙ w.if-not-contains.false)))
          ((more q).0 some)
      | in_default w ↦ λ q some. ⊎_elim (c.loop-import.invariant q)
          (λ (stands : IsPathValue one.path q). let none : ⊥ = subst (λ (o : Option (Vec ℕ Global)). IsPathValue o q) w.in_default.is stands in absurd none)
          ((more q).0 some)
    ]

pub returns : goal.returns
returns c = λ _. subst (λ (l : List FileImport). (q : List ℕ) → AnyIsOfPath l q → Contains (bytes_of_paths c.args.paths.now.keys) q)
    (take_all c.loop-import.import-index c.args.come.now (omega (arith, c.loop-import-test.false))) c.loop-import.invariant
