-- By what the package imports.
use Rattle.std.proofs.Common.{Bool, Bor, List, ℕ, sym, subst, ◌∙◌}
use Rattle.std.specs.Prelude.{◌↔◌, Contains, IsTrue, MatchOption}
use Rattle.std.proofs.lemmas.Option.{same_Some}
use Rattle.std.proofs.lemmas.Result.{IfOk-weaker}
use Rattle.go_ast.specs.SourceFile.{FileParts}
use Rattle.workspace_graph.specs.Graphs.{OfPackage}
use Rattle.workspace_graph.specs.ImportPaths.{AnyImports, ListsPaths, bytes_of_paths}
use Rattle.refactor_known.specs.Swaps.{IsBehind}
use Rattle.refactor_affected.specs.Starts.{BeginsMove, ConcernsMove}
use Rattle.refactor_affected.proofs.Starting.{begins_imports, not_behind}
use Rattle.refactor_affected.proofs.starts.begins.Goals as goal

pub returns : goal.returns
returns c =
    let w = c.args.graph.now in
    let n = c.args.number in
    let from = c.args.moved.from.now in
    let to = c.args.moved.to.now in
    let p = c.package-package.result.now in
    let path = p.path.items in
    let by_folder = subst (λ (f : List ℕ). MatchOption c.rest_in.result ((rest : List ℕ) → IsBehind f c.deref.result.now rest → ⊥) (λ (rest : Bor (List ℕ)).
    IsBehind f c.deref.result.now rest.now)) (c.as_bytes.ensures.value ∙ c.as_str.ensures.text) c.rest_in.ensures in
    let found = subst (λ (q : List ℕ). MatchOption c.rest_in.result ((rest : List ℕ) → IsBehind from q rest →
    ⊥) (λ (rest : Bor (List ℕ)). IsBehind from q rest.now))
    c.deref.ensures.value by_folder in
    let outside = not_behind from path c.rest_in.result found (sym c.is_some.ensures ∙ c.if-is_some.false) in
    let keys = c.in_ok-paths.paths.keys in
    let listed = subst (λ (ts : List FileParts). ListsPaths (AnyImports ts) keys) c.deref-2.ensures.value c.in_ok-paths.ensures in
    IfOk-weaker c.any_concerns.result (λ (is : Bool). IsTrue is ↔ ((q : List ℕ) × (Contains (bytes_of_paths keys) q × ConcernsMove w from to q)))
    (λ (is : Bool). OfPackage w n (λ q. IsTrue is ↔ BeginsMove w from to q))
    (λ is h q at. subst (λ (x : List ℕ). IsTrue is ↔ BeginsMove w from to x) (same_Some path q (sym c.package-package.ensures.path ∙ at))
    (begins_imports w from to p c.package-package.ensures.files keys is outside listed h)) c.any_concerns.ensures
