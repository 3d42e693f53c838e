-- The answers to the goals of `imports::push_imports`.
use Rattle.std.proofs.Common.{◌++◌, append-nil, append_assoc, ap, sym, ◌∙◌}
use Rattle.std.specs.List.{flat_map}
use Rattle.std.specs.Map.Iter.{deref}
use Rattle.std.proofs.lemmas.Map.Iter.{rest_more, rest_all}
use Rattle.workspace_graph.specs.ImportPaths.{bytes_of_paths}
use Rattle.build_object.specs.ObjectText.{import_line}
use Rattle.build_object.proofs.Imported.{paths_sorted}
use Rattle.build_object.proofs.imports.push_imports.Goals as goal

pub loop-path-preserved : goal.loop-path-preserved
loop-path-preserved c =
    let left = rest_more deref _ _ _ c.in-Some.path c.in-Some.is c.next.ensures.steps in
    let rest = flat_map import_line (bytes_of_paths c.next.new.self) in
    ap (λ z. z ++ rest) (c.in_ok-push_between.ensures ∙ ap (λ q. c.loop-path.text.items ++ import_line q) c.deref.ensures.value)
    ∙ (append_assoc c.loop-path.text.items (import_line c.in-Some.path.now.items) rest ∙
    (ap (λ ks. c.loop-path.text.items ++ flat_map import_line (bytes_of_paths ks)) (sym left) ∙ c.loop-path.invariant))

pub returns-clause-lines : goal.returns-clause-lines
returns-clause-lines c =
    let none = rest_all deref _ _ _ c.in-None.is c.next.ensures.steps in
    sym (append-nil c.loop-path.text.items) ∙ (ap (λ ks. c.loop-path.text.items ++ flat_map import_line (bytes_of_paths ks)) (sym none) ∙ c.loop-path.invariant)

pub returns-clause-sorted : goal.returns-clause-sorted
returns-clause-sorted c = paths_sorted c.args.paths.now.keys c.iter-path-items.ensures.ordered
