-- Packages at one path whose files were parsed alike have the same files.
use Rattle.std.proofs.Common.{◌≡◌, ℕ, List, map, sym, ap, subst, ◌∙◌}
use Rattle.std.proofs.lemmas.Bool.{true≢false}
use Rattle.workspace_graph.specs.Parsed.{AreParsed}
use Rattle.base_files.specs.Packages.{package_files}
use Rattle.workspace_check.specs.Earlier.{tree_file}
use Rattle.build_carry.specs.Inputs.{faulty_file}
use Rattle.build_carry.proofs.SameInputs.{same_by_parsed, parsed_alike}
use Rattle.build_carry.proofs.same_inputs.have_same_files.Goals as goal

-- the files that have trees differ
pub returns-then-not-are_same_trees : goal.returns-then-not-are_same_trees
returns-then-not-are_same_trees c = λ v w m n own other path.
    let a = c.args.own.now in
    let b = c.args.there.now in
    let second = subst (λ (r : List ℕ). AreParsed (package_files w r) b.trees.items b.faulty.items) path other.files in (
      λ t. absurd (true≢false (sym t)),
      λ same.
          let alike : map tree_file c.deref.result.now ≡ map tree_file c.deref-2.result.now = ap (map tree_file) c.deref.ensures.value ∙
          (parsed_alike v w a.path.items own.files second same).0 ∙ ap (map tree_file) (sym c.deref-2.ensures.value) in
          absurd (true≢false (sym (c.are_same_trees.ensures.1 alike) ∙ c.if-not-are_same_trees.true)),
    )

-- or the others decide
pub returns : goal.returns
returns c = λ v w m n own other path.
    let a = c.args.own.now in
    let b = c.args.there.now in
    let second = subst (λ (r : List ℕ). AreParsed (package_files w r) b.trees.items b.faulty.items) path other.files in
    let trees : map tree_file a.trees.items ≡ map tree_file b.trees.items = ap (map tree_file) (sym c.deref.ensures.value) ∙
    c.are_same_trees.ensures.0 c.if-not-are_same_trees.false ∙ ap (map tree_file) c.deref-2.ensures.value in (
      λ t. same_by_parsed v w a.path.items own.files second trees (ap (map faulty_file) (sym c.deref-3.ensures.value) ∙ c.are_same_faulty.ensures.0 t ∙
          ap (map faulty_file) c.deref-4.ensures.value),
      λ same. c.are_same_faulty.ensures.1 (ap (map faulty_file) c.deref-3.ensures.value ∙ (parsed_alike v w a.path.items own.files second same).1 ∙
          ap (map faulty_file) (sym c.deref-4.ensures.value)),
    )
