-- The declaration is one of the package of its path.
use Rattle.std.proofs.Common.{◌≡◌, inl, inr, ℕ, List, ap, sym, subst, ◌∙◌}
use Rattle.std.specs.Prelude.{Contains, IfNone, IfSome, Some, slice_get}
use Rattle.std.proofs.lemmas.Option.{IfSome_then, slice_get_within}
use Rattle.std.proofs.lemmas.Result.{IfOk-weaker}
use Rattle.base_files.specs.Packages.{package_paths}
use Rattle.refs_binding.specs.declared.declaration.Declaration.{Declaration}
use Rattle.refs_binding.specs.declared.indexed.Numbered.{Numbered}
use Rattle.refs_binding.specs.Workspaces.{known_in}
use Rattle.build_names.specs.Words.{NameChange}
use Rattle.refactor_units.specs.LevelNames.{ChangesLevel, HasNoLevelNumber, IsLevelOf}
use Rattle.refactor_units.proofs.LevelAt.{field_is_none, level_of, method_is_none, no_level, no_package, predeclared_is_none}
use Rattle.refactor_units.proofs.Missed.{none_then}
use Rattle.refactor_units.proofs.level.level_name_of.Goals as goal

pub level_name_in-requires : goal.level_name_in-requires
level_name_in-requires c = record {
  in_range = slice_get_within (package_paths c.args.workspace.now.graph) c.in-Some.number _ c.in-Some.ensures;
}

pub returns-in-Some-clause-names : goal.returns-in-Some-clause-names
returns-in-Some-clause-names c =
    let at : Numbered = record { workspace = c.args.workspace; number = c.in-Some.number } in
    let w = c.args.workspace.now.graph in
    let known = known_in c.args.workspace.now.findings in
    let name = c.args.name.now in
    let d = c.args.declaration.now in
    let home = c.in-Declared.home in
    let n = c.in-Declared.n in
    let of_number : slice_get (package_paths w) c.in-Some.number ≡ Some home = c.in-Some.ensures ∙ ap Some c.path.ensures in
    IfOk-weaker c.level_name_in.result (λ given. IfSome given (ChangesLevel at n name)) (λ given. IfSome given (IsLevelOf w known d name))
    (λ given changes. IfSome_then given changes (λ change ch.
    subst (λ (e : Declaration). IsLevelOf w known e name change) (sym c.in-Declared.is) (level_of at home n name change of_number ch)))
    c.level_name_in.ensures.names

pub returns-in-Some-clause-finds : goal.returns-in-Some-clause-finds
returns-in-Some-clause-finds c =
    let at : Numbered = record { workspace = c.args.workspace; number = c.in-Some.number } in
    let w = c.args.workspace.now.graph in
    let known = known_in c.args.workspace.now.findings in
    let name = c.args.name.now in
    let d = c.args.declaration.now in
    let home = c.in-Declared.home in
    let n = c.in-Declared.n in
    let of_number : slice_get (package_paths w) c.in-Some.number ≡ Some home = c.in-Some.ensures ∙ ap Some c.path.ensures in
    IfOk-weaker c.level_name_in.result (λ given. IfNone given (HasNoLevelNumber at n))
    (λ given. IfNone given ((change : NameChange) → IsLevelOf w known d name change → ⊥))
    (λ given none. none_then given none (λ nothing change level.
    no_level at home n name change of_number nothing (subst (λ (e : Declaration). IsLevelOf w known e name change) c.in-Declared.is level)))
    c.level_name_in.ensures.finds

pub returns-in-None-clause-finds : goal.returns-in-None-clause-finds
returns-in-None-clause-finds c = λ change level.
    let w = c.args.workspace.now.graph in
    let known = known_in c.args.workspace.now.findings in
    let name = c.args.name.now in
    no_package w known c.in-Declared.home c.in-Declared.n name change (subst (λ (p : List ℕ). Contains (package_paths w) p →
    ⊥) c.path.ensures c.in-None.ensures)
    (subst (λ (e : Declaration). IsLevelOf w known e name change) c.in-Declared.is level)

pub returns-in-Predeclared-clause-finds : goal.returns-in-Predeclared-clause-finds
returns-in-Predeclared-clause-finds c = λ change level.
    let p = level.declared_in.path in
    let n = level.number in
    elim c.in-Predeclared.is [
      | inl k ↦ predeclared_is_none k.0 p n (sym k.1 ∙ level.is_declared)
      | inr rest ↦ (
          elim rest [
            | inl s ↦ field_is_none s.0 p n (sym s.1 ∙ level.is_declared)
            | inr s ↦ method_is_none s.0 p n (sym s.1 ∙ level.is_declared)
          ])
    ]
