-- The paths of packages rise with their numbers: if packages are taken by number, each next path comes after all before it.
use Rattle.std.proofs.Common.{ℕ, ◌≡◌, ◌<◌, List, [], get_or, ap, subst, ◌∙◌}
use Rattle.std.specs.Prelude.{Some, slice_get}
use Rattle.std.specs.Ordering.{ordering_reverse}
use Rattle.std.specs.declared.cmp.Ordering.TheVariants.{Less, Greater}
use Rattle.std.proofs.lemmas.Map.Keys.{Less-from_sorted}
use Rattle.std.proofs.lemmas.Option.{slice_get_within, get_or_from_slice_get}
use Rattle.base_files.specs.Workspace.{Workspace, path_cmp}
use Rattle.base_files.specs.Packages.{package_paths}
use Rattle.base_files.proofs.WorkspaceLaws.{path_cmp_total}
use Rattle.workspace_graph.proofs.PackagePaths.{paths_sorted}
use Rattle.types_declared.specs.ExportTablesView.{ComesAfterAll}
use Rattle.types_declared.specs.declared.export_tables.ExportTable.{ExportTable}

pub later_path : (w : Workspace) (n m : ℕ) (p q : List ℕ) → slice_get (package_paths w) n ≡ Some p → slice_get (package_paths w) m ≡ Some q → n < m →
    path_cmp q p ≡ Greater
later_path w n m p q at_n at_m lt =
    let ks = package_paths w in
    let less : path_cmp (get_or ks n []) (get_or ks m []) ≡ Less = Less-from_sorted path_cmp ks n m [] (paths_sorted w) lt (slice_get_within ks m q at_m) in
    path_cmp_total.antisymm q p
    ∙ ap ordering_reverse (subst (λ x. path_cmp x q ≡ Less) (get_or_from_slice_get ks n p [] at_n)
    (subst (λ y. path_cmp (get_or ks n []) y ≡ Less) (get_or_from_slice_get ks m q [] at_m) less))

-- each package above those of some numbers has a path behind all that are held
abbrev pub StandBefore : Workspace → (ℕ → Type 0) → ExportTable → Type 0
StandBefore w Is i = (m : ℕ) (q : List ℕ) → slice_get (package_paths w) m ≡ Some q → ((n : ℕ) → Is n → n < m) → ComesAfterAll i q
