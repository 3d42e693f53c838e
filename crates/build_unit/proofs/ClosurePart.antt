-- Where the packages of a part are those in the closure of one package, the part is the inputs of this package. Each of its packages has
-- the closure there that it has in the whole.
use Rattle.std.proofs.Common.{◌≡◌, ℕ, ◌<◌, true, List, length, get_or, Some, slice_get, sym, subst, ◌∙◌}
use Rattle.std.specs.FinMap.{entries}
use Rattle.std.specs.List.{Contains}
use Rattle.std.proofs.lemmas.Bool.{and_parts}
use Rattle.std.proofs.lemmas.Option.{same_Some, slice_get_within}
use Rattle.std.specs.Cmp.Lexicographic.{pointwise}
use Rattle.std.specs.Prelude.{◌==◌}
use Rattle.base_files.specs.Path.{folder}
use Rattle.base_files.specs.Packages.{is_go, is_of_package, package_paths, package_files}
use Rattle.base_files.specs.Workspace.{Workspace}
use Rattle.base_files.proofs.PackageFolders.{of_folder}
use Rattle.workspace_graph.specs.Graphs.{ListsPackages, IsPackage}
use Rattle.workspace_graph.specs.Packages.{IsInClosure, itself, through}
use Rattle.build_unit.specs.Parts.{HasNumberIn}
use Rattle.workspace_graph.specs.declared.package.ParsedPackage.{ParsedPackage}
use Rattle.workspace_graph.proofs.ByPath.{has_file, number}
use Rattle.workspace_graph.proofs.ChangedPackages.{moved}
use Rattle.build_unit.proofs.PartPackages.{same_package}
use Rattle.workspace_check.specs.Closures.{HasSameClosure}
use Rattle.workspace_check.proofs.Closed.{to_package}
use Rattle.workspace_check.proofs.Local.{same_within}
use Rattle.workspace_check.proofs.Members.{passes, passed}
use Rattle.workspace_check.proofs.PackageFiles.{package_file}
use Rattle.build_unit.specs.Inputs.{AreInputs, HasClosuresOf, IsClosureAt, part_of}
use Rattle.build_unit.proofs.Part.{own_folder, from_whole, into_part, numbered_file, part_files, part_holds, part_package, part_size}

module _ (w : Workspace) (numbers : List ℕ) where
  abbrev part : Workspace
  part = part_of w numbers

  same_own : (q : List ℕ) → HasNumberIn w numbers q → package_files part q ≡ package_files w q
  same_own = same_package w part numbers (part_files w numbers)

  -- a closure all of whose packages are there stays
  stays : (p q : List ℕ) → ((r : List ℕ) → IsInClosure w p r → HasNumberIn w numbers r) → IsInClosure w p q → IsInClosure part p q
  stays p q all (itself has) =
      let file = package_file w p has in
      itself (has_file part p file.0 (subst (λ es. Contains es file.0) (sym (same_own p (all p (itself has)))) file.1))
  stays p q all (through {q = r} imports rest) =
      let own = all p (itself (has_file w p imports.entry imports.of_package)) in
      through (moved w part p r (sym (same_own p own)) imports) (stays r q (λ s closed. all s (through imports closed)) rest)

  module _ (p : List ℕ) (holds : ListsPackages w (IsInClosure w p) numbers) where
    closed_number : (q : List ℕ) → IsInClosure w p q → HasNumberIn w numbers q
    closed_number q closed =
        let n = number w q (to_package w p q closed) in
        record { number = n.0; among = (holds n.0).1 (q, n.1, closed); has_path = n.1 }

    pub number_closed : (q : List ℕ) → HasNumberIn w numbers q → IsInClosure w p q
    number_closed q is =
        let s = (holds is.number).0 is.among in
        subst (IsInClosure w p) (same_Some s.0 q (sym s.1 ∙ is.has_path)) s.2

    pub part_inputs : Contains (package_paths w) p → AreInputs w p part
    part_inputs has = record {
      is_package = has;
      texts = λ e. (
        λ in_part.
            let is = from_whole w numbers e in_part in
            let own : is_of_package (folder e.0) e.0 ≡ true = own_folder e.0 is.0 in
            (folder e.0, number_closed (folder e.0) is.1, passed (λ d. is_of_package (folder e.0) d.0) (entries w) e own is.2),
        λ text.
            let file = passes (λ d. is_of_package text.0 d.0) (entries w) e text.2 in
            let is = subst (HasNumberIn w numbers) (sym (of_folder text.0 e.0 file.0)) (closed_number text.0 text.1) in
            into_part w numbers e (and_parts (is_go e.0) (pointwise ◌==◌ (folder e.0) text.0) file.0).0 is file.1,
      );
    }

    pub same_closure : HasSameClosure w part p
    same_closure e = (
      λ text. record {
        path = text.path;
        in_closure = stays p text.path closed_number text.in_closure;
        of_package = subst (λ es. Contains es e) (sym (same_own text.path (closed_number text.path text.in_closure))) text.of_package;
      },
      λ text.
          let is = numbered_file w numbers text.path e text.of_package in
          record {
            path = text.path;
            in_closure = number_closed text.path is;
            of_package = subst (λ es. Contains es e) (same_own text.path is) text.of_package;
          },
    )

    pub part_closures : HasClosuresOf w part
    part_closures q has =
        let file = package_file part q has in
        same_within w part p same_closure q (number_closed q (numbered_file w numbers q file.0 file.1))

    pub numbers_within : (n : ℕ) → Contains numbers n → n < length (package_paths w)
    numbers_within n among = let s = (holds n).0 among in slice_get_within (package_paths w) n s.0 s.1

-- ---- the closures of packages in inputs
module _ (w : Workspace) (number : ℕ) (numbers : List ℕ) (is : IsClosureAt w number numbers) where
  pub closures_at : HasClosuresOf w (part_of w numbers)
  closures_at = part_closures w numbers is.path is.holds

  pub within_at : (n : ℕ) → Contains numbers n → n < length (package_paths w)
  within_at = numbers_within w numbers is.path is.holds

  pub size_at : length (package_paths (part_of w numbers)) ≡ length numbers
  size_at = part_size w numbers within_at is.rising

  pub package_at : (i : ℕ) (parsed : ParsedPackage) → i < length numbers → IsPackage w (get_or numbers i 0) parsed →
      IsPackage (part_of w numbers) i parsed
  package_at = part_package w numbers within_at is.rising

  pub there_at : (n : ℕ) (q : List ℕ) → Contains numbers n → slice_get (package_paths w) n ≡ Some q → Contains (package_paths (part_of w numbers)) q
  there_at n q among at = part_holds w numbers within_at is.rising q (record { number = n; among = among; has_path = at })
