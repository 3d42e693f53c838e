-- Each definition of a package without faults has its line in the object.
use Rattle.std.proofs.Common.{ℕ, suc, ◌≡◌, ◌+◌, List, [], ◌∷◌, ◌++◌, length, map, Some, ap, sym, subst, refl, ◌∙◌, arith}
use Rattle.std.proofs.Common.{length-append}
use Rattle.std.specs.Prelude.{slice_get}
use Rattle.std.specs.List.{flat_map, enumerate_from}
use Rattle.base_files.specs.Workspace.{Workspace}
use Rattle.base_lemmas.proofs.EachElement.{all_back}
use Rattle.go_ast.specs.SourceFile.{SourceFile, spelling_of}
use Rattle.go_scope.specs.FileSites.{imports_sites, decl_sites, file_sites}
use Rattle.go_scope.specs.Site.{TokenSpellings as Spelled}
use Rattle.law_typing.specs.Declarations.{FileIsTyped, a_file}
use Rattle.types_declared.specs.Files.{ranked_files}
use Rattle.types_declared.specs.Package.{Package, PlacedType, PlacedFunction, decl_types, types_in, package_types, functions_in, decl_functions}
use Rattle.types_declared.specs.Package.{declared_functions}
use Rattle.types_info.specs.Worlds.{is_init}
use Rattle.types_info.proofs.DeclKinds.{Holds, held_flat}
use Rattle.workspace_check.specs.FaultLists.{ListsFaults}
use Rattle.workspace_check.specs.Verdicts.{Verdicts, AreVerdicts}
use Rattle.refs_binding.specs.Uses.{IsCheckedPackage}
use Rattle.build_object.specs.Lines.{FunctionName}
use Rattle.build_object.specs.Names.{functions_behind, function_names, initializers_with}
use Rattle.build_object.specs.Objects.{ObjectDeclaration, Object, declared_in, names_behind_all, declared_from}
use Rattle.build_object.specs.Source.{Source}
use Rattle.build_object.specs.Sources.{IsSourceOf, IsObjectOf}
use Rattle.build_unit.specs.Units.{AreFilesBelow}
use Rattle.law_faultless.proofs.Bound.{file_typed}
use Rattle.law_faultless.proofs.GlobalsDecided.{held_ranked}
use Rattle.law_faultless.proofs.TypesBound.{Kept, all_kept}
use Rattle.law_faultless.specs.Lines.{Placed, placed_by, placed_in_file, HaveLines, none_left, HasEachLine, ObjectsHaveLines, TextsHaveLines}
use Rattle.law_faultless.proofs.DeclarationLines.{decls_lined, names_left}
use Rattle.law_faultless.proofs.MembersSettled.{functions_long}

module _ (w : Workspace) (sound : ListsFaults w []) (known : Verdicts) (right : AreVerdicts w known) (p : Package) (is : IsCheckedPackage w known p)
    (files_of : List ℕ → List SourceFile) (below : AreFilesBelow w p.path files_of) where
  -- a file of the package with the source of its code
  IsFileAt : ℕ → SourceFile → Source → Type 0
  IsFileAt file f s = (slice_get p.files file ≡ Some f) × IsSourceOf p files_of file f s

  -- the types of a file are types of the package
  types_here : (file : ℕ) (f : SourceFile) → slice_get p.files file ≡ Some f → (z : PlacedType) → Holds (flat_map (decl_types file) f.tree.decls) z →
      Holds (package_types p) z
  types_here file f at z h =
      let r = held_ranked 0 p.files file f at in
      let same : r.0 ≡ file = let e : r.0 ≡ 0 + file = r.1.0 in omega (arith, e) in
      held_flat types_in (ranked_files p.files) (r.0, f) z r.1.1 (subst (λ k. Holds (flat_map (decl_types k) f.tree.decls) z) (sym same) h)

  file_lined : (file : ℕ) (f : SourceFile) (s : Source) → IsFileAt file f s → FileIsTyped s.world (is_init f) f.tree → (names : List FunctionName) (k : ℕ) →
      length names ≡ length (flat_map (decl_functions file) f.tree.decls) + k → (rest : List Placed) (tail : List ObjectDeclaration) →
      HaveLines p files_of (names_behind_all names f.tree.decls) rest tail →
      HaveLines p files_of names (flat_map (placed_by file) f.tree.decls ++ rest) (declared_in s names f.tree.decls ++ tail)
  unfolding IsFileAt file_sites
  file_lined file f s here (a_file typed) names k long rest tail h =
      let kept = all_kept w known p.path p is.is_checked file f here.0 in
      let code = let z : Spelled = record { rank = file; spell = spelling_of f } in z in
      decls_lined w sound known right p is files_of below file f here.0 s here.1 f.tree.decls
      (types_here file f here.0) typed
      (all_back (Kept p file) (flat_map (imports_sites code) f.tree.imports) (flat_map (decl_sites code) f.tree.decls) kept.1) names k long rest tail h

  files_lined : (n : ℕ) (ss : List Source) (fs : List SourceFile) → length ss ≡ length fs →
      ((i : ℕ) (f : SourceFile) (s : Source) → slice_get fs i ≡ Some f → slice_get ss i ≡ Some s → IsFileAt (n + i) f s) → (names : List FunctionName) →
      length names ≡ length (flat_map functions_in (enumerate_from n fs)) →
      HaveLines p files_of names (flat_map placed_in_file (enumerate_from n fs)) (declared_from ss names (map (λ f. f.tree) fs))
  unfolding IsFileAt declared_from
  files_lined n [] [] same each [] long = none_left
  files_lined n [] [] same each (name ∷ names) long = let e : suc (length names) ≡ 0 = long in absurd (omega arith)
  files_lined n [] (f ∷ fs) same each names long = let e : 0 ≡ suc (length fs) = same in absurd (omega arith)
  files_lined n (s ∷ ss) [] same each names long = let e : suc (length ss) ≡ 0 = same in absurd (omega arith)
  files_lined n (s ∷ ss) (f ∷ fs) same each names long =
      let there = each 0 f s refl refl in
      let zero_more : n + 0 ≡ n = omega arith in
      let here : IsFileAt n f s = subst (λ k. IsFileAt k f s) zero_more there in
      let later = length (flat_map functions_in (enumerate_from (n + 1) fs)) in
      let both = length-append (flat_map (decl_functions n) f.tree.decls) (flat_map functions_in (enumerate_from (n + 1) fs)) in
      let all : length names ≡ length (flat_map (decl_functions n) f.tree.decls ++ flat_map functions_in (enumerate_from (n + 1) fs)) = long in
      let enough : length names ≡ length (flat_map (decl_functions n) f.tree.decls) + later = all ∙ both in
      file_lined n f s here (file_typed w sound known right p is n f here.0 s.world here.1.world) names later enough
      (flat_map placed_in_file (enumerate_from (n + 1) fs)) (declared_from ss (names_behind_all names f.tree.decls) (map (λ x. x.tree) fs))
      (files_lined (n + 1) ss fs (let e : suc (length ss) ≡ suc (length fs) = same in omega arith)
      (λ i g t a b. subst (λ k. IsFileAt k g t) (let e : n + suc i ≡ n + 1 + i = omega arith in e) (each (suc i) g t a b))
      (names_behind_all names f.tree.decls) (names_left n f.tree.decls names later enough))

  pub object_lined : (o : Object) → IsObjectOf p files_of o → HasEachLine p files_of o
  unfolding IsFileAt
  object_lined o made =
      subst (λ (z : Object). HasEachLine p files_of z) (sym made.is_object)
      (files_lined 0 made.sources p.files made.all
      (λ i f s a b. subst (λ k. IsFileAt k f s) (let e : i ≡ 0 + i = omega arith in e) (a, made.made_of i f s a b))
      (function_names p.path p.files) (functions_long p.path p.files 0 (declared_functions p.files)))

pub objects_have_lines : ObjectsHaveLines
objects_have_lines w sound known right p is files_of below o made = object_lined w sound known right p is files_of below o made

pub texts_have_lines : TextsHaveLines
texts_have_lines w sound known right p is files_of below text made = record {
  object = made.object;
  printed = made.printed;
  lines = object_lined w sound known right p is files_of below made.object made.of_package;
}
