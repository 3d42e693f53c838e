-- The first conflict of the imports of a package is the first of each of its moves.
use Rattle.std.proofs.Common.{ℕ, ◌≡◌, ◌<◌, List, [], Option, Some, None, length, refl, sym, ap, subst, ◌∙◌}
use Rattle.std.specs.Prelude.{Contains, slice_get, slice_index_or, unwrap_or}
use Rattle.std.proofs.lemmas.Option.{slice_get-get_or, slice_get_read, slice_get_within}
use Rattle.base_files.specs.Packages.{package_paths}
use Rattle.base_files.specs.Workspace.{Workspace}
use Rattle.base_edits.specs.EditSet.{FileChanges}
use Rattle.base_edits.specs.RevisionsOfEdits.{revision_of}
use Rattle.types_declared.specs.Package.{Package}
use Rattle.types_declared.specs.Written.{DeclaresImport}
use Rattle.workspace_graph.specs.Graphs.{ListsPackages}
use Rattle.workspace_graph.specs.Packages.{PackageImports}
use Rattle.workspace_check.specs.FaultLists.{ListsFaults}
use Rattle.workspace_check.specs.Verdicts.{Verdicts, AreVerdicts}
use Rattle.workspace_check.proofs.Closed.{to_package}
use Rattle.refs_binding.specs.Uses.{IsCheckedPackage}
use Rattle.refs_binding.proofs.Units.{numbered}
use Rattle.refactor_conflict.specs.declared.conflict.Conflict.{Conflict}
use Rattle.refactor_conflict.specs.Conflicts.{IsFirstConflict}
use Rattle.refactor_move.specs.Following.{Follows, IsFollowingName}
use Rattle.refactor_move.specs.Paths.{last_of}
use Rattle.refactor_move.specs.declared.moved.Moved.{Moved}
use Rattle.law_renamed_workspaces.proofs.GoodImports.{imports_are_good}
use Rattle.law_agreement.specs.ScopeConflicts.{HasNoOwnConflict, IsOwnConflict}
use Rattle.law_moves.specs.Moves.{IsMove}
use Rattle.law_moves.specs.MoveConflicts.{IsFreeOfMove, IsMoveConflict, TellsFirstImportConflict}
use Rattle.law_moves.specs.ThereMoved.{IsFollowingImport, followed_name}
use Rattle.law_moves.proofs.ImportTokens.{import_is_counted}
use Rattle.law_moves.proofs.ImportsFollow.{other_name}
use Rattle.law_moves.proofs.MovedScopesLaws.{first, none}
use Rattle.law_moves.proofs.NamesMove.{import_within}
use Rattle.refactor_follow.specs.FirstConflicts.{IsConflictAmong, IsConflictBelow, IsFirstAmong, IsFreeAmong, IsFreeBelow}
use Rattle.refactor_follow.specs.ImportNames.{GetsName}
use Rattle.refactor_follow.specs.MoveConflicts.{IsFirstOfName, TellsMoveConflict}
use Rattle.refactor_follow.proofs.Joining.{first_weaker}

-- an item of a list has an index
pub index_of : (xs : List ℕ) (x : ℕ) → Contains xs x → (i : ℕ) × ((i < length xs) × (slice_get xs i ≡ Some x))
index_of xs x has = (has.0, (has.1, slice_get_read xs (length xs) has.0 x refl has.1 (sym has.2)))

-- the number in a list at an index
pub read_at : (xs : List ℕ) (i : ℕ) → i < length xs → slice_get xs i ≡ Some (slice_index_or xs i 0)
read_at xs i lt = slice_get-get_or xs i 0 lt

-- importers are packages
pub within : (w : Workspace) (path : List ℕ) (numbers : List ℕ) → ListsPackages w (λ q. PackageImports w q path) numbers → (n : ℕ) →
    Contains numbers n → n < length (package_paths w)
within w path numbers lists n has = let x = (lists n).0 has in slice_get_within (package_paths w) n x.0 x.1

module _ (w : Workspace) (sound : ListsFaults w []) (known : Verdicts) (right : AreVerdicts w known) (path name : List ℕ) where
  -- a package with such an import imports the package
  imports_it : (p : Package) → IsCheckedPackage w known p → (d : ℕ) → d < p.size → GetsName p path name d → PackageImports w p.path path
  imports_it p is d lt gets = import_is_counted w known p.path p is.is_checked d lt path gets.bare.imports

  -- where there is no such package no import has it
  pub none_imports : (Contains (package_paths w) path → ⊥) → IsFirstOfName w known path name None
  none_imports nowhere = λ place p is d lt gets.
      absurd (imports_are_good w sound known right p is path (imports_it p is d lt gets) (λ on. nowhere (to_package w p.path path on.imported)))

  -- its importers are all that have one
  pub all_importers : (numbers : List ℕ) → ListsPackages w (λ q. PackageImports w q path) numbers → (told : Option Conflict) →
      IsFirstAmong w known path name numbers (length numbers) told → IsFirstOfName w known path name told
  all_importers numbers lists told first_of =
      first_weaker (IsConflictAmong w known path name numbers (length numbers))
      (λ c. (p : Package) × (IsCheckedPackage w known p × IsConflictBelow (IsCheckedPackage w known) p path name p.size c))
      (IsFreeAmong w known path name numbers (length numbers)) (λ place. (p : Package) → IsCheckedPackage w known p → IsFreeBelow p path name p.size place)
      (λ c k. (k.inside, (k.is_package.is_package, k.conflict)))
      (λ place free p is d lt gets.
      let number = numbered w known p is in
      let among : Contains numbers number.0 = (lists number.0).1 (p.path, number.1.has_number, imports_it p is d lt gets) in
      let i = index_of numbers number.0 among in
      free i.0 number.0 i.1.0 i.1.1 p number.1 d lt gets)
      told first_of

-- the name of a move by the path that its name follows
module _ (w : Workspace) (known : Verdicts) (from called : List ℕ) where
  abbrev Follow : Type 0
  Follow = Follows (IsCheckedPackage w known) from called

  pub name_none : (o : Option (List ℕ)) → IsFollowingName (IsCheckedPackage w known) from called o → (Follow → ⊥) → o ≡ None
  name_none None h not = refl
  name_none (Some n) h not = absurd (not h.0)

  name_some : (o : Option (List ℕ)) (name : List ℕ) → IsFollowingName (IsCheckedPackage w known) from called o → Follow → name ≡ last_of called → o ≡ Some name
  name_some None name h follow same = absurd (h follow)
  name_some (Some n) name h follow same = ap Some (h.1 ∙ sym same)

  -- a package that keeps its name
  pub stays : (Follow → ⊥) → TellsMoveConflict w known from called None
  stays not to s h same =
      none w known from to s h (name_none h.edits.moved.name
      (subst (λ c. IsFollowingName (IsCheckedPackage w known) from c h.edits.moved.name) same h.edits.is_move.name) not)

  -- and one whose name follows
  module _ (name : List ℕ) (follow : Follow) (is_name : name ≡ last_of called) (to : List ℕ) (s : FileChanges) (h : IsMove w known from to s)
      (same : h.called ≡ called) where
    abbrev m : Moved
    m = h.edits.moved

    named : m.name ≡ Some name
    named = name_some m.name name (subst (λ c. IsFollowingName (IsCheckedPackage w known) from c m.name) same h.edits.is_move.name) follow is_name

    called_so : followed_name m ≡ name
    called_so = ap (λ o. unwrap_or o []) named

    to_follow : (p : Package) (d : ℕ) → GetsName p from name d → IsFollowingImport m p d
    to_follow p d gets = record {
      follows = named ∙ ap Some (sym called_so);
      imports = subst (DeclaresImport p d) (sym h.edits.is_move.source) gets.bare.imports;
      unnamed = gets.bare.unnamed;
    }

    to_gets : (p : Package) → IsCheckedPackage w known p → (d : ℕ) → IsFollowingImport m p d → GetsName p from name d
    to_gets p is d follows = record {
      bare = record { imports = subst (DeclaresImport p d) h.edits.is_move.source follows.imports; unnamed = follows.unnamed };
      other = λ e. other_name w known from to s h p is d follows (e ∙ sym called_so);
    }

    first_of_move : (told : Option Conflict) → IsFirstOfName w known from name told → TellsFirstImportConflict (IsCheckedPackage w known) m told
    first_of_move told k =
        first_weaker (λ c. (p : Package) × (IsCheckedPackage w known p × IsConflictBelow (IsCheckedPackage w known) p from name p.size c))
        (IsMoveConflict (IsCheckedPackage w known) m) (λ place. (p : Package) → IsCheckedPackage w known p → IsFreeBelow p from name p.size place)
        (IsFreeOfMove (IsCheckedPackage w known) m)
        (λ c x. (
          x.0,
          (
            x.1.0,
            (
              x.1.1.import,
              (
                to_follow x.0 x.1.1.import x.1.1.gets,
                subst (λ n. IsOwnConflict (IsCheckedPackage w known) x.0 x.1.1.import n c) (sym called_so) x.1.1.conflict,
              ),
            ),
          ),
        ))
        (λ place free p is d follows.
        subst (λ n. HasNoOwnConflict p d n place) (sym called_so)
        (free p is d (import_within w known from to s h p is d follows.imports.is_import) (to_gets p is d follows)))
        told k

    told_of_move : (told : Option Conflict) → IsFirstOfName w known from name told → IsFirstConflict w known (revision_of w s) told
    told_of_move told k = first w known from to s h told (first_of_move told k)

  pub follows : (name : List ℕ) → Follow → name ≡ last_of called → (told : Option Conflict) → IsFirstOfName w known from name told →
      TellsMoveConflict w known from called told
  follows name follow is_name told k to s h same = told_of_move name follow is_name to s h same told k

  -- by what is found of the name

  pub told_of_none : (o : Option (List ℕ)) → o ≡ None → IsFollowingName (IsCheckedPackage w known) from called o → TellsMoveConflict w known from called None
  told_of_none o is h = stays (subst (IsFollowingName (IsCheckedPackage w known) from called) is h)

  pub told_of_some : (o : Option (List ℕ)) (name : List ℕ) → o ≡ Some name → IsFollowingName (IsCheckedPackage w known) from called o → (path new : List ℕ) →
      path ≡ from → new ≡ name → (told : Option Conflict) → IsFirstOfName w known path new told → TellsMoveConflict w known from called told
  told_of_some o name is h path new same_path same_name told k =
      let own : Follow × (name ≡ last_of called) = subst (IsFollowingName (IsCheckedPackage w known) from called) is h in
      follows name own.0 own.1 told (subst (λ p. IsFirstOfName w known p name told) same_path (subst (λ n. IsFirstOfName w known path n told) same_name k))
