-- The names of methods after a plain rename: each has the name of its type, and its own.
use Rattle.std.proofs.Common.{ℕ, ◌≡◌, ◌<◌, [], Some, ap, sym, subst, ◌∙◌}
use Rattle.std.specs.Prelude.{slice_get}
use Rattle.std.proofs.lemmas.Option.{same_Some}
use Rattle.base_edits.specs.EditSet.{FileChanges}
use Rattle.base_files.specs.Workspace.{Workspace}
use Rattle.go_ast.specs.Tree.{ReceiverTree}
use Rattle.go_scope.specs.Bindings.{IsPackageLevel, block_of}
use Rattle.types_declared.specs.Definitions.{IsMethodOf}
use Rattle.types_declared.specs.Package.{Package, PlacedFunction, package_types, package_functions, type_place, spelled}
use Rattle.types_declared.specs.Written.{DeclaresType}
use Rattle.types_info.proofs.DeclKinds.{holds_got}
use Rattle.workspace_check.specs.FaultLists.{ListsFaults}
use Rattle.workspace_check.specs.Verdicts.{Verdicts, AreVerdicts}
use Rattle.refs_binding.specs.Uses.{IsCheckedPackage}
use Rattle.law_faultless.proofs.Declared.{may_within}
use Rattle.law_faultless.proofs.PackageWorlds.{have_all_worlds}
use Rattle.law_faultless.proofs.Scoped.{in_order}
use Rattle.law_faultless.proofs.WholeBound.{method_of}
use Rattle.law_tokens.proofs.Ordered.{one_stands}
use Rattle.law_renamed_workspaces.proofs.OwnNames.{counted}
use Rattle.law_renamed_workspaces.specs.VerdictsStay.{IsPackageAfter}
use Rattle.law_objects.specs.Replaced.{Replaced}
use Rattle.law_objects.proofs.LevelNames.{type_stands}
use Rattle.law_objects.proofs.MovesFrom.{LevelsMove, bound}
use Rattle.law_objects.proofs.NamesMoved.{named_at, AreNames}

module _ (w : Workspace) (sound : ListsFaults w []) (before : Verdicts) (right : AreVerdicts w before) (p : Package) (was : IsCheckedPackage w before p) where
  -- a function with a receiver is a method
  pub is_method : (rank : ℕ) (f : PlacedFunction) → slice_get (package_functions p) rank ≡ Some f → (t : ReceiverTree) → f.function.receiver ≡ Some t →
      (definition : ℕ) × IsMethodOf p definition (spelled p f.file f.function.name) rank f
  is_method rank f at t e = method_of w sound before right p was (have_all_worlds w sound before right p was) rank f at t e

  -- what declares a type is package-level
  pub type_level : (d rank : ℕ) → d < p.size → DeclaresType p d rank → IsPackageLevel p.layout d
  type_level d rank lt declares =
      let v = type_stands w before p was declares.item (holds_got (package_types p) rank declares.item declares.has_rank) in
      let same : v.0 ≡ d =
      one_stands p.layout p.size (in_order w before p.path p was.is_checked) (type_place declares.item) v.0 d v.1.0 lt v.1.1.0 declares.stands in
      ap (λ u. block_of (p.layout.role u)) (sym same) ∙ ap block_of v.1.1.1

module _ (w : Workspace) (before after : Verdicts) (sound : ListsFaults w []) (right : AreVerdicts w before) (s : FileChanges) (p q : Package)
    (here : IsPackageAfter w before after s p q) (r : Replaced) (names : AreNames r) (levels : LevelsMove r p q) where
  -- the name of the type of a method
  pub receiver_moves : (rank : ℕ) (f : PlacedFunction) (t : ReceiverTree) → slice_get (package_functions p) rank ≡ Some f → f.function.receiver ≡ Some t →
      r.global (named_at p.path p f.file t.type_name) ≡ named_at p.path q f.file t.type_name
  receiver_moves rank f t at e =
      let m = is_method w sound before right p here.was rank f at t e in
      let same : m.1.receiver ≡ t = same_Some m.1.receiver t (sym m.1.received ∙ e) in
      let d = m.1.declaration in
      let counts = counted p.layout p.names m.1.binds.identifier d m.1.binds.bound in
      let lt = may_within w before p.path p here.was.is_checked d counts.declares.may in
      let level = type_level w sound before right p here.was d m.0 lt m.1.of_type in
      subst (λ (z : ReceiverTree). r.global (named_at p.path p f.file z.type_name) ≡ named_at p.path q f.file z.type_name) same
      (bound w before after sound right s p q here r names levels f.file m.1.receiver.type_name d m.1.binds level)
