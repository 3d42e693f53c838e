-- Some identifier is bound to each import of a package without faults.
use Rattle.std.proofs.Common.{ℕ, ◌≡◌, inl, inr, true, List, [], refl, sym, ◌∙◌}
use Rattle.std.specs.Prelude.{◌∷◌, Contains}
use Rattle.std.proofs.lemmas.Bool.{true≢false}
use Rattle.base_lemmas.proofs.Elements.{first_in, nothing_in}
use Rattle.base_files.specs.Workspace.{Workspace}
use Rattle.base_files.specs.declared.place.Place.{Place}
use Rattle.go_scope.specs.declared.model.Block.TheVariants.{File, Inner, Universe}
use Rattle.go_scope.specs.declared.model.Role.{Role}
use Rattle.go_scope.specs.declared.model.Role.TheVariants.{Declaring, Implied, LeftName, NotLexical, Use}
use Rattle.go_scope.specs.Bindings.{Declares, IsBoundTo, IsImport, IsUse, block_of, is_use}
use Rattle.types_declared.specs.Package.{Package}
use Rattle.workspace_check.specs.FaultLists.{ListsFaults}
use Rattle.workspace_check.specs.Verdicts.{Verdicts, AreVerdicts}
use Rattle.workspace_check.proofs.OnePackage.{layout_formed}
use Rattle.refs_binding.specs.declared.declaration.Declaration.TheVariants.{Declared}
use Rattle.refs_binding.specs.Binding.{IsPredeclaredNumber, by_scope}
use Rattle.refs_binding.specs.Uses.{IsCheckedPackage, IsUseOf}
use Rattle.law_renamed_workspaces.proofs.KeptBindings.{IsPlain, lexical, plain_stands}
use Rattle.law_renamed_workspaces.proofs.OwnNames.{bound_within}
use Rattle.law_renamed_workspaces.proofs.SameBindings.{imports_used}
use Rattle.law_renamed_workspaces.proofs.SameNames.{left_roles, use_identifies}

-- a use declares in no file block
use_no_import : (r : Role) (f : ℕ) → is_use r ≡ true → block_of r ≡ File f → ⊥
use_no_import Use f u e = let z : Universe ≡ File f = e in cc
use_no_import (Declaring b s) f u e = true≢false (sym u)
use_no_import (LeftName b s) f u e = true≢false (sym u)
use_no_import (Implied b s) f u e = true≢false (sym u)
use_no_import (NotLexical x) f u e = true≢false (sym u)

module _ (w : Workspace) (sound : ListsFaults w []) (known : Verdicts) (right : AreVerdicts w known) (p : Package) (is : IsCheckedPackage w known p) where
  plain_user : (u n : ℕ) → IsUse p.layout p.names u → IsBoundTo p.layout p.names u n → IsPlain p.layout u
  plain_user u n (inl used) bound = record {
    identifies = use_identifies (p.layout.role u) used;
    no_import = λ import. use_no_import (p.layout.role u) import.0 used import.1;
    is_lexical = lexical p.layout p.names u n bound;
  }
  plain_user u n (inr left) bound = record {
    identifies = (left_roles (p.layout.role u) left.0).1;
    no_import = λ import.
        let i = (layout_formed w known p.path p is.is_checked).left_inner u left.0 in
        let z : File import.0 ≡ Inner i.0 i.1 i.2 = sym import.1 ∙ i.3 in
        cc;
    is_lexical = lexical p.layout p.names u n bound;
  }

  -- some identifier is bound to an import, as the places of its uses are listed
  pub import_used : (n : ℕ) → IsImport p.layout n → Declares p.layout p.names n → (IsPredeclaredNumber n → ⊥) → (places : List Place) →
      ((place : Place) → IsUseOf w known (Declared p.path n) place → Contains places place) →
      ((place : Place) → Contains places place → IsUseOf w known (Declared p.path n) place) → (place : Place) × IsUseOf w known (Declared p.path n) place
  import_used n import declares own (place ∷ rest) listed uses = (place, uses place (first_in place rest))
  import_used n import declares own [] listed uses = absurd (imports_used w sound known right p is n import declares (λ u used bound.
      let there = plain_stands w known p is u (bound_within w known p.path p is.is_checked u n bound) (plain_user u n used bound) in
      nothing_in there.0
      (listed there.0 (record { used_in = p; is_package = is; user = u; begins = there.1; bound = by_scope (refl, own, bound) }))))
