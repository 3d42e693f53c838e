-- A decision makes a rename a plain one, and tells its first conflict.
use Rattle.std.proofs.Common.{ℕ, ◌≡◌, inr, List, Option, Some, None, sym, subst, refl}
use Rattle.std.specs.Prelude.{[]}
use Rattle.base_files.specs.Workspace.{Workspace}
use Rattle.base_files.specs.declared.place.Place.{Place}
use Rattle.base_edits.specs.EditSet.{FileChanges}
use Rattle.base_edits.specs.Fits.{Fits}
use Rattle.base_edits.specs.RevisionsOfEdits.{revision_of}
use Rattle.go_scope.specs.Bindings.{own}
use Rattle.types_declared.specs.Package.{Package}
use Rattle.workspace_check.specs.FaultLists.{ListsFaults}
use Rattle.workspace_check.specs.Verdicts.{Verdicts, AreVerdicts}
use Rattle.refs_binding.specs.declared.declaration.Declaration.{Declaration}
use Rattle.refs_binding.specs.declared.declaration.Declaration.TheVariants.{Declared}
use Rattle.refs_binding.specs.Binding.{by_scope}
use Rattle.refs_binding.specs.DeclaredNames.{HasDeclaredName}
use Rattle.refs_binding.specs.Uses.{IsCheckedPackage, IsUseOf}
use Rattle.refs_binding.proofs.Units.{one_package}
use Rattle.refactor_rename.specs.declared.renamed.Literal.{Literal}
use Rattle.refactor_rename.specs.Literals.{IsLiteralFound, IsPathLiteralIn, IsPathLiteralOf, IsUnnamedImport}
use Rattle.refactor_rename.specs.Naming.{IsFixed, IsReservedFor}
use Rattle.refactor_rename.specs.NewName.{IsNewName}
use Rattle.refactor_rename.specs.RenameEdits.{AreRenameEdits}
use Rattle.refactor_conflict.specs.Conflicts.{IsFirstConflict}
use Rattle.law_renamed_workspaces.specs.Renames.{IsPlainRename, IsSetWith}
use Rattle.law_renamed_workspaces.proofs.OwnNames.{identifies}
use Rattle.law_renamed_workspaces.specs.KnownVerdicts.{IsHidden, IsHiddenIn}
use Rattle.law_agreement.specs.ScopeRenames.{IsRenameIn}
use Rattle.law_agreement.specs.ScopeConflicts.{FirstConflictsAreTold}
use Rattle.refactor_decide.specs.Deciding.{Decides}
use Rattle.refactor_decide.specs.Own.{CanRename}
use Rattle.refactor_decide.specs.declared.decision.ScopeDecision.{ScopeDecision}
use Rattle.refactor_decide.proofs.Written.{all_count, written_begins}

-- no literal where none is found
pub no_literal : (K : Literal → Type 0) → ((l : Literal) → K l → ⊥) → (o : Option Literal) → IsLiteralFound K o → o ≡ None
no_literal K not None h = refl
no_literal K not (Some l) h = absurd (not l h)

module _ (w : Workspace) (known : Verdicts) (p : Package) (is : IsCheckedPackage w known p) (n : ℕ) (name : List ℕ) (d : ScopeDecision)
    (h : Decides w known p n name d) where
  abbrev can : CanRename p n name
  can = h.can

  module _ (sound : ListsFaults w []) (right : AreVerdicts w known) (named : IsUnnamedImport p n → ⊥) where
    used : (place : Place) × IsUseOf w known (Declared p.path n) place
    used =
        let there = written_begins w sound known right p is n can.within
        (identifies w known p.path p is.is_checked n can.own, λ import literal. named (import, literal)) (inr can.declares.may) in (
          there.0,
          record {
            used_in = p;
            is_package = is;
            user = n;
            begins = there.1;
            bound = by_scope (refl, can.own, own refl (all_count w sound known right p is n can.declares));
          },
        )

    -- the declaration is no import without a name
    has_name : (l : Literal) → IsPathLiteralOf (IsCheckedPackage w known) (Declared p.path n) l → ⊥
    has_name l literal =
        let here : IsPathLiteralIn p n l =
        subst (λ (x : Package). IsPathLiteralIn x n l) (one_package w known literal.inside p literal.is_package is literal.of_path) literal.holds in
        named here.1

    pub plain : (s : FileChanges) → IsNewName name → (IsFixed (IsCheckedPackage w known) (Declared p.path n) → ⊥) →
        (IsReservedFor (IsCheckedPackage w known) (Declared p.path n) name → ⊥) → (HasDeclaredName (IsCheckedPackage w known) (Declared p.path n) name → ⊥) →
        (set : List Declaration) → IsSetWith (IsCheckedPackage w known) (Declared p.path n) set →
        AreRenameEdits w known (Declared p.path n) set name s → Fits s w → IsPlainRename w known (Declared p.path n) name s
    plain s form renamable allowed other set is_set edits fit = record {
      rename = record {
        right = right;
        sound = sound;
        form = form;
        renamable = renamable;
        allowed = allowed;
        other = other;
        used = used;
        set = set;
        is_set = is_set;
        edits = edits;
        fit = fit;
      };
      plain = no_literal (IsPathLiteralOf (IsCheckedPackage w known) (Declared p.path n)) has_name edits.renamed.literal edits.is_renamed.literal;
    }

    -- what it renames
    pub plain_set : (s : FileChanges) (form : IsNewName name) (renamable : IsFixed (IsCheckedPackage w known) (Declared p.path n) → ⊥)
        (allowed : IsReservedFor (IsCheckedPackage w known) (Declared p.path n) name → ⊥)
        (other : HasDeclaredName (IsCheckedPackage w known) (Declared p.path n) name → ⊥) (set : List Declaration)
        (is_set : IsSetWith (IsCheckedPackage w known) (Declared p.path n) set) (edits : AreRenameEdits w known (Declared p.path n) set name s)
        (fit : Fits s w) → (plain s form renamable allowed other set is_set edits fit).rename.set ≡ set
    unfolding plain
    plain_set s form renamable allowed other set is_set edits fit = refl

  -- other packages see the declaration under neither name
  pub is_hidden : IsHiddenIn p n name → IsHidden w known (Declared p.path n) name
  is_hidden hidden = λ x also e. subst (λ (y : Package). IsHiddenIn y n name) (one_package w known p x is also (sym e)) hidden

  -- The decision has the first conflict.
  pub first_told : FirstConflictsAreTold → (s : FileChanges) → IsPlainRename w known (Declared p.path n) name s →
      IsFirstConflict w known (revision_of w s) d.conflict
  first_told told s rename =
      let first = h.first in
      let in_package : IsRenameIn w known p n name s = record { rename = rename; is_package = is } in
      subst (IsFirstConflict w known (revision_of w s)) (sym first.is_told)
      (told w known p n name s in_package first.own first.behind
      first.first_own first.first_behind)
