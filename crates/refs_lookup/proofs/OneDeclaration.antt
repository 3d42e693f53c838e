-- An identifier is bound to at most one declaration, and so is the identifier at a place.
use Rattle.std.proofs.Common.{ℕ, ◌≡◌, List, sym, subst, ◌∙◌}
use Rattle.base_files.specs.Workspace.{Workspace}
use Rattle.base_files.specs.declared.place.Place.{Place}
use Rattle.types_declared.specs.Package.{Package}
use Rattle.workspace_check.specs.Verdicts.{Verdicts}
use Rattle.workspace_check.proofs.OnePackage.{layout_formed, files_in_order}
use Rattle.refs_binding.specs.declared.declaration.Declaration.{Declaration}
use Rattle.refs_binding.specs.Binding.{by_scope, by_package, by_member, by_name}
use Rattle.refs_binding.specs.Identifiers.{IsInFiles, BeginsAt, named_by}
use Rattle.refs_binding.specs.Uses.{IsCheckedPackage, IsBoundToDeclaration, BindsThroughLiteral, IsUseOf, HasDeclaration}
use Rattle.refs_binding.proofs.Excluding.{one_by_scope, one_by_package, not_both}
use Rattle.refs_lookup.proofs.NamedMembers.{name_not_scope, name_not_package}
use Rattle.refs_lookup.proofs.OnePlace.{one_begins, one_asked}
use Rattle.refs_binding.proofs.Units.{one_package}
use Rattle.refs_lookup.proofs.UsedMembers.{one_member, member_not_scope, member_not_name}
use Rattle.refs_binding.proofs.Folders.{begins_in_folder}
use Rattle.refs_lookup.proofs.LiteralNames.{name_stands}
use Rattle.refs_lookup.proofs.BoundNamedMembers.{one_by_name}
use Rattle.refs_lookup.proofs.BoundUsedMembers.{member_not_package}

module _ (w : Workspace) (known : Verdicts) (p : Package) (is : IsCheckedPackage w known p) (u : ℕ) (stands : IsInFiles p u) where
  pub one_declaration : (d e : Declaration) → IsBoundToDeclaration w known p u d → IsBoundToDeclaration w known p u e → d ≡ e
  one_declaration d e (by_scope a) (by_scope b) = one_by_scope p (layout_formed w known p.path p is.is_checked) u d e a b
  one_declaration d e (by_scope a) (by_package b) = absurd (not_both (IsCheckedPackage w known) p u d e a b)
  one_declaration d e (by_scope a) (by_member b) = absurd (member_not_scope w known p.path p is.is_checked u e d stands b a)
  one_declaration d e (by_scope a) (by_name b) = absurd (name_not_scope w known p.path p is.is_checked u e d stands.0 b a)
  one_declaration d e (by_package a) (by_scope b) = absurd (not_both (IsCheckedPackage w known) p u e d b a)
  one_declaration d e (by_package a) (by_package b) = one_by_package w known p is u d e a b
  one_declaration d e (by_package a) (by_member b) = absurd (member_not_package w known p.path p is.is_checked (IsCheckedPackage w known) u e d stands b a)
  one_declaration d e (by_package a) (by_name b) = absurd (name_not_package w known p.path p is.is_checked (IsCheckedPackage w known) u e d stands.0 b a)
  one_declaration d e (by_member a) (by_scope b) = absurd (member_not_scope w known p.path p is.is_checked u d e stands a b)
  one_declaration d e (by_member a) (by_package b) = absurd (member_not_package w known p.path p is.is_checked (IsCheckedPackage w known) u d e stands a b)
  one_declaration d e (by_member a) (by_member b) =
      one_member w known p.path p is.is_checked (p.layout.place u).file (p.layout.place u).index d e a b
  one_declaration d e (by_member a) (by_name b) = absurd (member_not_name w known p.path p is.is_checked u d e stands a b)
  one_declaration d e (by_name a) (by_scope b) = absurd (name_not_scope w known p.path p is.is_checked u d e stands.0 a b)
  one_declaration d e (by_name a) (by_package b) = absurd (name_not_package w known p.path p is.is_checked (IsCheckedPackage w known) u d e stands.0 a b)
  one_declaration d e (by_name a) (by_member b) = absurd (member_not_name w known p.path p is.is_checked u e d stands b a)
  one_declaration d e (by_name a) (by_name b) = one_by_name p (files_in_order w known p.path p is.is_checked) u d e a b

-- one identifier of one package begins at a place

module _ (w : Workspace) (known : Verdicts) (place : Place) where
  pub same_package : (p q : Package) → IsCheckedPackage w known p → IsCheckedPackage w known q → (u v : ℕ) → BeginsAt p place.path place.offset u →
      BeginsAt q place.path place.offset v → p ≡ q
  same_package p q a b u v x y =
      one_package w known p q a b
      (begins_in_folder w known p a place.path place.offset u x ∙ sym (begins_in_folder w known q b place.path place.offset v y))

  pub one_used : (d e : Declaration) → IsUseOf w known d place → IsUseOf w known e place → d ≡ e
  one_used d e a b =
      let p = a.used_in in
      let same : b.used_in ≡ p = sym (same_package p b.used_in a.is_package b.is_package a.user b.user a.begins b.begins) in
      let begins : BeginsAt p place.path place.offset b.user = subst (λ (x : Package). BeginsAt x place.path place.offset b.user) same b.begins in
      let user : b.user ≡ a.user = one_begins w known p.path p a.is_package.is_checked place.path place.offset b.user a.user begins a.begins in
      let bound : IsBoundToDeclaration w known p b.user e = subst (λ (x : Package). IsBoundToDeclaration w known x b.user e) same b.bound in
      one_declaration w known p a.is_package a.user a.begins.0 d e a.bound (subst (λ v. IsBoundToDeclaration w known p v e) user bound)

pub one_held : (w : Workspace) (known : Verdicts) (path : List ℕ) (offset : ℕ) (d e : Declaration) → HasDeclaration w known path offset d →
    HasDeclaration w known path offset e → d ≡ e
one_held w known path offset d e a b =
    let p = a.asked_in in
    let same = one_asked w known path offset b.asked_in p b.number a.number b.is_asked a.is_asked b.at a.at in
    let bound : BindsThroughLiteral w known p b.number e = subst (λ (x : Package). BindsThroughLiteral w known x b.number e) same.0 b.bound in
    one_declaration w known p a.is_asked.is_package (named_by p.layout a.number)
    (name_stands w known p.path p a.is_asked.is_package.is_checked a.number a.at.0) d e a.bound
    (subst (λ v. BindsThroughLiteral w known p v e) same.1 bound)
