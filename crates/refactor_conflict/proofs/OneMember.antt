-- A name is one member of a type at most, also under new names.
use Rattle.std.proofs.Common.{ℕ, ◌≡◌, ◌∙◌, List, ap, sym, subst}
use Rattle.std.specs.Prelude.{Option}
use Rattle.std.proofs.lemmas.Option.{same_Some}
use Rattle.base_files.specs.Workspace.{Workspace}
use Rattle.types_expr.specs.declared.symbol.Symbol.{Symbol}
use Rattle.types_expr.specs.Types.{PlainType, Underlying}
use Rattle.types_expr.specs.World.{field_owner, owner}
use Rattle.types_declared.specs.Package.{Package}
use Rattle.workspace_check.specs.Verdicts.{Verdicts}
use Rattle.base_edits.specs.Revisions.{Revision}
use Rattle.refs_binding.specs.declared.declaration.Declaration.{Declaration}
use Rattle.refs_binding.specs.declared.declaration.Declaration.TheVariants.{Predeclared, Declared, Field, Method}
use Rattle.refs_binding.specs.Uses.{IsCheckedPackage}
use Rattle.refs_binding.proofs.Units.{one_package}
use Rattle.refactor_conflict.specs.NamesAfter.{IsFieldAfter, IsMethodAfter}
use Rattle.refactor_conflict.specs.MembersAfter.{IsFirst, IsFirstField, IsFieldIn, IsMethodIn, IsFieldOfStruct}
use Rattle.refactor_conflict.specs.MembersAfter.{IsMethodOfOwner, IsMemberAfter}
use Rattle.refactor_conflict.proofs.FieldsAfter.{one_first}

same_symbol : (s u : Symbol) → s.package ≡ u.package → s.rank ≡ u.rank → s ≡ u
same_symbol s u e f =
    ap (λ (q : List ℕ). record { «package» = q; rank = s.rank }) e ∙ ap (λ (n : ℕ). record { «package» = u.package; rank = n }) f

module _ (w : Workspace) (known : Verdicts) (r : Revision) (own name : List ℕ) where
  one_field : (of : Symbol) (a b : ℕ) → IsFieldIn (IsCheckedPackage w known) r own name of a → IsFieldIn (IsCheckedPackage w known) r own name of b → a ≡ b
  one_field of a b h k =
      let x = h.has in
      let y = k.has in
      let same : x.inside ≡ y.inside = one_package w known x.inside y.inside x.is_package y.is_package (x.of_path ∙ sym y.of_path) in
      one_first (IsFieldAfter r y.inside of.rank name) a b (subst (λ (p : Package). IsFirstField r p of.rank name a) same x.holds) y.holds

  one_method : (of : Symbol) (a b : ℕ) → IsMethodIn (IsCheckedPackage w known) r own name of a → IsMethodIn (IsCheckedPackage w known) r own name of b → a ≡ b
  one_method of a b h k =
      let x = h.has in
      let y = k.has in
      let same : x.inside ≡ y.inside = one_package w known x.inside y.inside x.is_package y.is_package (x.of_path ∙ sym y.of_path) in
      one_first (IsMethodAfter r y.inside of.rank name) a b
      (subst (λ (p : Package). IsFirst (IsMethodAfter r p of.rank name) a) same x.holds.has) y.holds.has

  one_field_of : (struct : Option Symbol) (s u : Symbol) → IsFieldOfStruct (IsCheckedPackage w known) r own name struct s →
      IsFieldOfStruct (IsCheckedPackage w known) r own name struct u → s ≡ u
  one_field_of struct s u h k =
      let same : h.of_struct ≡ k.of_struct = same_Some h.of_struct k.of_struct (sym h.is_struct ∙ k.is_struct) in
      same_symbol s u (h.of_package ∙ ap (λ (x : Symbol). x.package) same ∙ sym k.of_package)
      (one_field k.of_struct s.rank u.rank (subst (λ (x : Symbol). IsFieldIn (IsCheckedPackage w known) r own name x s.rank) same h.has) k.has)

  one_method_of : (of : Option Symbol) (s u : Symbol) → IsMethodOfOwner (IsCheckedPackage w known) r own name of s →
      IsMethodOfOwner (IsCheckedPackage w known) r own name of u → s ≡ u
  one_method_of of s u h k =
      let same : h.of_type ≡ k.of_type = same_Some h.of_type k.of_type (sym h.is_owner ∙ k.is_owner) in
      same_symbol s u (h.of_package ∙ ap (λ (x : Symbol). x.package) same ∙ sym k.of_package)
      (one_method k.of_type s.rank u.rank (subst (λ (x : Symbol). IsMethodIn (IsCheckedPackage w known) r own name x s.rank) same h.has) k.has)

  pub one_member_after : (definition : Symbol → Underlying) (t : PlainType) (d e : Declaration) →
      IsMemberAfter (IsCheckedPackage w known) r own name definition t d → IsMemberAfter (IsCheckedPackage w known) r own name definition t e → d ≡ e
  one_member_after definition t (Predeclared n) e h k = absurd h
  one_member_after definition t (Declared path n) e h k = absurd h
  one_member_after definition t (Field s) (Predeclared n) h k = absurd k
  one_member_after definition t (Field s) (Declared path n) h k = absurd k
  one_member_after definition t (Field s) (Field u) h k = ap Field (one_field_of (field_owner definition t) s u h k)
  one_member_after definition t (Field s) (Method u) h k = absurd (k.0 s h)
  one_member_after definition t (Method s) (Predeclared n) h k = absurd k
  one_member_after definition t (Method s) (Declared path n) h k = absurd k
  one_member_after definition t (Method s) (Field u) h k = absurd (h.0 u k)
  one_member_after definition t (Method s) (Method u) h k = ap Method (one_method_of (owner t) s u h.1 k.1)
