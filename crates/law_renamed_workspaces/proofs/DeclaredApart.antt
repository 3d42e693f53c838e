-- Declarations that are declared at one place are one declaration: one identifier, or literal of an import, stands there.
use Rattle.std.proofs.Common.{ℕ, ◌≡◌, ◌+◌, ◌<◌, Bool, true, false, List, if◌then◌else◌, refl, sym, ap, subst, ◌∙◌}
use Rattle.std.proofs.Math.Path.{ap₂}
use Rattle.std.specs.Prelude.{Option, Some, None, slice_get}
use Rattle.std.proofs.lemmas.Bool.{true≢false}
use Rattle.base_files.specs.Path.{folder}
use Rattle.base_files.specs.Workspace.{Workspace}
use Rattle.base_files.specs.declared.place.Place.{Place}
use Rattle.go_ast.specs.SourceFile.{SourceFile}
use Rattle.go_scope.specs.declared.model.Position.{Position}
use Rattle.go_scope.specs.declared.model.Purpose.TheVariants as purpose
use Rattle.go_scope.specs.declared.model.Role.{Role}
use Rattle.go_scope.specs.declared.model.Role.TheVariants.{NotLexical}
use Rattle.go_scope.specs.Bindings.{Layout, IsIdentifier, may_declare}
use Rattle.go_scope.specs.Table.{LiesAt}
use Rattle.types_expr.specs.declared.symbol.Symbol.{Symbol}
use Rattle.types_declared.specs.Laid.{is_literal, literal_of}
use Rattle.types_declared.specs.Package.{Package, function_place}
use Rattle.workspace_check.specs.Verdicts.{Verdicts}
use Rattle.workspace_check.proofs.OnePackage.{files_in_order}
use Rattle.workspace_check.proofs.PackageFiles.{file_in_folder}
use Rattle.refs_binding.specs.declared.declaration.Declaration.{Declaration}
use Rattle.refs_binding.specs.declared.declaration.Declaration.TheVariants.{Predeclared, Declared, Field, Method}
use Rattle.refs_binding.specs.Binding.{DeclaresMember, field_place}
use Rattle.refs_binding.specs.DeclaringPlaces.{InPackage, TokenAt, TokenBegins, HasDeclarationAt, IsDeclaredAt}
use Rattle.refs_binding.specs.Identifiers.{BeginsAt, NameBegins}
use Rattle.refs_binding.specs.Uses.{IsCheckedPackage}
use Rattle.refs_binding.proofs.Tokens.{Begins}
use Rattle.refs_binding.proofs.Units.{one_package}
use Rattle.refs_lookup.proofs.BoundNamedMembers.{one_by_name}
use Rattle.refs_lookup.proofs.NamedMembers.{name_member}
use Rattle.refs_places.proofs.Starts.{token_once}
use Rattle.refs_uses.proofs.NameTokens.{name_at_token}
use Rattle.law_renamed_workspaces.proofs.RenamedMembersNameTokens.{IsNamedIn, field_name, function_name}
use Rattle.law_renamed_workspaces.proofs.NewNames.{name_stands}
use Rattle.law_renamed_workspaces.proofs.Apart.{literal_stands, name_token, one_of_literal, one_stands}
use Rattle.law_renamed_workspaces.proofs.Standing.{literal_role}
use Rattle.law_renamed_workspaces.specs.Apart.{DeclarationsStandApart}

-- The identifier `u` of the package declares `d`. The literal of an import stands for its declaration.
abbrev Marks : Package → ℕ → Declaration → Type 0
Marks p u (Predeclared n) = ⊥
Marks p u (Declared path n) = (path ≡ p.path) × ((u ≡ literal_of p.layout n) × (may_declare (p.layout.role n) ≡ true))
Marks p u (Field s) = DeclaresMember p u (Field s)
Marks p u (Method s) = DeclaresMember p u (Method s)

-- The identifier of the package begins at the place and declares `d`.
record IsMarkedBy (p : Package) (d : Declaration) (place : Place) : Type 0 where
  user : ℕ
  within : user < p.size
  identifies : IsIdentifier p.layout user
  begins : TokenAt p (p.layout.place user) place
  marks : Marks p user d

-- what declares in a scope, and the literal of an import, is no member's name

role_apart : (r : Role) → is_literal r ≡ true → r ≡ NotLexical purpose.Member → ⊥
role_apart r e member = let same : NotLexical purpose.ImportPath ≡ NotLexical purpose.Member = sym (literal_role r e) ∙ member in cc

may_apart : (r : Role) → may_declare r ≡ true → r ≡ NotLexical purpose.Member → ⊥
may_apart r may member = true≢false (sym may ∙ ap may_declare member)

literal_apart : (l : Layout) (n : ℕ) → may_declare (l.role n) ≡ true → l.role (literal_of l n) ≡ NotLexical purpose.Member → ⊥
literal_apart l n may = by_test (is_literal (l.role (n + 1))) refl
  where
    by_test : (b : Bool) → is_literal (l.role (n + 1)) ≡ b → l.role (if b then n + 1 else n) ≡ NotLexical purpose.Member → ⊥
    by_test true e member = role_apart (l.role (n + 1)) e member
    by_test false e member = may_apart (l.role n) may member

module _ (w : Workspace) (known : Verdicts) (p : Package) (is : IsCheckedPackage w known p) where
  -- a name at which a member is declared
  name_begins : (at : Position) (place : Place) → IsNamedIn p at.file at.index → TokenAt p at place → Begins p at place
  name_begins at place named begins =
      let x = name_stands w known p is at named in
      let t = x.stands in
      let same : x.place ≡ place = token_once (slice_get p.files at.file) at.index x.place place t.begins begins in
      let there : TokenBegins (Some t.file) at.index place = subst (λ o. TokenBegins o at.index place) t.of_rank begins in
      subst (λ o. NameBegins o at.index place.path place.offset) (sym t.of_rank) (t.is_name, there.0, there.1)

  member_marked : (at : Position) (place : Place) (d : Declaration) → IsNamedIn p at.file at.index → TokenAt p at place →
      ((u : ℕ) → LiesAt p.layout at u → Marks p u d) → IsMarkedBy p d place
  member_marked at place d named begins marks =
      let u = name_at_token w known p.path p is.is_checked at place (name_begins at place named begins) in
      let b : BeginsAt p place.path place.offset u.0 = u.1.0 in
      record {
        user = u.0;
        within = b.0.0;
        identifies = b.0.1;
        begins = name_token (slice_get p.files (p.layout.place u.0).file) (p.layout.place u.0).index place b.1;
        marks = marks u.0 u.1.1;
      }

  scope_marked : (path : List ℕ) (n : ℕ) (place : Place) → path ≡ p.path → HasDeclarationAt p (Declared path n) place → IsMarkedBy p (Declared path n) place
  scope_marked path n place own h =
      let there = literal_stands w known p.path p is.is_checked n h.is_at.counts h.is_at.own in
      record {
        user = literal_of p.layout n;
        within = there.0;
        identifies = there.1;
        begins = subst (λ at. TokenAt p at place) (sym h.is_at.stands) h.begins;
        marks = (own, (refl, h.is_at.counts.declares.may));
      }

  field_marked : (s : Symbol) (place : Place) → s.package ≡ p.path → HasDeclarationAt p (Field s) place → IsMarkedBy p (Field s) place
  field_marked s place own h =
      let counts = h.is_at.counts in
      let f = counts.field in
      member_marked (field_place f) place (Field s) (field_name p s.rank f counts.counting.is_field.has_rank)
      (subst (λ at. TokenAt p at place) (sym h.is_at.named_at) h.begins)
      (λ u stands. (own, record { at = field_place f; is_at = record { counts = counts; named_at = refl }; stands = stands }))

  method_marked : (s : Symbol) (place : Place) → s.package ≡ p.path → HasDeclarationAt p (Method s) place → IsMarkedBy p (Method s) place
  method_marked s place own h =
      let counts = h.is_at.counts in
      let f = counts.method in
      member_marked (function_place f) place (Method s) (function_name p s.rank f counts.counting.is_method.has_rank)
      (subst (λ at. TokenAt p at place) (sym h.is_at.named_at) h.begins)
      (λ u stands. (own, record { at = function_place f; is_at = record { counts = counts; named_at = refl }; stands = stands }))

  -- one declaration is marked by an identifier

  is_member : (u : ℕ) (d : Declaration) → u < p.size → DeclaresMember p u d → p.layout.role u ≡ NotLexical purpose.Member
  is_member u d lt b = name_member w known p.path p is.is_checked u d lt b

  never_both : (u n : ℕ) (d : Declaration) → u < p.size → u ≡ literal_of p.layout n → may_declare (p.layout.role n) ≡ true → DeclaresMember p u d → ⊥
  never_both u n d lt same may b =
      literal_apart p.layout n may (subst (λ k. p.layout.role k ≡ NotLexical purpose.Member) same (is_member u d lt b))

  one_marked : (u : ℕ) (c d : Declaration) → u < p.size → Marks p u c → Marks p u d → c ≡ d
  one_marked u (Declared path n) (Declared other m) lt h k =
      ap₂ Declared (h.0 ∙ sym k.0) (one_of_literal p.layout n m h.1.1 k.1.1 (sym h.1.0 ∙ k.1.0))
  one_marked u (Declared path n) (Field s) lt h k = absurd (never_both u n (Field s) lt h.1.0 h.1.1 k)
  one_marked u (Declared path n) (Method s) lt h k = absurd (never_both u n (Method s) lt h.1.0 h.1.1 k)
  one_marked u (Field s) (Declared path n) lt h k = absurd (never_both u n (Field s) lt k.1.0 k.1.1 h)
  one_marked u (Method s) (Declared path n) lt h k = absurd (never_both u n (Method s) lt k.1.0 k.1.1 h)
  one_marked u (Field s) (Field t) lt h k = one_by_name p (files_in_order w known p.path p is.is_checked) u (Field s) (Field t) h k
  one_marked u (Field s) (Method t) lt h k = one_by_name p (files_in_order w known p.path p is.is_checked) u (Field s) (Method t) h k
  one_marked u (Method s) (Field t) lt h k = one_by_name p (files_in_order w known p.path p is.is_checked) u (Method s) (Field t) h k
  one_marked u (Method s) (Method t) lt h k = one_by_name p (files_in_order w known p.path p is.is_checked) u (Method s) (Method t) h k
  one_marked u (Predeclared n) d lt h k = absurd h
  one_marked u (Declared path n) (Predeclared m) lt h k = absurd k
  one_marked u (Field s) (Predeclared m) lt h k = absurd k
  one_marked u (Method s) (Predeclared m) lt h k = absurd k

  one_at : (c d : Declaration) (place : Place) → IsMarkedBy p c place → IsMarkedBy p d place → c ≡ d
  one_at c d place h k =
      let same : h.user ≡ k.user =
      one_stands w known p.path p is.is_checked h.user k.user place h.within k.within h.identifies k.identifies h.begins k.begins in
      one_marked h.user c d h.within h.marks (subst (λ u. Marks p u d) (sym same) k.marks)

-- The package that declares a declaration at a place.
record IsMarkedIn (w : Workspace) (known : Verdicts) (d : Declaration) (place : Place) : Type 0 where
  inside : Package
  is_package : IsCheckedPackage w known inside
  of_folder : folder place.path ≡ inside.path
  marked : IsMarkedBy inside d place

module _ (w : Workspace) (known : Verdicts) where
  file_of_token : (o : Option SourceFile) (token : ℕ) (place : Place) → TokenBegins o token place → (f : SourceFile) × ((o ≡ Some f) × (f.path ≡ place.path))
  file_of_token None token place h = absurd h
  file_of_token (Some f) token place h = (f, (refl, h.0))

  in_folder : (path : List ℕ) (d : Declaration) (place : Place) → (h : InPackage (IsCheckedPackage w known) path (λ p. HasDeclarationAt p d place)) →
      folder place.path ≡ h.inside.path
  in_folder path d place h =
      let at = h.holds.at in
      let f = file_of_token (slice_get h.inside.files at.file) at.index place h.holds.begins in
      ap folder (sym f.1.1) ∙ file_in_folder w known h.inside.path h.inside h.is_package.is_checked at.file f.0 f.1.0

  marked_in : (d : Declaration) (place : Place) → IsDeclaredAt (IsCheckedPackage w known) d place → IsMarkedIn w known d place
  marked_in (Predeclared n) place h = absurd h
  marked_in (Declared path n) place h = record {
    inside = h.inside;
    is_package = h.is_package;
    of_folder = in_folder path (Declared path n) place h;
    marked = scope_marked w known h.inside h.is_package path n place (sym h.of_path) h.holds;
  }
  marked_in (Field s) place h = record {
    inside = h.inside;
    is_package = h.is_package;
    of_folder = in_folder s.package (Field s) place h;
    marked = field_marked w known h.inside h.is_package s place (sym h.of_path) h.holds;
  }
  marked_in (Method s) place h = record {
    inside = h.inside;
    is_package = h.is_package;
    of_folder = in_folder s.package (Method s) place h;
    marked = method_marked w known h.inside h.is_package s place (sym h.of_path) h.holds;
  }

pub stand_apart : DeclarationsStandApart
stand_apart w known c d place old new =
    let h = marked_in w known c place old in
    let k = marked_in w known d place new in
    let same : k.inside ≡ h.inside = one_package w known k.inside h.inside k.is_package h.is_package (sym k.of_folder ∙ h.of_folder) in
    one_at w known h.inside h.is_package c d place h.marked (subst (λ p. IsMarkedBy p d place) same k.marked)
