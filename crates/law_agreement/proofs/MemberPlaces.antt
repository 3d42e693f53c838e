-- The place of a field or method: its name begins there. The place of a declaration of scopes: no member's name begins there.
use Rattle.std.proofs.Common.{ℕ, zero, suc, ◌≡◌, ◌+◌, ◌<◌, Bool, true, false, List, [], ◌∷◌, length, if◌then◌else◌, ap, sym, subst, refl, ◌∙◌, arith}
use Rattle.std.specs.Prelude.{Option, Some, None, slice_get}
use Rattle.std.proofs.lemmas.Bool.{true≢false}
use Rattle.base_files.specs.Path.{folder}
use Rattle.base_files.specs.Workspace.{Workspace}
use Rattle.base_files.specs.declared.place.Place.{Place}
use Rattle.go_ast.specs.SourceFile.{SourceFile}
use Rattle.go_scope.specs.declared.model.Position.{Position}
use Rattle.go_scope.specs.declared.model.Purpose.TheVariants as purpose
use Rattle.go_scope.specs.declared.model.Role.{Role}
use Rattle.go_scope.specs.declared.model.Role.TheVariants.{NotLexical}
use Rattle.go_scope.specs.Bindings.{Layout, may_declare}
use Rattle.go_scope.specs.Named.{named_sites}
use Rattle.go_scope.specs.Site.{Site}
use Rattle.law_tokens.proofs.FileIdentifiers.{role_in}
use Rattle.types_declared.specs.Laid.{is_literal, literal_of}
use Rattle.types_declared.specs.Package.{Package}
use Rattle.types_expr.specs.World.{Member, AField, AMethod, ABrokenMethod}
use Rattle.workspace_check.specs.Verdicts.{Verdicts, IsPackageIn}
use Rattle.refs_binding.specs.declared.declaration.Declaration.{Declaration}
use Rattle.refs_binding.specs.declared.declaration.Declaration.TheVariants.{Predeclared, Declared, Field, Method}
use Rattle.refs_binding.specs.Binding.{BindsByMember, DeclaresMember, declaration_of}
use Rattle.refs_binding.specs.DeclaringPlaces.{TokenAt, TokenBegins, IsDeclaredAt}
use Rattle.refs_binding.specs.Identifiers.{BeginsAt, NameBegins}
use Rattle.refs_binding.specs.Uses.{IsCheckedPackage}
use Rattle.refs_binding.proofs.Folders.{file_in_folder}
use Rattle.refs_binding.proofs.Tokens.{Begins}
use Rattle.refs_lookup.proofs.OnePlace.{same_size}
use Rattle.refs_uses.proofs.NameTokens.{name_at_token}
use Rattle.law_faultless.proofs.Declared.{given, sites, role_is}
use Rattle.law_renamed_workspaces.proofs.RenamedMembersNameTokens.{IsNamedIn, field_name, function_name}
use Rattle.law_renamed_workspaces.proofs.NewNames.{name_stands}

-- the declaration is a field or method
abbrev pub IsMember : Declaration → Type 0
IsMember (Predeclared n) = ⊥
IsMember (Declared path n) = ⊥
IsMember (Field s) = Unit {0}
IsMember (Method s) = Unit {0}

member_declared : (m : Member) → IsMember (declaration_of m)
member_declared (AField s t) = tt
member_declared (AMethod s p g) = tt
member_declared (ABrokenMethod s) = tt

pub used_member : (p : Package) (u : ℕ) (e : Declaration) → BindsByMember p u e → IsMember e
used_member p u e b = subst IsMember b.declares (member_declared b.member)

-- The name of the member begins at the place.
pub record IsNamedAt (w : Workspace) (known : Verdicts) (d : Declaration) (place : Place) : Type 0 where
  pub inside : Package
  pub is_package : IsCheckedPackage w known inside
  pub user : ℕ
  pub begins : BeginsAt inside place.path place.offset user
  pub declares : DeclaresMember inside user d

module _ (w : Workspace) (known : Verdicts) where
  name_begins : (p : Package) → IsCheckedPackage w known p → (at : Position) → IsNamedIn p at.file at.index → (place : Place) → TokenAt p at place →
      Begins p at place
  name_begins p is at named place token =
      let t = (name_stands w known p is at named).stands in
      let b : TokenBegins (Some t.file) at.index place = subst (λ o. TokenBegins o at.index place) t.of_rank token in
      subst (λ o. NameBegins o at.index place.path place.offset) (sym t.of_rank) (t.is_name, b.0, b.1)

  pub named_there : (d : Declaration) → IsMember d → (place : Place) → IsDeclaredAt (IsCheckedPackage w known) d place → IsNamedAt w known d place
  named_there (Predeclared n) m place h = absurd m
  named_there (Declared path n) m place h = absurd m
  named_there (Field s) m place h =
      let p = h.inside in
      let at = h.holds.at in
      let f = h.holds.is_at.counts in
      let named : IsNamedIn p at.file at.index =
      subst (λ (a : Position). IsNamedIn p a.file a.index) h.holds.is_at.named_at (field_name p s.rank f.field f.counting.is_field.has_rank) in
      let t = name_at_token w known p.path p h.is_package.is_checked at place (name_begins p h.is_package at named place h.holds.begins) in
      record {
        inside = p;
        is_package = h.is_package;
        user = t.0;
        begins = t.1.0;
        declares = (sym h.of_path, record { at = at; is_at = h.holds.is_at; stands = t.1.1 });
      }
  named_there (Method s) m place h =
      let p = h.inside in
      let at = h.holds.at in
      let f = h.holds.is_at.counts in
      let named : IsNamedIn p at.file at.index =
      subst (λ (a : Position). IsNamedIn p a.file a.index) h.holds.is_at.named_at (function_name p s.rank f.method f.counting.is_method.has_rank) in
      let t = name_at_token w known p.path p h.is_package.is_checked at place (name_begins p h.is_package at named place h.holds.begins) in
      record {
        inside = p;
        is_package = h.is_package;
        user = t.0;
        begins = t.1.0;
        declares = (sym h.of_path, record { at = at; is_at = h.holds.is_at; stands = t.1.1 });
      }

  -- a token lies in the folder of its package
  token_file : (o : Option SourceFile) (token : ℕ) (place : Place) → TokenBegins o token place → (f : SourceFile) × ((o ≡ Some f) × (f.path ≡ place.path))
  token_file None token place h = absurd h
  token_file (Some f) token place h = (f, (refl, h.0))

  pub token_folder : (p : Package) → IsCheckedPackage w known p → (at : Position) (place : Place) → TokenAt p at place → folder place.path ≡ p.path
  token_folder p is at place h =
      let f = token_file (slice_get p.files at.file) at.index place h in
      ap folder (sym f.1.1) ∙ file_in_folder w known p is at.file f.0 f.1.0

-- the literal, or else the name, of a declaration of scopes is no name of a member

never_member : (r : Role) → r ≡ NotLexical purpose.Member → may_declare r ≡ true → ⊥
never_member r e may = true≢false (sym may ∙ ap may_declare e)

never_literal : (r : Role) → r ≡ NotLexical purpose.Member → is_literal r ≡ true → ⊥
never_literal r e literal = true≢false (sym literal ∙ ap is_literal e)

pub literal_no_member : (l : Layout) (n : ℕ) → may_declare (l.role n) ≡ true → l.role (literal_of l n) ≡ NotLexical purpose.Member → ⊥
literal_no_member l n may role = by_test (is_literal (l.role (n + 1))) refl role
  where
    by_test : (b : Bool) → is_literal (l.role (n + 1)) ≡ b → l.role (if b then n + 1 else n) ≡ NotLexical purpose.Member → ⊥
    by_test true e r = never_literal (l.role (n + 1)) r e
    by_test false e r = never_member (l.role n) r may

-- a selector is one of the package's identifiers

selected_in : (xs : List Site) (u : ℕ) → role_in xs u ≡ NotLexical purpose.Selected → u < length xs
selected_in [] u e = absurd (let z : ⊥ = cc in z)
selected_in (x ∷ xs) zero e = omega arith
selected_in (x ∷ xs) (suc u) e = let lt : u < length xs = selected_in xs u e in omega arith

pub selected_within : (w : Workspace) (known : Verdicts) (path : List ℕ) (p : Package) → IsPackageIn w known path p → (u : ℕ) →
    p.layout.role u ≡ NotLexical purpose.Selected → u < p.size
selected_within w known path p h u role =
    subst (λ n. u < n) (sym (same_size w known path p h))
    (selected_in (named_sites (given w known path p h) (sites w known path p h)) u (sym (role_is w known path p h u) ∙ role))
