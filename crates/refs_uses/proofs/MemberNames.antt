-- The one name of a field or method, found among the type definitions of its package.
use Rattle.std.proofs.Common.{ℕ, ◌≡◌, Bool, true, false, List, ap, sym, subst, ◌∙◌, refl}
use Rattle.std.specs.Prelude.{Option, Some, None, ◌↔◌, MatchOption, option_map, slice_get}
use Rattle.std.specs.Borrow.{Bor}
use Rattle.std.specs.Cmp.Lexicographic.{bytes_decides}
use Rattle.std.proofs.lemmas.Bool.{true≢false}
use Rattle.std.proofs.lemmas.Option.{none-some, same_Some}
use Rattle.base_files.specs.Workspace.{Workspace}
use Rattle.go_ast.specs.SourceFile.{spelling_of}
use Rattle.go_scope.specs.Named.{name_value}
use Rattle.types_expr.specs.declared.symbol.Symbol.{Symbol}
use Rattle.types_expr.specs.declared.world.Definition.{Definition}
use Rattle.types_expr.specs.Types.{PlainType}
use Rattle.types_expr.specs.World.{Member, is_seen, member_by}
use Rattle.types_expr.specs.World as plain
use Rattle.types_expr.specs.WorldView.{definition_of, definition_or_none, no_definition}
use Rattle.types_declared.specs.Definitions.{PlacedField, IsFieldOf, IsMethodOf, IsDefinition, IsFoundField, IsFoundMethod, AreDefinitions}
use Rattle.types_declared.specs.Laid.{is_exported}
use Rattle.types_declared.specs.Package.{Package, PlacedType, PlacedFunction, package_types, symbol_in, spelled, spelled_at}
use Rattle.workspace_check.specs.Verdicts.{Verdicts, AreVerdicts}
use Rattle.refs_binding.specs.declared.declaration.Declaration.{Declaration}
use Rattle.refs_binding.specs.declared.declaration.Declaration.TheVariants.{Field, Method}
use Rattle.refs_binding.specs.Binding.{declaration_of, UsesMemberAt}
use Rattle.refs_binding.specs.Members.{AreOwnDefinitions}
use Rattle.refs_binding.specs.Uses.{IsCheckedPackage}
use Rattle.refs_binding.specs.Workspaces.{home_path}
use Rattle.refs_binding.proofs.Units.{one_package}
use Rattle.refs_lookup.proofs.OwnedMembers.{IsNamedField, IsNamedMethod, HasOwner, IsFieldSeen, IsMethodSeen, IsOwnedAs, member_named}
use Rattle.refs_uses.specs.MemberNames.{Denotes, IsOnlyName, NamesField, NamesMethod, IsFoundName, HasOneOf}

-- a spelling that is no name is another one
pub not_other : (o : Option (List ℕ)) (b : Bool) (spelling : List ℕ) → MatchOption o (b ≡ true) (λ n. (b ≡ true) ↔ (spelling ≡ n)) → b ≡ false →
    ((n : List ℕ) → o ≡ Some n → spelling ≡ n) → ⊥
not_other None b spelling h e is = true≢false (sym h ∙ e)
not_other (Some n) b spelling h e is = true≢false (sym (h.1 (is n refl)) ∙ e)

-- a name that was found is one of which the rest is known
pub found_name : (Has : List ℕ → Type 0) (o : Option (Bor (List ℕ))) (name : List ℕ) → IsFoundName Has o → name_value o ≡ Some name → Has name
found_name Has None name h e = absurd (none-some name e)
found_name Has (Some b) name h e = subst Has (same_Some b.now name e) h

-- the use of a member is spelled as its name
pub use_spelled : (p : Package) (d : Declaration) (name : List ℕ) → IsOnlyName p d name → (file token : ℕ) → UsesMemberAt p file token d →
    spelled p file token ≡ name
use_spelled p d name only file token m =
    let world = m.judged.judged_by in
    let spelling = spelling_of m.judged.source token in
    let is : Denotes world.definitions p spelling m.found.before d =
    ap (option_map declaration_of) (sym (world.member token m.found.before) ∙ m.is_member) ∙ ap Some m.declares in
    ap (λ o. spelled_at o token) m.judged.in_file ∙ only.only world.definitions world.are_definitions spelling m.found.before is

-- the use of a member in another package has its name, which is exported
pub use_named : (p : Package) (d : Declaration) (name : List ℕ) → IsOnlyName p d name → (file token : ℕ) → UsesMemberAt p file token d →
    (home_path d ≡ Some p.path → ⊥) → (spelled p file token ≡ name) × (is_exported name ≡ true)
use_named p d name only file token m away =
    let world = m.judged.judged_by in
    let spelling = spelling_of m.judged.source token in
    let is : Denotes world.definitions p spelling m.found.before d =
    ap (option_map declaration_of) (sym (world.member token m.found.before) ∙ m.is_member) ∙ ap Some m.declares in
    (use_spelled p d name only file token m, only.shown world.definitions world.are_definitions spelling m.found.before is away)

-- seen in another package, a member is exported
away_shown : (own : List ℕ) (s : Symbol) (exported : Bool) → is_seen own s exported ≡ true → (s.package ≡ own → ⊥) → exported ≡ true
away_shown own s true h away = refl
away_shown own s false h away = absurd (away (sym ((bytes_decides own s.package).0 h)))

-- a package of a path is the one of it
same_home : (w : Workspace) (known : Verdicts) (p : List ℕ) (Counts : Package → ℕ → Type 0) (s : Symbol) (home : Package) → IsCheckedPackage w known home →
    s.package ≡ home.path → HasOwner w known p Counts s → Counts home s.rank
same_home w known p Counts s home is of h =
    subst (λ (x : Package). Counts x s.rank) (one_package w known h.inside home h.is_package is (h.of_path ∙ of)) h.counts

module _ (w : Workspace) (known : Verdicts) (right : AreVerdicts w known) (home : Package) (is_home : IsCheckedPackage w known home) (s : Symbol)
    (of : s.package ≡ home.path) (name : List ℕ) (p : Package) (is : IsCheckedPackage w known p) where
  module _ (definitions : Symbol → plain.Definition) (are : AreDefinitions p definitions) (spelling : List ℕ) (t : PlainType) where
    -- what the spelling denotes is declared under it
    denoted : (d : Declaration) (o : Option Member) → member_by definitions p.path spelling t ≡ o → option_map declaration_of o ≡ Some d →
        IsOwnedAs w known right p is definitions are spelling d
    denoted d None at e = absurd (none-some d e)
    denoted d (Some m) at e =
        subst (IsOwnedAs w known right p is definitions are spelling) (same_Some (declaration_of m) d e)
        (member_named w known right p is definitions are spelling t m at)

    field_seen : Denotes definitions p spelling t (Field s) → IsFieldSeen w known right p is definitions are spelling (is_exported spelling) s
    field_seen e = denoted (Field s) (member_by definitions p.path spelling t) refl e

    method_seen : Denotes definitions p spelling t (Method s) → IsMethodSeen w known right p is definitions are spelling (is_exported spelling) s
    method_seen e = denoted (Method s) (member_by definitions p.path spelling t) refl e

    field_spelled : (definition : ℕ) (f : PlacedField) → IsFieldOf home definition name s.rank f → Denotes definitions p spelling t (Field s) → spelling ≡ name
    field_spelled definition f own e =
        let c = same_home w known p.path (IsNamedField spelling (is_exported spelling)) s home is_home of (field_seen e).0 in
        let same : f ≡ c.field = same_Some f c.field (sym own.has_rank ∙ c.counting.is_field.has_rank) in
        sym c.counting.is_field.named ∙ ap (λ (x : PlacedField). spelled home x.file x.name) (sym same) ∙ own.named

    method_spelled : (definition : ℕ) (f : PlacedFunction) → IsMethodOf home definition name s.rank f → Denotes definitions p spelling t (Method s) →
        spelling ≡ name
    method_spelled definition f own e =
        let c = same_home w known p.path (IsNamedMethod spelling (is_exported spelling)) s home is_home of (method_seen e).0 in
        let same : f ≡ c.method = same_Some f c.method (sym own.has_rank ∙ c.counting.is_method.has_rank) in
        sym c.counting.is_method.named ∙ ap (λ (x : PlacedFunction). spelled home x.file x.function.name) (sym same) ∙ own.named

  field_only : (definition : ℕ) (f : PlacedField) → IsFieldOf home definition name s.rank f → IsOnlyName p (Field s) name
  field_only definition f own = record {
    only = λ definitions are spelling t e. field_spelled definitions are spelling t definition f own e;
    shown = λ definitions are spelling t e away.
        ap is_exported (sym (field_spelled definitions are spelling t definition f own e)) ∙
        away_shown p.path s (is_exported spelling) (field_seen definitions are spelling t e).1 (λ same. away (ap Some same));
  }

  method_only : (definition : ℕ) (f : PlacedFunction) → IsMethodOf home definition name s.rank f → IsOnlyName p (Method s) name
  method_only definition f own = record {
    only = λ definitions are spelling t e. method_spelled definitions are spelling t definition f own e;
    shown = λ definitions are spelling t e away.
        ap is_exported (sym (method_spelled definitions are spelling t definition f own e)) ∙
        away_shown p.path s (is_exported spelling) (method_seen definitions are spelling t e).1 (λ same. away (ap Some same));
  }

-- what a definition of the package has

there : (home : Package) (own : List Definition) → AreOwnDefinitions home own → (k : ℕ) (d : Definition) → slice_get own k ≡ Some d → (o : Option PlacedType) →
    slice_get (package_types home) k ≡ o → (definition_of d ≡ no_definition (symbol_in home k) → ⊥) →
    ((name : List ℕ) → IsFoundField home k name ((definition_of d).field name)) × ((name : List ℕ) → IsFoundMethod home k name ((definition_of d).method name))
there home own are k d at None none some =
    absurd (some (ap (definition_or_none (symbol_in home k)) (sym at) ∙ are.beyond k none))
there home own are k d at (Some x) has some =
    let is = subst (λ o. IsDefinition home k (definition_or_none (symbol_in home k) o)) at (are.each k x has) in
    (is.fields, is.methods)

module _ (w : Workspace) (known : Verdicts) (right : AreVerdicts w known) (home : Package) (is_home : IsCheckedPackage w known home) (own : List Definition)
    (are : AreOwnDefinitions home own) (s : Symbol) (of : s.package ≡ home.path) (name : List ℕ) where
  pub field_named : HasOneOf own (λ d. NamesField d s.rank name) → (p : Package) → IsCheckedPackage w known p → IsOnlyName p (Field s) name
  field_named h p is =
      let x = h.has in
      let found = (there home own are h.number h.definition h.is_there (slice_get (package_types home) h.number) refl
      (λ none. none-some x.field (sym (ap (λ (d : plain.Definition). d.field name) none) ∙ x.found))).0 name in
      let c = subst (IsFoundField home h.number name) x.found found in
      field_only w known right home is_home s of name p is h.number c.0
      (subst (λ rank. IsFieldOf home h.number name rank c.0) x.of_rank c.1.0.is_field)

  pub method_named : HasOneOf own (λ d. NamesMethod d s.rank name) → (p : Package) → IsCheckedPackage w known p → IsOnlyName p (Method s) name
  method_named h p is =
      let x = h.has in
      let found = (there home own are h.number h.definition h.is_there (slice_get (package_types home) h.number) refl
      (λ none. none-some x.method (sym (ap (λ (d : plain.Definition). d.method name) none) ∙ x.found))).1 name in
      let c = subst (IsFoundMethod home h.number name) x.found found in
      method_only w known right home is_home s of name p is h.number c.0
      (subst (λ rank. IsMethodOf home h.number name rank c.0) x.of_rank c.1.is_method)
