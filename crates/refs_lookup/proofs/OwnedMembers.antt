-- The members that a package uses are declared in packages of its closure, under the names that it writes for them.
use Rattle.std.proofs.Common.{ℕ, ◌≡◌, ◌==◌, inl, inr, Bool, true, false, List, Option, Some, None, ap, sym, subst, refl, ◌∙◌, if◌then◌else◌}
use Rattle.std.specs.Prelude.{Contains, slice_get}
use Rattle.std.specs.Cmp.Lexicographic.{pointwise, bytes_decides}
use Rattle.std.proofs.lemmas.Bool.{cases_Bool, true≢false}
use Rattle.std.proofs.lemmas.Option.{same_Some, none-some}
use Rattle.base_files.specs.Packages.{package_paths}
use Rattle.base_files.specs.Workspace.{Workspace}
use Rattle.workspace_graph.specs.Packages.{IsInClosure, itself}
use Rattle.types_expr.specs.declared.symbol.Symbol.{Symbol}
use Rattle.types_expr.specs.Types.{PlainType}
use Rattle.types_expr.specs.World.{Member, AField, Field, Method, Definition, is_seen, seen_field, seen_method, field_of, method_of, a_method, first_member}
use Rattle.types_expr.specs.World.{field_owner, owner, member_by}
use Rattle.types_expr.specs.WorldView.{no_definition}
use Rattle.types_declared.specs.Definitions.{IsDefinition, PlacedField, IsCountingField, IsCountingMethod, IsFoundField, IsFoundMethod, AreDefinitions}
use Rattle.types_declared.specs.Laid.{is_exported}
use Rattle.types_declared.specs.Package.{Package, ExportData, PlacedType, PlacedFunction, package_types, symbol_in}
use Rattle.types_members.specs.MembersView.{CountsAsField, CountsAsMethod}
use Rattle.workspace_check.specs.Verdicts.{Verdicts, AreVerdicts, IsSeenAs, seen, unseen, IsPackageIn}
use Rattle.workspace_check.proofs.Closed.{to_package}
use Rattle.workspace_check.proofs.OneVerdict.{right_below, verdict_by}
use Rattle.refs_binding.specs.declared.declaration.Declaration.{Declaration}
use Rattle.refs_binding.specs.declared.declaration.Declaration.TheVariants as declares
use Rattle.refs_binding.specs.Binding.{declaration_of}
use Rattle.refs_binding.specs.Uses.{IsCheckedPackage}
use Rattle.refs_binding.proofs.MemberParts.{method_declared}

-- by the definitions of one package, for each rank

record AreOwn (c : Package) (definition : ℕ → Definition) : Type 0 where
  own : (rank : ℕ) (d : PlacedType) → slice_get (package_types c) rank ≡ Some d → IsDefinition c rank (definition rank)
  beyond : (rank : ℕ) → slice_get (package_types c) rank ≡ None → definition rank ≡ no_definition (symbol_in c rank)

-- a symbol is that of a member of a package
record IsOwn (Counts : Package → ℕ → Type 0) (c : Package) (s : Symbol) : Type 0 where
  counts : Counts c s.rank
  is_own : s ≡ symbol_in c s.rank

-- the field of this rank counts and has this name; the mark says whether the name is exported
pub record IsNamedField (name : List ℕ) (exported : Bool) (c : Package) (rank : ℕ) : Type 0 where
  pub definition : ℕ
  pub field : PlacedField
  pub counting : IsCountingField c definition name rank field
  pub shown : exported ≡ is_exported name

-- so has the method
pub record IsNamedMethod (name : List ℕ) (exported : Bool) (c : Package) (rank : ℕ) : Type 0 where
  pub definition : ℕ
  pub method : PlacedFunction
  pub counting : IsCountingMethod c definition name rank method
  pub shown : exported ≡ is_exported name

module _ (c : Package) (definition : ℕ → Definition) (are : AreOwn c definition) (rank : ℕ) (name : List ℕ) where
  field_by : (f : Field) → IsFoundField c rank name (Some f) → IsOwn (IsNamedField name f.exported) c f.symbol
  field_by f h = record { counts = record { definition = rank; field = h.0; counting = h.1.0; shown = h.1.3 }; is_own = h.1.2 }

  signed_method : (m : Method) → IsFoundMethod c rank name (Some m) → IsOwn (IsNamedMethod name m.exported) c m.symbol
  signed_method m h = record { counts = record { definition = rank; method = h.0; counting = h.1; shown = h.5 }; is_own = h.4 }

  own_field : (o : Option PlacedType) → slice_get (package_types c) rank ≡ o → (f : Field) → (definition rank).field name ≡ Some f →
      IsOwn (IsNamedField name f.exported) c f.symbol
  own_field None at f is = absurd (none-some f (sym (ap (λ (d : Definition). d.field name) (are.beyond rank at)) ∙ is))
  own_field (Some d) at f is = field_by f (subst (IsFoundField c rank name) is ((are.own rank d at).fields name))

  own_method : (o : Option PlacedType) → slice_get (package_types c) rank ≡ o → (m : Method) → (definition rank).method name ≡ Some m →
      IsOwn (IsNamedMethod name m.exported) c m.symbol
  own_method None at m is = absurd (none-some m (sym (ap (λ (d : Definition). d.method name) (are.beyond rank at)) ∙ is))
  own_method (Some d) at m is = signed_method m (subst (IsFoundMethod c rank name) is ((are.own rank d at).methods name))

-- a package of the closure has the member of that symbol
pub record HasOwner (w : Workspace) (known : Verdicts) (p : List ℕ) (Counts : Package → ℕ → Type 0) (s : Symbol) : Type 0 where
  pub inside : Package
  pub is_package : IsCheckedPackage w known inside
  pub in_closure : IsInClosure w p inside.path
  pub of_path : inside.path ≡ s.package
  pub counts : Counts inside s.rank

same_path : (s : Symbol) (c : Package) → s ≡ symbol_in c s.rank → c.path ≡ s.package
same_path s c e = sym (ap (λ (x : Symbol). x.package) e)

module _ (w : Workspace) (known : Verdicts) (right : AreVerdicts w known) (p : Package) (is : IsCheckedPackage w known p) (definitions : Symbol → Definition)
    (are : AreDefinitions p definitions) where
  here : {Counts : Package → ℕ → Type 0} (s : Symbol) → IsOwn Counts p s → HasOwner w known p.path Counts s
  here s h = record { inside = p; is_package = is; in_closure = itself is.of_workspace; of_path = same_path s p h.is_own; counts = h.counts }

  own_table : AreOwn p (λ rank. definitions (symbol_in p rank))
  own_table = record { own = are.own; beyond = are.beyond }

  -- by what p sees of another package
  seen_table : (q : List ℕ) (n : Option (List ℕ)) (i : ExportData) → IsSeenAs w known p.path q n i → (rank : ℕ) (Counts : Package → ℕ → Type 0) (s : Symbol) →
      ((c : Package) → AreOwn c i.definition → IsOwn Counts c s) → (i.definition rank ≡ no_definition (record { «package» = q; rank = rank }) → ⊥) →
      HasOwner w known p.path Counts s
  seen_table q _ _ (seen on sees) rank Counts s own some =
      let has = to_package w p.path q on.imported in
      let by = verdict_by w q known (known q) (right_below w known right q) (right q has) in
      let x = by.has_export_data sees in
      let path : x.checked.path ≡ q = ap (λ (c : Package). c.path) x.is_package.is_package.is_package in
      let h = own x.checked (record { own = x.is_export_data.definitions; beyond = x.is_export_data.beyond }) in
      record {
        inside = x.checked;
        is_package = record {
          of_workspace = subst (Contains (package_paths w)) (sym path) has;
          is_checked = subst (λ k. IsPackageIn w known k x.checked) (sym path) x.is_package;
        };
        in_closure = subst (IsInClosure w p.path) (sym path) on.imported;
        of_path = same_path s x.checked h.is_own;
        counts = h.counts;
      }
  seen_table q _ _ (unseen none) rank Counts s own some = absurd (some refl)

  -- what p sees of the package of that path
  sees : (q : List ℕ) → (n : Option (List ℕ)) × IsSeenAs w known p.path q n (p.export_data_of q)
  sees q =
      let h = is.is_checked in
      let export_table : h.export_data_of ≡ p.export_data_of = sym (ap (λ (x : Package). x.export_data_of) h.is_package.is_package) in
      (h.name_of q, subst (λ (i : List ℕ → ExportData). IsSeenAs w known p.path q (h.name_of q) (i q)) export_table (h.are_seen q))

  module _ (s : Symbol) (name : List ℕ) where
    own_symbol : s.package ≡ p.path → s ≡ symbol_in p s.rank
    own_symbol e = ap (λ q. record { «package» = q; rank = s.rank }) e

    field_there : (f : Field) → (definitions s).field name ≡ Some f → HasOwner w known p.path (IsNamedField name f.exported) f.symbol
    field_there f e = elim (cases_Bool (pointwise ◌==◌ s.package p.path)) [
      | inl same ↦ (
          let at = own_symbol ((bytes_decides s.package p.path).0 same) in
          here f.symbol
          (own_field p (λ rank. definitions (symbol_in p rank)) own_table s.rank name (slice_get (package_types p) s.rank) refl f
          (subst (λ x. (definitions x).field name ≡ Some f) at e)))
      | inr other ↦ (
          let away : s.package ≡ p.path → ⊥ = λ x. true≢false (sym ((bytes_decides s.package p.path).1 x) ∙ other) in
          let i = p.export_data_of s.package in
          let there : (i.definition s.rank).field name ≡ Some f = subst (λ (d : Definition). d.field name ≡ Some f) (are.imported s.package s.rank away) e in
          let v = sees s.package in
          seen_table s.package v.0 i v.1 s.rank (IsNamedField name f.exported) f.symbol
          (λ c table. own_field c i.definition table s.rank name (slice_get (package_types c) s.rank) refl f there)
          (λ none. none-some f (sym (ap (λ (d : Definition). d.field name) none) ∙ there)))
    ]

    method_there : (m : Method) → (definitions s).method name ≡ Some m → HasOwner w known p.path (IsNamedMethod name m.exported) m.symbol
    method_there m e = elim (cases_Bool (pointwise ◌==◌ s.package p.path)) [
      | inl same ↦ (
          let at = own_symbol ((bytes_decides s.package p.path).0 same) in
          here m.symbol
          (own_method p (λ rank. definitions (symbol_in p rank)) own_table s.rank name (slice_get (package_types p) s.rank) refl m
          (subst (λ x. (definitions x).method name ≡ Some m) at e)))
      | inr other ↦ (
          let away : s.package ≡ p.path → ⊥ = λ x. true≢false (sym ((bytes_decides s.package p.path).1 x) ∙ other) in
          let i = p.export_data_of s.package in
          let there : (i.definition s.rank).method name ≡ Some m = subst (λ (d : Definition). d.method name ≡ Some m) (are.imported s.package s.rank away) e in
          let v = sees s.package in
          seen_table s.package v.0 i v.1 s.rank (IsNamedMethod name m.exported) m.symbol
          (λ c table. own_method c i.definition table s.rank name (slice_get (package_types c) s.rank) refl m there)
          (λ none. none-some m (sym (ap (λ (d : Definition). d.method name) none) ∙ there)))
    ]

  -- the member of a type

  -- a declaration of a member is one of a package of the closure
  abbrev pub IsOwned : Declaration → Type 0
  IsOwned (declares.Predeclared n) = ⊥
  IsOwned (declares.Declared path n) = ⊥
  IsOwned (declares.Field s) = HasOwner w known p.path CountsAsField s
  IsOwned (declares.Method s) = HasOwner w known p.path CountsAsMethod s

  -- the member is declared under this name, and the package sees it; the mark says whether the name is exported
  abbrev pub IsFieldSeen : (name : List ℕ) → (exported : Bool) → Symbol → Type 0
  IsFieldSeen name exported s = HasOwner w known p.path (IsNamedField name exported) s × (is_seen p.path s exported ≡ true)

  abbrev pub IsMethodSeen : (name : List ℕ) → (exported : Bool) → Symbol → Type 0
  IsMethodSeen name exported s = HasOwner w known p.path (IsNamedMethod name exported) s × (is_seen p.path s exported ≡ true)

  -- a declaration of a member is one of a package of the closure under this name, which the package sees
  abbrev pub IsOwnedAs : List ℕ → Declaration → Type 0
  IsOwnedAs name (declares.Predeclared n) = ⊥
  IsOwnedAs name (declares.Declared path n) = ⊥
  IsOwnedAs name (declares.Field s) = IsFieldSeen name (is_exported name) s
  IsOwnedAs name (declares.Method s) = IsMethodSeen name (is_exported name) s

  chosen : {X : Type 0} (b : Bool) (g f : X) → (if b then Some g else None) ≡ Some f → (b ≡ true) × (g ≡ f)
  chosen true g f e = (refl, same_Some g f e)
  chosen false g f e = absurd (none-some f e)

  seen_field_there : (s : Symbol) (name : List ℕ) (o : Option Field) → (definitions s).field name ≡ o → (f : Field) → seen_field p.path o ≡ Some f →
      IsFieldSeen name f.exported f.symbol
  seen_field_there s name None at f e = absurd (none-some f e)
  seen_field_there s name (Some g) at f e =
      let is = chosen (is_seen p.path g.symbol g.exported) g f e in
      (field_there s name f (at ∙ ap Some is.1), subst (λ (x : Field). is_seen p.path x.symbol x.exported ≡ true) is.1 is.0)

  seen_method_there : (s : Symbol) (name : List ℕ) (o : Option Method) → (definitions s).method name ≡ o → (m : Method) → seen_method p.path o ≡ Some m →
      IsMethodSeen name m.exported m.symbol
  seen_method_there s name None at m e = absurd (none-some m e)
  seen_method_there s name (Some g) at m e =
      let is = chosen (is_seen p.path g.symbol g.exported) g m e in
      (method_there s name m (at ∙ ap Some is.1), subst (λ (x : Method). is_seen p.path x.symbol x.exported ≡ true) is.1 is.0)

  field_found : (name : List ℕ) (o : Option Symbol) (f : Field) → field_of definitions p.path name o ≡ Some f → IsFieldSeen name (is_exported name) f.symbol
  field_found name None f e = absurd (none-some f e)
  field_found name (Some s) f e =
      let h = seen_field_there s name ((definitions s).field name) refl f e in
      subst (λ b. IsFieldSeen name b f.symbol) h.0.counts.shown h

  method_found : (name : List ℕ) (o : Option Symbol) (m : Method) → method_of definitions p.path name o ≡ Some m →
      IsMethodSeen name (is_exported name) m.symbol
  method_found name None m e = absurd (none-some m e)
  method_found name (Some s) m e =
      let h = seen_method_there s name ((definitions s).method name) refl m e in
      subst (λ b. IsMethodSeen name b m.symbol) h.0.counts.shown h

  first_owned : (name : List ℕ) (f : Option Field) (m : Option Method) → ((x : Field) → f ≡ Some x → IsFieldSeen name (is_exported name) x.symbol) →
      ((x : Method) → m ≡ Some x → IsMethodSeen name (is_exported name) x.symbol) → (found : Member) → first_member f m ≡ Some found →
      IsOwnedAs name (declaration_of found)
  first_owned name (Some x) m field method found e =
      subst (λ (y : Member). IsOwnedAs name (declaration_of y)) (same_Some (AField x.symbol x.form) found e) (field x refl)
  first_owned name None (Some x) field method found e =
      subst (λ (y : Member). IsOwnedAs name (declaration_of y)) (same_Some (a_method x.symbol x.on_pointer x.signature) found e)
      (subst (IsOwnedAs name) (sym (method_declared x.symbol x.on_pointer x.signature)) (method x refl))
  first_owned name None None field method found e = absurd (none-some found e)

  pub member_named : (name : List ℕ) (t : PlainType) (found : Member) → member_by definitions p.path name t ≡ Some found →
      IsOwnedAs name (declaration_of found)
  unfolding member_by
  member_named name t found e =
      let struct = field_owner (λ s. (definitions s).underlying) t in
      first_owned name (field_of definitions p.path name struct) (method_of definitions p.path name (owner t)) (field_found name struct)
      (method_found name (owner t)) found e

  owned : (name : List ℕ) (d : Declaration) → IsOwnedAs name d → IsOwned d
  owned name (declares.Predeclared n) h = h
  owned name (declares.Declared path n) h = h
  owned name (declares.Field s) h =
      let o = h.0 in
      let c = o.counts in
      record {
        inside = o.inside;
        is_package = o.is_package;
        in_closure = o.in_closure;
        of_path = o.of_path;
        counts = record { definition = c.definition; name = name; field = c.field; counting = c.counting };
      }
  owned name (declares.Method s) h =
      let o = h.0 in
      let c = o.counts in
      record {
        inside = o.inside;
        is_package = o.is_package;
        in_closure = o.in_closure;
        of_path = o.of_path;
        counts = record { definition = c.definition; name = name; method = c.method; counting = c.counting };
      }

  pub member_owned : (name : List ℕ) (t : PlainType) (found : Member) → member_by definitions p.path name t ≡ Some found → IsOwned (declaration_of found)
  member_owned name t found e = owned name (declaration_of found) (member_named name t found e)
