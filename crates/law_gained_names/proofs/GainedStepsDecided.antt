-- Each identifier is bound, or nothing is bound where the edit set moves it.
use Rattle.std.proofs.Common.{ℕ, ◌≡◌, ◌⊎◌, inl, inr, Bool, true, false, List, [], length, refl, sym, ap, ◌∙◌, subst}
use Rattle.std.proofs.lemmas.Bool.{cases_Bool, true≢false}
use Rattle.std.proofs.lemmas.Option.{slice_get_within}
use Rattle.base_files.specs.Workspace.{Workspace}
use Rattle.base_files.specs.declared.place.Place.{Place}
use Rattle.base_edits.specs.EditSet.{FileChanges, edited}
use Rattle.base_edits.specs.Moved.{moved}
use Rattle.go_ast.specs.SourceFile.{SourceFile}
use Rattle.go_scope.specs.declared.model.Purpose.{Purpose}
use Rattle.go_scope.specs.declared.model.Purpose.TheVariants as purpose
use Rattle.go_scope.specs.declared.model.Role.{Role}
use Rattle.go_scope.specs.declared.model.Role.TheVariants.{Declaring, Implied, LeftName, NotLexical, Use}
use Rattle.go_scope.specs.Moves.{moved_role}
use Rattle.law_tokens.proofs.Lexical.{never_bound}
use Rattle.types_declared.proofs.ByteKeys.{cases_bytes}
use Rattle.types_declared.specs.Definitions.{package_fields}
use Rattle.types_declared.specs.Package.{Package, package_functions, symbol_in}
use Rattle.types_expr.specs.declared.symbol.Symbol.{Symbol}
use Rattle.workspace_check.specs.FaultLists.{ListsFaults}
use Rattle.workspace_check.specs.Verdicts.{AreVerdicts, Verdicts}
use Rattle.refs_binding.specs.declared.declaration.Declaration.{Declaration}
use Rattle.refs_binding.specs.declared.declaration.Declaration.TheVariants.{Declared, Field, Method, Predeclared}
use Rattle.refs_binding.specs.Binding.{DeclaresMember, by_member, by_name, by_package, by_scope}
use Rattle.refs_binding.specs.Identifiers.{BeginsAt, IsInFiles}
use Rattle.refs_binding.specs.Uses.{IsBoundToDeclaration, IsCheckedPackage, IsUseOf}
use Rattle.refs_binding.proofs.Excluding.{number_bound}
use Rattle.refs_binding.proofs.Folders.{begins_in_folder}
use Rattle.refs_binding.proofs.Units.{one_package}
use Rattle.refs_lookup.proofs.NamedMembers.{name_member}
use Rattle.refs_lookup.proofs.OneDeclaration.{same_package}
use Rattle.refs_lookup.proofs.OnePlace.{one_begins}
use Rattle.refs_lookup.proofs.UsedMembers.{link_role}
use Rattle.refs_places.specs.Identified.{IsIdentifierAt}
use Rattle.law_faultless.specs.Roles.{is_bound_role, is_ever_bound}
use Rattle.law_faultless.proofs.Bound.{identifier_bound}
use Rattle.law_faultless.proofs.Deciding.{some}
use Rattle.law_faultless.proofs.MembersBound.{no_member_unbound}
use Rattle.law_gained_names.proofs.Decided.{bound_decided}
use Rattle.law_gained_names.specs.NamedPackage.{numbers_of}
use Rattle.law_gained_names.specs.GainedName.{IsGainedAt}
use Rattle.law_gained_names.specs.OwnName.{HasGainedBy}
use Rattle.law_gained_names.proofs.GainedStepsTokens.{i, unmoved}
use Rattle.law_gained_names.proofs.Becoming.{begins, now, others}

-- Each identifier of the workspace is bound, or nothing is bound where the edit set moves it.
abbrev pub AreDecided : Workspace → Verdicts → FileChanges → Type 0
AreDecided w known s = (place : Place) → IsIdentifierAt w known place → ((d : Declaration) × IsUseOf w known d place) ⊎
    ((e : Declaration) → IsUseOf (edited s w) known e (moved s place) → ⊥)

purpose_of : (r : Role) → is_ever_bound r ≡ false → (k : Purpose) × (r ≡ NotLexical k)
purpose_of Use e = absurd (true≢false e)
purpose_of (Declaring b s) e = absurd (true≢false e)
purpose_of (LeftName b s) e = absurd (true≢false e)
purpose_of (Implied b s) e = absurd (true≢false e)
purpose_of (NotLexical k) e = (k, refl)

purpose_stays : (m : ℕ → ℕ → ℕ) (r : Role) → is_ever_bound r ≡ false → is_ever_bound (moved_role m r) ≡ false
purpose_stays m Use e = e
purpose_stays m (Declaring b s) e = absurd (true≢false e)
purpose_stays m (LeftName b s) e = absurd (true≢false e)
purpose_stays m (Implied b s) e = absurd (true≢false e)
purpose_stays m (NotLexical k) e = e

-- identifiers of roles that are never bound

unbound_role : (v : Workspace) (known : Verdicts) (p : Package) → IsCheckedPackage v known p → (u : ℕ) → IsInFiles p u →
    is_ever_bound (p.layout.role u) ≡ false → (d : Declaration) → IsBoundToDeclaration v known p u d → ⊥
unbound_role v known p is u stands e d (by_scope k) =
    let n = number_bound p u d k in
    let q = purpose_of (p.layout.role u) e in never_bound p.layout p.names u n.0 q.0 q.1 n.1
unbound_role v known p is u stands e (Declared path n) (by_package k) = true≢false (sym (ap is_ever_bound k.behind.selected) ∙ e)
unbound_role v known p is u stands e (Predeclared n) (by_package k) = k
unbound_role v known p is u stands e (Field s) (by_package k) = k
unbound_role v known p is u stands e (Method s) (by_package k) = k
unbound_role v known p is u stands e d (by_member k) = elim (link_role v known p.path p is.is_checked u d stands k) [
  | inl key ↦ true≢false (sym (ap is_ever_bound key) ∙ e)
  | inr selected ↦ true≢false (sym (ap is_ever_bound selected) ∙ e)
]
unbound_role v known p is u stands e d (by_name k) = true≢false (sym (ap is_ever_bound (name_member v known p.path p is.is_checked u d stands.0 k)) ∙ e)

-- names of members

abbrev is_declaring : Role → Bool
is_declaring (NotLexical purpose.Member) = true
is_declaring r = false

module _ (v : Workspace) (sound : ListsFaults v []) (known : Verdicts) (right : AreVerdicts v known) (p : Package) (is : IsCheckedPackage v known p) (u : ℕ)
    (stands : IsInFiles p u) where
  abbrev Bound : Declaration → Type 0
  Bound d = IsBoundToDeclaration v known p u d

  declares : p.layout.role u ≡ NotLexical purpose.Member → (d : Declaration) → Bound d → DeclaresMember p u d
  declares role d (by_scope k) = absurd (let n = number_bound p u d k in never_bound p.layout p.names u n.0 purpose.Member role n.1)
  declares role (Declared path n) (by_package k) = absurd (true≢false (sym (ap is_declaring role) ∙ ap is_declaring k.behind.selected))
  declares role (Predeclared n) (by_package k) = absurd k
  declares role (Field s) (by_package k) = absurd k
  declares role (Method s) (by_package k) = absurd k
  declares role d (by_member k) = elim (link_role v known p.path p is.is_checked u d stands k) [
    | inl key ↦ absurd (true≢false (sym (ap is_declaring role) ∙ ap is_declaring key))
    | inr selected ↦ absurd (true≢false (sym (ap is_declaring role) ∙ ap is_declaring selected))
  ]
  declares role d (by_name k) = k

  own_symbol : (s : Symbol) → s.package ≡ p.path → s ≡ symbol_in p s.rank
  own_symbol s same = λ j. record { «package» = same j; rank = s.rank }

  field_or_none : p.layout.role u ≡ NotLexical purpose.Member →
      ((rank : ℕ) × Bound (Field (symbol_in p rank))) ⊎ ((rank : ℕ) → Bound (Field (symbol_in p rank)) → ⊥)
  field_or_none role =
      some (λ rank. Bound (Field (symbol_in p rank))) (λ rank. bound_decided v sound known right p is u stands (Field (symbol_in p rank)))
      (length (package_fields p))
      (λ rank b.
      let m = declares role (Field (symbol_in p rank)) b in
      slice_get_within (package_fields p) rank m.1.is_at.counts.field m.1.is_at.counts.counting.is_field.has_rank)

  method_or_none : p.layout.role u ≡ NotLexical purpose.Member →
      ((rank : ℕ) × Bound (Method (symbol_in p rank))) ⊎ ((rank : ℕ) → Bound (Method (symbol_in p rank)) → ⊥)
  method_or_none role =
      some (λ rank. Bound (Method (symbol_in p rank))) (λ rank. bound_decided v sound known right p is u stands (Method (symbol_in p rank)))
      (length (package_functions p))
      (λ rank b.
      let m = declares role (Method (symbol_in p rank)) b in
      slice_get_within (package_functions p) rank m.1.is_at.counts.method m.1.is_at.counts.counting.is_method.has_rank)

  member_bound : p.layout.role u ≡ NotLexical purpose.Member → (d : Declaration) × Bound d
  member_bound role = elim (field_or_none role) [
    | inl x ↦ (Field (symbol_in p x.0), x.1)
    | inr no_field ↦ elim (method_or_none role) [
      | inl x ↦ (Method (symbol_in p x.0), x.1)
      | inr no_method ↦ absurd (no_member_unbound v sound known right p is u stands (λ d b. neither no_field no_method d b (declares role d b)) role)
    ]
  ]
    where
      neither : ((rank : ℕ) → Bound (Field (symbol_in p rank)) → ⊥) → ((rank : ℕ) → Bound (Method (symbol_in p rank)) → ⊥) →
          (d : Declaration) → Bound d → DeclaresMember p u d → ⊥
      neither no_field no_method (Predeclared n) b m = m
      neither no_field no_method (Declared path n) b m = m
      neither no_field no_method (Field s) b m = no_field s.rank (subst (λ t. Bound (Field t)) (own_symbol s m.0) b)
      neither no_field no_method (Method s) b m = no_method s.rank (subst (λ t. Bound (Method t)) (own_symbol s m.0) b)

  by_role : (r : Role) → p.layout.role u ≡ r → is_ever_bound r ≡ true → (d : Declaration) × Bound d
  by_role Use role e = identifier_bound v sound known right p is u stands (ap is_bound_role role)
  by_role (Declaring block start) role e = identifier_bound v sound known right p is u stands (ap is_bound_role role)
  by_role (LeftName block start) role e = identifier_bound v sound known right p is u stands (ap is_bound_role role)
  by_role (Implied block start) role e = identifier_bound v sound known right p is u stands (ap is_bound_role role)
  by_role (NotLexical purpose.Selected) role e = identifier_bound v sound known right p is u stands (ap is_bound_role role)
  by_role (NotLexical purpose.Key) role e = identifier_bound v sound known right p is u stands (ap is_bound_role role)
  by_role (NotLexical purpose.Member) role e = member_bound role
  by_role (NotLexical purpose.PackageClause) role e = absurd (true≢false (sym e))
  by_role (NotLexical purpose.ImportPath) role e = absurd (true≢false (sym e))
  by_role (NotLexical purpose.UnnamedImport) role e = absurd (true≢false (sym e))
  by_role (NotLexical purpose.InitFunction) role e = absurd (true≢false (sym e))
  by_role (NotLexical purpose.Blank) role e = absurd (true≢false (sym e))

  pub ever_bound : is_ever_bound (p.layout.role u) ≡ true → (d : Declaration) × IsBoundToDeclaration v known p u d
  ever_bound e = by_role (p.layout.role u) refl e

-- an identifier that is never bound begins at the place
unused_at : (x : Workspace) (known : Verdicts) (place : Place) (y : Package) → IsCheckedPackage x known y → (u : ℕ) → BeginsAt y place.path place.offset u →
    is_ever_bound (y.layout.role u) ≡ false → (e : Declaration) → IsUseOf x known e place → ⊥
unused_at x known place y is u begins never e used =
    let same : used.used_in ≡ y = same_package x known place used.used_in y used.is_package is used.user u used.begins begins in
    let here : BeginsAt y place.path place.offset used.user =
    subst (λ (z : Package). BeginsAt z place.path place.offset used.user) same used.begins in
    let user : used.user ≡ u = one_begins x known y.path y is.is_checked place.path place.offset used.user u here begins in
    let bound : IsBoundToDeclaration x known y used.user e = subst (λ (z : Package). IsBoundToDeclaration x known z used.user e) same used.bound in
    unbound_role x known y is u begins.0 never e (subst (λ k. IsBoundToDeclaration x known y k e) user bound)

module _ (w : Workspace) (sound : ListsFaults w []) (s : FileChanges) (f : SourceFile) (number : ℕ) (put : List ℕ) (p q : Package)
    (h : HasGainedBy w sound.known s f number put p q) (at : ℕ) (is : IsGainedAt (i w sound.known s f number put p q h) at p q) where
  never : (place : Place) (here : IsIdentifierAt w sound.known place) → is_ever_bound (here.used_in.layout.role here.user) ≡ false →
      (e : Declaration) → IsUseOf (edited s w) sound.known e (moved s place) → ⊥
  never place here e = elim (cases_bytes here.used_in.path p.path) [
    | inr away ↦
        let in_folder = sym (begins_in_folder w sound.known here.used_in here.is_package place.path place.offset here.user here.begins) in
        let stays : moved s place ≡ place = unmoved w sound.known s f number put p q h place (λ same. away (sym in_folder ∙ same)) in
        unused_at (edited s w) sound.known (moved s place) here.used_in
        (others w sound.known s f number put p q h at is here.used_in here.is_package away) here.user
        (subst (λ (z : Place). BeginsAt here.used_in z.path z.offset here.user) (sym stays) here.begins) e
    | inl same ↦
        let whole : here.used_in ≡ p = one_package w sound.known here.used_in p here.is_package h.gained.was same in
        let begin : BeginsAt p place.path place.offset here.user =
        subst (λ (z : Package). BeginsAt z place.path place.offset here.user) whole here.begins in
        let role : is_ever_bound (p.layout.role here.user) ≡ false =
        subst (λ (z : Package). is_ever_bound (z.layout.role here.user) ≡ false) whole e in
        unused_at (edited s w) sound.known (moved s place) q (now w sound.known s f number put p q h at is)
        ((numbers_of (i w sound.known s f number put p q h) at).identifier here.user)
        (begins w sound.known s f number put p q h at is here.user place begin)
        (ap is_ever_bound (is.renumbered.roles here.user) ∙ purpose_stays is.renumbered.ends (p.layout.role here.user) role)
  ]

  pub are_decided : AreDecided w sound.known s
  are_decided place here = elim (cases_Bool (is_ever_bound (here.used_in.layout.role here.user))) [
    | inl e ↦ (let b = ever_bound w sound sound.known sound.right here.used_in here.is_package here.user here.begins.0 e in inl (
      b.0,
      record { used_in = here.used_in; is_package = here.is_package; user = here.user; begins = here.begins; bound = b.1 },
    ))
    | inr e ↦ inr (never place here e)
  ]
