-- To which declaration an identifier of a workspace without faults is bound is decided.
use Rattle.std.proofs.Common.{ℕ, ◌≡◌, ◌⊎◌, inl, inr, Bool, true, false, List, [], Option, Some, None, ap, sym, subst, refl, ◌∙◌}
use Rattle.std.specs.Prelude.{slice_get}
use Rattle.std.proofs.lemmas.Bool.{true≢false}
use Rattle.std.proofs.lemmas.Option.{slice_get_within}
use Rattle.base_files.specs.Workspace.{Workspace}
use Rattle.base_files.specs.declared.fault_kind.FaultKind.TheVariants as kind
use Rattle.go_ast.specs.Tree.{ReceiverTree}
use Rattle.go_scope.specs.declared.model.Position.{Position}
use Rattle.go_scope.specs.declared.model.Purpose.{Purpose}
use Rattle.go_scope.specs.declared.model.Purpose.TheVariants as purpose
use Rattle.go_scope.specs.declared.model.Role.{Role}
use Rattle.go_scope.specs.declared.model.Role.TheVariants.{Use, Declaring, LeftName, Implied, NotLexical}
use Rattle.go_scope.specs.Bindings.{is_implied}
use Rattle.go_scope.specs.Table.{LiesAt}
use Rattle.go_scope.proofs.Uniqueness.{same_or_not}
use Rattle.law_tokens.proofs.Lexical.{never_bound}
use Rattle.types_expr.specs.declared.symbol.Symbol.{Symbol}
use Rattle.types_declared.specs.declared.fault.Fault.{Fault}
use Rattle.types_declared.specs.Definitions.{PlacedField, package_fields, IsFieldOf, IsCountingField, IsMethodOf, IsCountingMethod}
use Rattle.types_declared.specs.Package.{Package, PlacedFunction, package_functions, function_place, symbol_in, spelled}
use Rattle.types_declared.proofs.ByteKeys.{cases_bytes}
use Rattle.types_members.specs.MemberFaults.{IsMemberFault}
use Rattle.workspace_check.specs.FaultLists.{ListsFaults}
use Rattle.workspace_check.specs.Verdicts.{Verdicts, AreVerdicts}
use Rattle.refs_binding.specs.declared.declaration.Declaration.{Declaration}
use Rattle.refs_binding.specs.declared.declaration.Declaration.TheVariants.{Predeclared, Declared, Field, Method}
use Rattle.refs_binding.specs.Binding.{by_scope, by_package, by_member, by_name, field_place}
use Rattle.refs_binding.specs.Identifiers.{IsInFiles}
use Rattle.refs_binding.specs.Uses.{IsCheckedPackage, IsBoundToDeclaration}
use Rattle.refs_binding.proofs.Excluding.{number_bound}
use Rattle.refs_lookup.proofs.Faultless.{no_fault_later}
use Rattle.refs_lookup.proofs.NamedMembers.{name_member}
use Rattle.refs_lookup.proofs.OneDeclaration.{one_declaration}
use Rattle.refs_lookup.proofs.UsedMembers.{link_role}
use Rattle.law_faultless.specs.Roles.{is_bound_role}
use Rattle.law_faultless.proofs.Bound.{identifier_bound}
use Rattle.law_faultless.proofs.Deciding.{Decided, both, turned, is_false, some}
use Rattle.law_faultless.proofs.MembersBound.{no_member_unbound}
use Rattle.law_faultless.proofs.PackageWorlds.{have_worlds}
use Rattle.law_faultless.proofs.WholeBound.{method_of}

-- whether two declarations are one

same_symbol : (s t : Symbol) → Decided (s ≡ t)
same_symbol s t = elim (cases_bytes s.package t.package) [
  | inr other ↦ inr (λ e. other (ap (λ (y : Symbol). y.package) e))
  | inl path ↦ elim (same_or_not s.rank t.rank) [
    | inr other ↦ inr (λ e. other (ap (λ (y : Symbol). y.rank) e))
    | inl rank ↦ inl
        (ap (λ q. record { «package» = q; rank = s.rank }) path ∙ ap (λ n. record { «package» = t.package; rank = n }) rank)
  ]
]

symbol_or : Symbol → Declaration → Symbol
symbol_or s (Predeclared n) = s
symbol_or s (Declared path n) = s
symbol_or s (Field t) = t
symbol_or s (Method t) = t

number_or : ℕ → Declaration → ℕ
number_or m (Predeclared n) = n
number_or m (Declared path n) = n
number_or m (Field t) = m
number_or m (Method t) = m

path_or : List ℕ → Declaration → List ℕ
path_or q (Predeclared n) = q
path_or q (Declared path n) = path
path_or q (Field t) = q
path_or q (Method t) = q

pub same_declaration : (d e : Declaration) → Decided (d ≡ e)
unfolding symbol_or number_or path_or
same_declaration (Predeclared m) (Predeclared n) = elim (same_or_not m n) [ inl e ↦ inl (ap Predeclared e) | inr o ↦ inr (λ e. o (ap (number_or m) e)) ]
same_declaration (Predeclared m) (Declared q n) = inr (λ e. cc)
same_declaration (Predeclared m) (Field t) = inr (λ e. cc)
same_declaration (Predeclared m) (Method t) = inr (λ e. cc)
same_declaration (Declared p m) (Predeclared n) = inr (λ e. cc)
same_declaration (Declared p m) (Declared q n) = elim (cases_bytes p q) [
  | inr other ↦ inr (λ e. other (ap (path_or p) e))
  | inl path ↦ elim (same_or_not m n) [
    | inr other ↦ inr (λ e. other (ap (number_or m) e))
    | inl number ↦ inl (ap (λ r. Declared r m) path ∙ ap (Declared q) number)
  ]
]
same_declaration (Declared p m) (Field t) = inr (λ e. cc)
same_declaration (Declared p m) (Method t) = inr (λ e. cc)
same_declaration (Field s) (Predeclared n) = inr (λ e. cc)
same_declaration (Field s) (Declared q n) = inr (λ e. cc)
same_declaration (Field s) (Field t) = elim (same_symbol s t) [ inl e ↦ inl (ap Field e) | inr o ↦ inr (λ e. o (ap (symbol_or s) e)) ]
same_declaration (Field s) (Method t) = inr (λ e. cc)
same_declaration (Method s) (Predeclared n) = inr (λ e. cc)
same_declaration (Method s) (Declared q n) = inr (λ e. cc)
same_declaration (Method s) (Field t) = inr (λ e. cc)
same_declaration (Method s) (Method t) = elim (same_symbol s t) [ inl e ↦ inl (ap Method e) | inr o ↦ inr (λ e. o (ap (symbol_or s) e)) ]

-- whether there is something

pub there_or_none : {X : Type 0} (o : Option X) → ((x : X) × (o ≡ Some x)) ⊎ (o ≡ None)
there_or_none None = inr refl
there_or_none (Some x) = inl (x, refl)

pub none_some : {X : Type 0} (o : Option X) (x : X) → o ≡ None → o ≡ Some x → ⊥
none_some o x none some = let e : None ≡ Some x = sym none ∙ some in let z : ⊥ = cc in z

-- whether identifiers with this role are names of members
abbrev is_member_role : Role → Bool
is_member_role (NotLexical purpose.Selected) = true
is_member_role (NotLexical purpose.Key) = true
is_member_role (NotLexical purpose.Member) = true
is_member_role r = false

module _ (w : Workspace) (sound : ListsFaults w []) (known : Verdicts) (right : AreVerdicts w known) (p : Package) (is : IsCheckedPackage w known p) where
  lies : (at : Position) (u : ℕ) → Decided (LiesAt p.layout at u)
  lies at u =
      let File = (p.layout.place u).file ≡ at.file in
      let Index = (p.layout.place u).index ≡ at.index in
      let Identifier = is_implied (p.layout.role u) ≡ false in
      turned (Identifier × (File × Index)) (LiesAt p.layout at u) (λ h. (h.0, h.1.0, h.1.1)) (λ h. (h.0, (h.1, h.2)))
      (both Identifier (File × Index) (is_false (is_implied (p.layout.role u)))
      (both File Index (same_or_not (p.layout.place u).file at.file) (same_or_not (p.layout.place u).index at.index)))

  -- each field and each method counts

  no_member_fault : (f : Fault) → IsMemberFault p f → ⊥
  no_member_fault f h =
      no_fault_later w sound known right p is f (inr ((λ g inner. no_fault_later w sound known right p is g (inl inner)), inl h))

  field_here : (u rank : ℕ) (f : PlacedField) → slice_get (package_fields p) rank ≡ Some f → LiesAt p.layout (field_place f) u →
      IsBoundToDeclaration w known p u (Field (symbol_in p rank))
  field_here u rank f has stands =
      let name = spelled p f.file f.name in
      let own : IsFieldOf p f.definition name rank f = record { has_rank = has; of_struct = refl; named = refl } in
      let counting : IsCountingField p f.definition name rank f = record {
        is_field = own;
        first = λ other g lt h. no_member_fault (record { file = f.file; token = f.name; kind = kind.Repeated }) (inl (record {
          definition = f.definition;
          name = name;
          rank = rank;
          field = f;
          is_field = own;
          displaced = λ c. c.first other g lt h;
          at = refl;
        }));
      } in
      by_name (
        refl,
        record {
          at = field_place f;
          is_at = record { counts = record { definition = f.definition; name = name; field = f; counting = counting }; named_at = refl };
          stands = stands;
        },
      )

  method_here : (u definition rank : ℕ) (name : List ℕ) (f : PlacedFunction) → IsMethodOf p definition name rank f → LiesAt p.layout (function_place f) u →
      IsBoundToDeclaration w known p u (Method (symbol_in p rank))
  method_here u definition rank name f own stands =
      let fault : Fault = record { file = f.file; token = f.function.name; kind = kind.Repeated } in
      let not_displaced : ((IsCountingMethod p definition name rank f → ⊥) → ⊥) = λ displaced. no_member_fault fault (inr (inl (record {
        definition = definition;
        name = name;
        rank = rank;
        method = f;
        is_method = own;
        displaced = displaced;
        at = refl;
      }))) in
      let counting : IsCountingMethod p definition name rank f = record {
        is_method = own;
        no_field = λ h. not_displaced (λ c. c.no_field h);
        first = λ other g lt h. not_displaced (λ c. c.first other g lt h);
      } in
      by_name (
        refl,
        record {
          at = function_place f;
          is_at = record { counts = record { definition = definition; name = name; method = f; counting = counting }; named_at = refl };
          stands = stands;
        },
      )

  -- the name by which a member is declared

  IsFieldThere : ℕ → ℕ → Type 0
  IsFieldThere u rank = (f : PlacedField) × ((slice_get (package_fields p) rank ≡ Some f) × LiesAt p.layout (field_place f) u)

  IsMethodThere : ℕ → ℕ → Type 0
  IsMethodThere u rank = (f : PlacedFunction) × ((slice_get (package_functions p) rank ≡ Some f) ×
      ((r : ReceiverTree) × ((f.function.receiver ≡ Some r) × LiesAt p.layout (function_place f) u)))

  field_there : (u rank : ℕ) → Decided (IsFieldThere u rank)
  unfolding IsFieldThere
  field_there u rank = elim (there_or_none (slice_get (package_fields p) rank)) [
    | inr none ↦ inr (λ h. none_some (slice_get (package_fields p) rank) h.0 none h.1.0)
    | inl f ↦ elim (lies (field_place f.0) u) [
      | inl here ↦ inl (f.0, (f.1, here))
      | inr other ↦ inr (λ h. other (subst (λ (g : PlacedField). LiesAt p.layout (field_place g) u)
          (same_found (slice_get (package_fields p) rank) h.0 f.0 h.1.0 f.1) h.1.1))
    ]
  ]
    where
      same_found : {X : Type 0} (o : Option X) (x y : X) → o ≡ Some x → o ≡ Some y → x ≡ y
      same_found o x y a b = let e : Some x ≡ Some y = sym a ∙ b in cc

  method_there : (u rank : ℕ) → Decided (IsMethodThere u rank)
  unfolding IsMethodThere
  method_there u rank = elim (there_or_none (slice_get (package_functions p) rank)) [
    | inr none ↦ inr (λ h. none_some (slice_get (package_functions p) rank) h.0 none h.1.0)
    | inl f ↦ elim (there_or_none f.0.function.receiver) [
      | inr none ↦ inr (λ h. none_some f.0.function.receiver h.1.1.0 none
          (subst (λ (g : PlacedFunction). g.function.receiver ≡ Some h.1.1.0) (same_found (slice_get (package_functions p) rank) h.0 f.0 h.1.0 f.1) h.1.1.1.0))
      | inl r ↦ elim (lies (function_place f.0) u) [
        | inl here ↦ inl (f.0, (f.1, (r.0, (r.1, here))))
        | inr other ↦ inr (λ h. other (subst (λ (g : PlacedFunction). LiesAt p.layout (function_place g) u)
            (same_found (slice_get (package_functions p) rank) h.0 f.0 h.1.0 f.1) h.1.1.1.1))
      ]
    ]
  ]
    where
      same_found : {X : Type 0} (o : Option X) (x y : X) → o ≡ Some x → o ≡ Some y → x ≡ y
      same_found o x y a b = let e : Some x ≡ Some y = sym a ∙ b in cc

  -- what names no member there is bound to nothing
  unbound_member : (u : ℕ) → IsInFiles p u → p.layout.role u ≡ NotLexical purpose.Member → ((rank : ℕ) → IsFieldThere u rank → ⊥) →
      ((rank : ℕ) → IsMethodThere u rank → ⊥) → (d : Declaration) → IsBoundToDeclaration w known p u d → ⊥
  unfolding IsFieldThere IsMethodThere
  unbound_member u stands role no_field no_method d (by_scope k) =
      let n = number_bound p u d k in never_bound p.layout p.names u n.0 purpose.Member role n.1
  unbound_member u stands role no_field no_method (Declared path n) (by_package k) =
      let e : NotLexical purpose.Member ≡ NotLexical purpose.Selected = sym role ∙ k.behind.selected in let z : ⊥ = cc in z
  unbound_member u stands role no_field no_method (Predeclared n) (by_package k) = k
  unbound_member u stands role no_field no_method (Field s) (by_package k) = k
  unbound_member u stands role no_field no_method (Method s) (by_package k) = k
  unbound_member u stands role no_field no_method d (by_member k) = elim (link_role w known p.path p is.is_checked u d stands k) [
    | inl key ↦ (let e : NotLexical purpose.Member ≡ NotLexical purpose.Key = sym role ∙ key in let z : ⊥ = cc in z)
    | inr selected ↦ (let e : NotLexical purpose.Member ≡ NotLexical purpose.Selected = sym role ∙ selected in let z : ⊥ = cc in z)
  ]
  unbound_member u stands role no_field no_method (Predeclared n) (by_name k) = k
  unbound_member u stands role no_field no_method (Declared path n) (by_name k) = k
  unbound_member u stands role no_field no_method (Field s) (by_name k) =
      let x = k.1 in
      let c = x.is_at.counts in
      no_field s.rank (c.field, (c.counting.is_field.has_rank, subst (λ at. LiesAt p.layout at u) (sym x.is_at.named_at) x.stands))
  unbound_member u stands role no_field no_method (Method s) (by_name k) =
      let x = k.1 in
      let c = x.is_at.counts in
      let m = c.counting.is_method in
      no_method s.rank
      (c.method, (m.has_rank, (m.receiver, (m.received, subst (λ at. LiesAt p.layout at u) (sym x.is_at.named_at) x.stands))))

  member_here : (u : ℕ) → IsInFiles p u → p.layout.role u ≡ NotLexical purpose.Member → (d : Declaration) × IsBoundToDeclaration w known p u d
  unfolding IsFieldThere IsMethodThere
  member_here u stands role =
      elim (some (IsFieldThere u) (field_there u) _ (λ k h. slice_get_within (package_fields p) k h.0 h.1.0)) [
        | inl h ↦ (Field (symbol_in p h.0), field_here u h.0 h.1.0 h.1.1.0 h.1.1.1)
        | inr no_field ↦ elim (some (IsMethodThere u) (method_there u) _ (λ k h. slice_get_within (package_functions p) k h.0 h.1.0)) [
          | inl h ↦ (
              let f = h.1.0 in
              let r = h.1.1.1 in
              let m = method_of w sound known right p is (have_worlds w sound known right p is) h.0 f h.1.1.0 r.0 r.1.0 in
              (Method (symbol_in p h.0), method_here u m.0 h.0 (spelled p f.file f.function.name) f m.1 r.1.1))
          | inr no_method ↦ absurd (no_member_unbound w sound known right p is u stands (unbound_member u stands role no_field no_method) role)
        ]
      ]

  -- an identifier that names no member, is no lexical use, and declares nothing

  bound_to_nothing : (u : ℕ) (q : Purpose) → IsInFiles p u → p.layout.role u ≡ NotLexical q → is_member_role (NotLexical q) ≡ false → (d : Declaration) →
      IsBoundToDeclaration w known p u d → ⊥
  bound_to_nothing u q stands role none d (by_scope k) = let n = number_bound p u d k in never_bound p.layout p.names u n.0 q role n.1
  bound_to_nothing u q stands role none (Declared path n) (by_package k) =
      true≢false (sym (ap is_member_role (sym role ∙ k.behind.selected)) ∙ none)
  bound_to_nothing u q stands role none (Predeclared n) (by_package k) = k
  bound_to_nothing u q stands role none (Field s) (by_package k) = k
  bound_to_nothing u q stands role none (Method s) (by_package k) = k
  bound_to_nothing u q stands role none d (by_member k) = elim (link_role w known p.path p is.is_checked u d stands k) [
    | inl key ↦ true≢false (sym (ap is_member_role (sym role ∙ key)) ∙ none)
    | inr selected ↦ true≢false (sym (ap is_member_role (sym role ∙ selected)) ∙ none)
  ]
  bound_to_nothing u q stands role none d (by_name k) =
      true≢false (sym (ap is_member_role (sym role ∙ name_member w known p.path p is.is_checked u d stands.0 k)) ∙ none)

  -- to which declaration an identifier is bound, if to any

  by_role : (u : ℕ) → IsInFiles p u → (r : Role) → p.layout.role u ≡ r →
      ((d : Declaration) × IsBoundToDeclaration w known p u d) ⊎ ((d : Declaration) → IsBoundToDeclaration w known p u d → ⊥)
  by_role u stands Use role = inl (identifier_bound w sound known right p is u stands (ap is_bound_role role))
  by_role u stands (Declaring block start) role = inl (identifier_bound w sound known right p is u stands (ap is_bound_role role))
  by_role u stands (LeftName block start) role = inl (identifier_bound w sound known right p is u stands (ap is_bound_role role))
  by_role u stands (Implied block start) role = inl (identifier_bound w sound known right p is u stands (ap is_bound_role role))
  by_role u stands (NotLexical purpose.Selected) role = inl (identifier_bound w sound known right p is u stands (ap is_bound_role role))
  by_role u stands (NotLexical purpose.Key) role = inl (identifier_bound w sound known right p is u stands (ap is_bound_role role))
  by_role u stands (NotLexical purpose.Member) role = inl (member_here u stands role)
  by_role u stands (NotLexical purpose.PackageClause) role = inr (bound_to_nothing u purpose.PackageClause stands role refl)
  by_role u stands (NotLexical purpose.ImportPath) role = inr (bound_to_nothing u purpose.ImportPath stands role refl)
  by_role u stands (NotLexical purpose.UnnamedImport) role = inr (bound_to_nothing u purpose.UnnamedImport stands role refl)
  by_role u stands (NotLexical purpose.InitFunction) role = inr (bound_to_nothing u purpose.InitFunction stands role refl)
  by_role u stands (NotLexical purpose.Blank) role = inr (bound_to_nothing u purpose.Blank stands role refl)

  pub bound_decided : (u : ℕ) → IsInFiles p u → (d : Declaration) → Decided (IsBoundToDeclaration w known p u d)
  bound_decided u stands d = elim (by_role u stands (p.layout.role u) refl) [
    | inr none ↦ inr (none d)
    | inl e ↦ elim (same_declaration e.0 d) [
      | inl same ↦ inl (subst (IsBoundToDeclaration w known p u) same e.1)
      | inr other ↦ inr (λ b. other (one_declaration w known p is u stands e.0 d e.1 b))
    ]
  ]
