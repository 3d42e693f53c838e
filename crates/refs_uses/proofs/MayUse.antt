-- The packages that may use a declaration: its own, those that import it if it is exported, and for a member those that import it
-- indirectly and use members.
use Rattle.std.proofs.Common.{ℕ, ◌≡◌, inl, inr, List, [], ◌∷◌, true, map, refl, sym, ap, subst, ◌∙◌}
use Rattle.std.specs.Prelude.{Option, Some, None, Contains, slice_get}
use Rattle.std.specs.Borrow.{Bor}
use Rattle.std.specs.Global.{Vec}
use Rattle.std.specs.Option.{is_some}
use Rattle.std.proofs.lemmas.Option.{none-some, same_Some}
use Rattle.base_lemmas.proofs.Elements.{nothing_in, first_in, later_in, first_or_later}
use Rattle.base_files.specs.Packages.{package_paths, package_files}
use Rattle.base_files.specs.Workspace.{Workspace}
use Rattle.go_ast.specs.SourceFile.{FileParts, source_of, spelling_of}
use Rattle.go_scope.specs.Named.{name_value}
use Rattle.workspace_graph.specs.Packages.{PackageImports, IsInClosure}
use Rattle.workspace_graph.specs.Parsed.{AreParsed}
use Rattle.workspace_graph.proofs.PackagePaths.{paths_sorted, one_number}
use Rattle.types_expr.specs.declared.found.MemberUse.{MemberUse as FoundUse}
use Rattle.types_expr.specs.Found.{use_of}
use Rattle.types_expr.specs.Judge.{MemberUse}
use Rattle.types_expr.specs.World.{Member, AField, AMethod, ABrokenMethod, Definition, member_symbol}
use Rattle.types_expr.specs.declared.symbol.Symbol.{Symbol}
use Rattle.types_declared.specs.Definitions.{AreDefinitions}
use Rattle.types_declared.specs.Package.{Package, spelled, spelled_at}
use Rattle.types_info.specs.MemberUses.{AreMemberUses, uses_in}
use Rattle.types_info.proofs.MeaningLists.{slice_get_some}
use Rattle.types_info.proofs.OneWorld.{has_one_world}
use Rattle.workspace_check.specs.Verdicts.{Verdicts, AreVerdicts}
use Rattle.workspace_check.proofs.OnePackage.{layout_formed, files_in_order, one_sources}
use Rattle.refs_binding.specs.declared.declaration.Declaration.{Declaration}
use Rattle.refs_binding.specs.declared.declaration.Declaration.TheVariants.{Predeclared, Declared, Field, Method}
use Rattle.refs_binding.specs.Binding.{declaration_of, UsesMemberAt}
use Rattle.refs_binding.specs.Members.{uses_or_none}
use Rattle.refs_binding.specs.Steps.{BindsIn, by_scope, by_package, by_member, by_name}
use Rattle.refs_binding.specs.Workspaces.{IsPackageAt, home_path}
use Rattle.refs_binding.proofs.MemberParts.{not_declared, one_list, file_uses, has_uses}
use Rattle.refs_lookup.proofs.NamedImports.{named_is_imported}
use Rattle.refs_lookup.proofs.OwnedMembers.{IsOwned, member_owned}

-- a member has the package of its symbol
member_home : (m : Member) → home_path (declaration_of m) ≡ Some (member_symbol m).package
member_home (AField s t) = refl
member_home (AMethod s on_pointer signature) = refl
member_home (ABrokenMethod s) = refl

-- there is a name
pub some_named : (name : Option (Bor (List ℕ))) → (name_value name ≡ None → ⊥) → is_some name ≡ true
some_named None none = absurd (none refl)
some_named (Some x) none = refl

-- in the package of another number than that of the declaration's own package
module _ (w : Workspace) (known : Verdicts) (home n : ℕ) (other : home ≡ n → ⊥) (p : Package) (is : IsPackageAt w known n p) where
  not_own : (path : List ℕ) → slice_get (package_paths w) home ≡ Some path → path ≡ p.path → ⊥
  not_own path at same = other (one_number (package_paths w) (paths_sorted w) home n path at (is.has_number ∙ ap Some (sym same)))

  -- a declaration of a scope is used behind the name of its package
  pub used_behind : (path : List ℕ) (d : ℕ) (name : Option (List ℕ)) (u : ℕ) → slice_get (package_paths w) home ≡ Some path →
      BindsIn p (Declared path d) name u →
      (name ≡ None → ⊥) × PackageImports w p.path path
  used_behind path d name u at (by_scope h) = absurd (not_own path at h.0)
  used_behind path d None u at (by_package h) = absurd h
  used_behind path d (Some x) u at (by_package h) = (
    λ e. none-some x (sym e),
    named_is_imported w known p.path p is.is_package.is_checked (p.layout.place u).file h.0.before path h.0.named,
  )
  used_behind path d name u at (by_member h) = absurd (not_declared h.member path d h.declares)
  used_behind path d name u at (by_name h) = absurd h

  -- a member is used as one
  pub field_used : (s : Symbol) (name : Option (List ℕ)) (u : ℕ) → slice_get (package_paths w) home ≡ Some s.package → BindsIn p (Field s) name u →
      UsesMemberAt p (p.layout.place u).file (p.layout.place u).index (Field s)
  field_used s name u at (by_scope h) = absurd h
  field_used s None u at (by_package h) = absurd h
  field_used s (Some x) u at (by_package h) = absurd h
  field_used s name u at (by_member h) = h
  field_used s name u at (by_name h) = absurd (not_own s.package at h.0)

  pub method_used : (s : Symbol) (name : Option (List ℕ)) (u : ℕ) → slice_get (package_paths w) home ≡ Some s.package → BindsIn p (Method s) name u →
      UsesMemberAt p (p.layout.place u).file (p.layout.place u).index (Method s)
  method_used s name u at (by_scope h) = absurd h
  method_used s None u at (by_package h) = absurd h
  method_used s (Some x) u at (by_package h) = absurd h
  method_used s name u at (by_member h) = h
  method_used s name u at (by_name h) = absurd (not_own s.package at h.0)

-- a use of a member is one that the program has
use_from : (uses : List FoundUse) (found : MemberUse) → Contains (map use_of uses) found → (u : FoundUse) × (Contains uses u × (use_of u ≡ found))
use_from [] found h = absurd (nothing_in found h)
use_from (u ∷ uses) found h = elim (first_or_later (use_of u) (map use_of uses) found h) [
  | inl here ↦ (u, (first_in u uses, here))
  | inr later ↦ (let x = use_from uses found later in (x.0, (later_in u uses x.0 x.1.0, x.1.1)))
]

-- where a member is used
module _ (w : Workspace) (known : Verdicts) (right : AreVerdicts w known) (n : ℕ) (p : Package) (is : IsPackageAt w known n p) where
  owned_within : (definitions : Symbol → Definition) (are : AreDefinitions p definitions) (d : Declaration) →
      IsOwned w known right p is.is_package definitions are d → (path : List ℕ) → home_path d ≡ Some path →
      IsInClosure w p.path path
  owned_within definitions are (Predeclared k) o path e = absurd o
  owned_within definitions are (Declared q k) o path e = absurd o
  owned_within definitions are (Field s) o path e = subst (IsInClosure w p.path) (o.of_path ∙ same_Some s.package path e) o.in_closure
  owned_within definitions are (Method s) o path e = subst (IsInClosure w p.path) (o.of_path ∙ same_Some s.package path e) o.in_closure

  -- its package is in the closure
  pub member_within : (file token : ℕ) (d : Declaration) → UsesMemberAt p file token d → (path : List ℕ) → home_path d ≡ Some path → IsInClosure w p.path path
  member_within file token d m path e =
      let world = m.judged.judged_by in
      let owned = member_owned w known right p is.is_package world.definitions world.are_definitions (spelling_of m.judged.source token) m.found.before
      m.member (sym (world.member token m.found.before) ∙ m.is_member) in
      owned_within world.definitions world.are_definitions d
      (subst (λ x. IsOwned w known right p is.is_package world.definitions world.are_definitions x) m.declares owned) path e

  pub member_reached : (home file token : ℕ) (d : Declaration) → UsesMemberAt p file token d → slice_get (package_paths w) home ≡ home_path d →
      (path : List ℕ) × ((slice_get (package_paths w) home ≡ Some path) × IsInClosure w p.path path)
  member_reached home file token d m at =
      let path = (member_symbol m.member).package in
      let of_path : home_path d ≡ Some path = ap home_path (sym m.declares) ∙ member_home m.member in
      (path, (at ∙ of_path, member_within file token d m path of_path))

  -- and some member is used in the file
  pub one_used : (members : List (Vec FoundUse)) → AreMemberUses p (map uses_in members) → (file token : ℕ) (d : Declaration) → UsesMemberAt p file token d →
      uses_or_none (slice_get members file) ≡ [] → ⊥
  one_used members all file token d m empty =
      let v = slice_get_some members file (has_uses p members all file m.uses m.judged) in
      let h = is.is_package.is_checked in
      let one = has_one_world p (layout_formed w known p.path p h) (files_in_order w known p.path p h) in
      let lists : m.uses ≡ uses_in v.0 = one_list p one file m.uses (uses_in v.0) m.judged (file_uses p members all file v.0 v.1) in
      let none : v.0.items ≡ [] = sym (ap uses_or_none v.1) ∙ empty in
      nothing_in m.found (subst (λ l. Contains l m.found) (lists ∙ ap (map use_of) none) m.is_use)

  -- and one that is spelled so
  pub one_spelled : (members : List (Vec FoundUse)) → AreMemberUses p (map uses_in members) → (file token : ℕ) (d : Declaration) → UsesMemberAt p file token d →
      (trees : List FileParts) → AreParsed (package_files w p.path) trees [] → (name : List ℕ) → spelled p file token ≡ name →
      ((u : FoundUse) → Contains (uses_or_none (slice_get members file)) u → spelled_at (slice_get (map source_of trees) file) u.place ≡ name → ⊥) → ⊥
  one_spelled members all file token d m trees parsed name called none =
      let v = slice_get_some members file (has_uses p members all file m.uses m.judged) in
      let h = is.is_package.is_checked in
      let one = has_one_world p (layout_formed w known p.path p h) (files_in_order w known p.path p h) in
      let lists : m.uses ≡ uses_in v.0 = one_list p one file m.uses (uses_in v.0) m.judged (file_uses p members all file v.0 v.1) in
      let x = use_from v.0.items m.found (subst (λ l. Contains l m.found) lists m.is_use) in
      let files : map source_of trees ≡ p.files = one_sources parsed h.parsed ∙ sym (ap (λ (q : Package). q.files) h.is_package.is_package) in
      let token_is : x.0.place ≡ token = ap (λ (u : MemberUse). u.place) x.1.1 ∙ m.at in
      none x.0 (subst (λ l. Contains l x.0) (sym (ap uses_or_none v.1)) x.1.0)
      (ap (λ fs. spelled_at (slice_get fs file) x.0.place) files ∙ ap (spelled p file) token_is ∙ called)

-- another package is not that of the declaration
pub other_home : (w : Workspace) (home n : ℕ) → (home ≡ n → ⊥) → (path : List ℕ) → slice_get (package_paths w) n ≡ Some path → (d : Declaration) →
    slice_get (package_paths w) home ≡ home_path d → home_path d ≡ Some path → ⊥
other_home w home n other path at d is same = other (one_number (package_paths w) (paths_sorted w) home n path (is ∙ same) at)
