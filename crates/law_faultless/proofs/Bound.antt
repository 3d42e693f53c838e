-- In a workspace without faults files keep the typing rules, and identifiers have declarations.
use Rattle.std.proofs.Common.{ℕ, zero, suc, ◌≡◌, ◌<◌, ◌⊎◌, inl, inr, true, List, [], length, ap, sym, subst, refl, ◌∙◌, arith}
use Rattle.std.specs.Prelude.{Some, slice_get}
use Rattle.std.specs.Option.{option_map}
use Rattle.std.proofs.lemmas.Bool.{cases_lt, true≢false}
use Rattle.std.proofs.lemmas.Option.{slice_get-map}
use Rattle.base_files.specs.Workspace.{Workspace}
use Rattle.go_ast.specs.SourceFile.{SourceFile, source_of, spelling_of}
use Rattle.go_scope.specs.declared.model.Purpose.TheVariants as purpose
use Rattle.go_scope.specs.declared.model.Role.{Role}
use Rattle.go_scope.specs.declared.model.Role.TheVariants.{Use, Declaring, LeftName, Implied, NotLexical}
use Rattle.go_scope.specs.Bindings as scopes
use Rattle.go_scope.specs.Bindings.{MayDeclare, may_declare, is_use, is_left_name, own}
use Rattle.go_scope.specs.FileSites.{universe}
use Rattle.go_scope.specs.WellFormed.{WellFormed}
use Rattle.types_expr.specs.Judge.{MemberUse, members_of}
use Rattle.types_expr.specs.World.{World}
use Rattle.types_stmt.specs.Declarations.{check_file}
use Rattle.law_typing.specs.Declarations.{FileIsTyped}
use Rattle.types_declared.specs.Package.{Package}
use Rattle.types_declared.specs.Written.{BindsToken, DeclaresImport}
use Rattle.types_declared.proofs.Naming.{one_binding}
use Rattle.types_info.specs.MemberUses.{AreUsesIn}
use Rattle.types_info.specs.Worlds.{IsWorldOf, is_init}
use Rattle.workspace_check.specs.FaultLists.{ListsFaults}
use Rattle.workspace_check.specs.Verdicts.{Verdicts, AreVerdicts}
use Rattle.workspace_check.proofs.OnePackage.{layout_formed}
use Rattle.refs_binding.specs.declared.declaration.Declaration.{Declaration}
use Rattle.refs_binding.specs.declared.declaration.Declaration.TheVariants.{Predeclared, Declared}
use Rattle.types_info.specs.QualifiedIdentifiers.{IsQualifiedByPath}
use Rattle.refs_binding.specs.Binding.{by_scope, by_member}
use Rattle.refs_binding.specs.Identifiers.{IsInFiles}
use Rattle.refs_binding.specs.Uses.{IsCheckedPackage, IsBoundToDeclaration}
use Rattle.refs_lookup.proofs.OnePlace.{same_files}
use Rattle.refs_lookup.proofs.ExportedNames.{bound_behind}
use Rattle.refs_lookup.proofs.BoundUsedMembers.{file_at}
use Rattle.law_faultless.proofs.Deciding.{is_true}
use Rattle.law_faultless.proofs.Lexical.{declares, binding}
use Rattle.law_faultless.proofs.TypesDecided.{token_bound, path}
use Rattle.law_faultless.specs.MemberNames.{IsMemberName, a_selected, a_key}
use Rattle.law_faultless.proofs.Fine.{world_unbroken}
use Rattle.law_faultless.proofs.LinksBound.{member_bound}
use Rattle.law_faultless.proofs.Rules.{keeps_rules}
use Rattle.law_faultless.proofs.Scoped.{file_resolved}
use Rattle.law_faultless.specs.Roles.{is_bound_role}
use Rattle.law_faultless.proofs.MeaningfulNames.{names_mean, uses_bound, declared_counts}
use Rattle.law_faultless.proofs.PackageWorlds.{strings_known, have_worlds, have_all_worlds}

module _ (w : Workspace) (sound : ListsFaults w []) (known : Verdicts) (right : AreVerdicts w known) (p : Package) (is : IsCheckedPackage w known p) where
  abbrev formed : WellFormed p.layout
  formed = layout_formed w known p.path p is.is_checked

  -- files

  abbrev uses_in : SourceFile → World → List MemberUse
  uses_in s v = members_of (check_file v (is_init s) s.tree).uses

  pub file_typed : (file : ℕ) (s : SourceFile) → slice_get p.files file ≡ Some s → (v : World) → IsWorldOf p file s v → FileIsTyped v (is_init s) s.tree
  file_typed file s at v judged =
      let worlds = have_all_worlds w sound known right in
      let a : AreUsesIn p file (uses_in s v) = record { source = s; in_file = at; world = v; judged_by = judged; found = refl } in
      let unbroken = world_unbroken w sound known right worlds p is file s v judged in
      keeps_rules w sound known right worlds p is file (uses_in s v) a (record { rank = file; spell = spelling_of s })
      (file_resolved w known p.path p is.is_checked file (uses_in s v) a unbroken (names_mean w sound known right p is file s at v judged))

  pub source_at : (u : ℕ) → IsInFiles p u → (s : SourceFile) × (slice_get p.files (p.layout.place u).file ≡ Some s)
  source_at u stands =
      let h = is.is_checked in
      let at = p.layout.place u in
      let t = file_at w known p.path p h at u stands.0 (stands.1, refl, refl) in (
        source_of t.0,
        subst (λ xs. slice_get xs at.file ≡ Some (source_of t.0)) (sym (same_files w known p.path p h))
            (slice_get-map source_of h.files at.file ∙ ap (option_map source_of) t.1),
      )

  -- members
  pub member_name_bound : (u : ℕ) → IsInFiles p u → IsMemberName p u → (d : Declaration) × IsBoundToDeclaration w known p u d
  member_name_bound u stands name =
      let file = (p.layout.place u).file in
      let s = source_at u stands in
      let v = have_worlds w sound known right p is file s.0 s.1 in
      let a : AreUsesIn p file (uses_in s.0 v.0) = record { source = s.0; in_file = s.1; world = v.0; judged_by = v.1; found = refl } in
      let d = member_bound w known p.path p is.is_checked u stands (uses_in s.0 v.0) a (file_typed file s.0 s.1 v.0 v.1) name in (d.0, by_member d.1)

  -- names of scopes

  by_number : (u n : ℕ) → scopes.IsBoundTo p.layout p.names u n → (d : Declaration) × IsBoundToDeclaration w known p u d
  by_number u n b = elim (cases_lt n (length universe)) [
    | inl below ↦ (Predeclared n, by_scope (below, b))
    | inr ge ↦ (Declared p.path n, by_scope (refl, (λ below. let less : n < length universe = below in absurd (omega arith)), b))
  ]

  unbound_no : (u : ℕ) → u < p.size → MayDeclare p.layout u ⊎ (is_use (p.layout.role u) ≡ true) → ((n : ℕ) → scopes.IsBoundTo p.layout p.names u n → ⊥) → ⊥
  unbound_no u lt h none = elim h [
    | inr use_of ↦ uses_bound w sound known right p is u lt (inl use_of) none
    | inl may ↦ elim (declares p.layout p.names formed u) [
      | inl d ↦ declared_counts w sound known right p is u lt d (λ c. none u (own refl c))
      | inr old ↦ elim (is_true (is_left_name (p.layout.role u))) [
        | inl left ↦ uses_bound w sound known right p is u lt (inr (left, old)) none
        | inr other ↦ old (record { may = may; is_new = λ left. absurd (other left) })
      ]
    ]
  ]

  pub lexical_bound : (u : ℕ) → IsInFiles p u → MayDeclare p.layout u ⊎ (is_use (p.layout.role u) ≡ true) →
      (d : Declaration) × IsBoundToDeclaration w known p u d
  lexical_bound u stands h = elim (binding p.layout p.names formed u) [
    | inl n ↦ by_number u n.0 n.1
    | inr none ↦ absurd (unbound_no u stands.0 h none)
  ]

  -- names behind a dot

  abbrev IsBehindSome : ℕ → Type 0
  IsBehindSome u = ((q : List ℕ) × IsQualifiedByPath p u q) ⊎ ((q : List ℕ) → IsQualifiedByPath p u q → ⊥)

  behind_at : (u : ℕ) → p.layout.role u ≡ NotLexical purpose.Selected → (i : ℕ) → (p.layout.place u).index ≡ i → IsBehindSome u
  behind_at u role zero e = inr (λ q b. let at : (p.layout.place u).index ≡ suc (suc b.before) = b.behind_dot in absurd (omega arith))
  behind_at u role (suc zero) e = inr (λ q b. let at : (p.layout.place u).index ≡ suc (suc b.before) = b.behind_dot in absurd (omega arith))
  behind_at u role (suc (suc before)) e = elim (token_bound p formed (p.layout.place u).file before) [
    | inr none ↦ inr (λ q b. none b.named.import (moved b))
    | inl d ↦ elim (path p formed (strings_known w sound known right p is) d.0) [
      | inl q ↦ inl (
        q.0,
        record { selected = role; before = before; behind_dot = e; named = record { import = d.0; binds = d.1; imports = q.1 } },
      )
      | inr none ↦ inr (λ q b.
          none q (subst (λ k. DeclaresImport p k q) (one_binding p formed (p.layout.place u).file before b.named.import d.0 (moved b) d.1) b.named.imports))
    ]
  ]
    where
      moved : {q : List ℕ} (b : IsQualifiedByPath p u q) → BindsToken p (p.layout.place u).file before b.named.import
      moved b =
          let at : (p.layout.place u).index ≡ suc (suc b.before) = b.behind_dot in
          let same : b.before ≡ before = omega arith in subst (λ k. BindsToken p (p.layout.place u).file k b.named.import) same b.named.binds

  selected_bound : (u : ℕ) → IsInFiles p u → p.layout.role u ≡ NotLexical purpose.Selected → (d : Declaration) × IsBoundToDeclaration w known p u d
  selected_bound u stands role = elim (behind_at u role (p.layout.place u).index refl) [
    | inl q ↦ (let d = bound_behind w sound known right p is u stands q.0 q.1 in (Declared q.0 d.0, d.1))
    | inr none ↦ member_name_bound u stands (a_selected role none)
  ]

  by_role : (u : ℕ) → IsInFiles p u → (r : Role) → p.layout.role u ≡ r → is_bound_role r ≡ true → (d : Declaration) × IsBoundToDeclaration w known p u d
  by_role u stands Use role e = lexical_bound u stands (inr (ap is_use role))
  by_role u stands (Declaring block start) role e = lexical_bound u stands (inl (ap may_declare role))
  by_role u stands (LeftName block start) role e = lexical_bound u stands (inl (ap may_declare role))
  by_role u stands (Implied block start) role e = lexical_bound u stands (inl (ap may_declare role))
  by_role u stands (NotLexical purpose.Selected) role e = selected_bound u stands role
  by_role u stands (NotLexical purpose.Key) role e = member_name_bound u stands (a_key role)
  by_role u stands (NotLexical purpose.PackageClause) role e = absurd (true≢false (sym e))
  by_role u stands (NotLexical purpose.Member) role e = absurd (true≢false (sym e))
  by_role u stands (NotLexical purpose.ImportPath) role e = absurd (true≢false (sym e))
  by_role u stands (NotLexical purpose.UnnamedImport) role e = absurd (true≢false (sym e))
  by_role u stands (NotLexical purpose.InitFunction) role e = absurd (true≢false (sym e))
  by_role u stands (NotLexical purpose.Blank) role e = absurd (true≢false (sym e))

  pub identifier_bound : (u : ℕ) → IsInFiles p u → is_bound_role (p.layout.role u) ≡ true → (d : Declaration) × IsBoundToDeclaration w known p u d
  identifier_bound u stands e = by_role u stands (p.layout.role u) refl e
