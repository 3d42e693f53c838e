-- The renamed member and its type definition, and the first field or method that has the new name.
use Rattle.std.proofs.Common.{ℕ, ◌≡◌, inl, inr, Bool, true, false, List, [], length, ap, sym, subst, refl, ◌∙◌}
use Rattle.std.specs.Prelude.{◌↔◌, IsTrue, Option, Some, None, Contains, MatchOption, slice_get}
use Rattle.std.proofs.lemmas.Bool.{false≢true}
use Rattle.std.proofs.lemmas.Option.{same_Some, slice_get_read}
use Rattle.base_files.specs.Packages.{package_paths}
use Rattle.base_files.specs.Workspace.{Workspace}
use Rattle.types_expr.specs.declared.symbol.Symbol.{Symbol}
use Rattle.types_declared.specs.Package.{Package, spelled}
use Rattle.types_declared.specs.Definitions.{PlacedField}
use Rattle.types_members.proofs.MethodNames.{one_owner}
use Rattle.workspace_check.specs.declared.findings.Findings.{Findings}
use Rattle.workspace_check.proofs.OnePackage.{layout_formed}
use Rattle.refs_binding.specs.declared.declaration.Declaration.{Declaration}
use Rattle.refs_binding.specs.declared.declaration.Declaration.TheVariants.{Predeclared, Declared, Field, Method}
use Rattle.refs_binding.specs.DeclaringPlaces.{InPackage}
use Rattle.refs_binding.specs.Uses.{IsCheckedPackage}
use Rattle.refs_binding.specs.Workspaces.{IsFaultless, known_in}
use Rattle.refs_binding.proofs.Units.{package_there}
use Rattle.refactor_conflict.specs.NamesAfter.{IsFieldAfter, IsMethodAfter}
use Rattle.refactor_conflict.specs.OldPlaces.{field_at, method_at}
use Rattle.refactor_conflict.specs.MembersAfter.{IsFirst, IsFirstField}
use Rattle.refactor_conflict.specs.MembersFound.{IsRankFound}
use Rattle.refactor_conflict.proofs.FieldsAfter.{of_one, found_in}
use Rattle.refactor_members.specs.Naming.{HasField, HasMethod, IsFirstOld, IsOwnField, IsOwnMethod, IsRenamedField, IsRenamedMethod, lesser_rank}
use Rattle.refactor_members.specs.Renames.{EditedRename, KnowsRename, IsFieldOfNewName}
use Rattle.refactor_members.specs.Renames.{IsMethodNamed, IsFieldOfDefinition, IsMethodOfDefinition, IsDefinitionOf}
use Rattle.refactor_members.specs.Renames.{packages_before, rename_revision, renamed_members, workspace_before, verdicts_in}
use Rattle.refactor_members.specs.declared.member_rename.RenamedMember.{RenamedMember}
use Rattle.base_lemmas.proofs.Elements.{is_mapped}
use Rattle.base_edits.proofs.Held.{mapped_from}
use Rattle.refactor_members.proofs.FirstNamed.{first_of_two}
use Rattle.refactor_members.proofs.Counting.{as_method}

-- the rank of a member

abbrev pub rank_in : Declaration → ℕ
rank_in (Predeclared n) = n
rank_in (Declared path n) = n
rank_in (Field s) = s.rank
rank_in (Method s) = s.rank

abbrev package_in : Declaration → List ℕ
package_in (Predeclared n) = []
package_in (Declared path n) = path
package_in (Field s) = s.package
package_in (Method s) = s.package

module _ (m : EditedRename) (knows : KnowsRename m) (p : Package) (is : packages_before m.of p) where
  abbrev Known : Package → Type 0
  Known = packages_before m.of

  abbrev name : List ℕ
  name = m.of.name.now

  inside : (P : Package → Type 0) → InPackage Known p.path P → P p
  inside P h = of_one (workspace_before m.of) (verdicts_in m.of) p is p.path refl P h

  -- The type definition that the rename has is that of its member.
  field_definition : (definition rank : ℕ) → IsFieldOfDefinition p rank definition → (o : Option ℕ) →
      IsRankFound (IsDefinitionOf Known (field_at p.path rank)) o → o ≡ Some definition
  field_definition definition rank f None none = absurd (none definition (record { inside = p; is_package = is; of_path = refl; holds = f }))
  field_definition definition rank f (Some d) found =
      let x = inside (λ q. IsFieldOfDefinition q rank d) found in
      let same : x.field ≡ f.field = same_Some x.field f.field (sym x.has_rank ∙ f.has_rank) in
      ap Some (sym x.of_struct ∙ ap (λ (y : PlacedField). y.definition) same ∙ f.of_struct)

  method_definition : (definition rank : ℕ) → IsMethodOfDefinition p rank definition → (o : Option ℕ) →
      IsRankFound (IsDefinitionOf Known (method_at p.path rank)) o → o ≡ Some definition
  method_definition definition rank f None none = absurd (none definition (record { inside = p; is_package = is; of_path = refl; holds = f }))
  method_definition definition rank f (Some d) found =
      let x = inside (λ q. IsMethodOfDefinition q rank d) found in
      ap Some (one_owner p (layout_formed (workspace_before m.of) (verdicts_in m.of) p.path p is.is_checked) rank definition d
      (spelled p f.method.file f.method.function.name) (spelled p x.method.file x.method.function.name) f.method x.method
      (as_method p rank definition f.method f.has_rank f.of_type) (as_method p rank d x.method x.has_rank x.of_type))

  -- a renamed declaration, with its type definition
  member_of : (d : Declaration) → Contains (renamed_members m.of) d → (x : RenamedMember) × Contains m.of.members.now x × (x.declaration.now ≡ d)
  member_of d among = mapped_from (λ (x : RenamedMember). x.declaration.now) m.of.members.now d among

  pub renamed_field : (path : List ℕ) → p.path ≡ path → (definition rank : ℕ) → IsFieldOfDefinition p rank definition →
      Contains (renamed_members m.of) (field_at p.path rank) → IsRenamedField m.of (record { «package» = path; rank = definition }) rank
  renamed_field path of definition rank f among =
      let x = member_of (field_at p.path rank) among in
      record {
        member = x.0;
        among = x.1;
        is_own = (
          field_definition definition rank f x.0.definition
              (subst (λ d. IsRankFound (IsDefinitionOf Known d) x.0.definition) x.2 (knows.members.definition x.0 x.1)),
          x.2 ∙ ap (λ q. field_at q rank) of,
        );
      }

  pub renamed_method : (path : List ℕ) → p.path ≡ path → (definition rank : ℕ) → IsMethodOfDefinition p rank definition →
      Contains (renamed_members m.of) (method_at p.path rank) → IsRenamedMethod m.of (record { «package» = path; rank = definition }) rank
  renamed_method path of definition rank f among =
      let x = member_of (method_at p.path rank) among in
      record {
        member = x.0;
        among = x.1;
        is_own = (
          method_definition definition rank f x.0.definition
              (subst (λ d. IsRankFound (IsDefinitionOf Known d) x.0.definition) x.2 (knows.members.definition x.0 x.1)),
          x.2 ∙ ap (λ q. method_at q rank) of,
        );
      }

  -- and the renamed member is one of its members
  has_definition : (x : RenamedMember) → Contains m.of.members.now x → (definition : ℕ) → x.definition ≡ Some definition → (d : Declaration) →
      x.declaration.now ≡ d → IsDefinitionOf Known d definition
  has_definition x among definition e d same =
      subst (λ k. IsDefinitionOf Known k definition) same
      (subst (IsRankFound (IsDefinitionOf Known x.declaration.now)) e (knows.members.definition x among))

  own_among : (d : Declaration) (x : RenamedMember) → Contains m.of.members.now x → x.declaration.now ≡ d → Contains (renamed_members m.of) d
  own_among d x among same =
      subst (Contains (renamed_members m.of)) same (is_mapped (λ (y : RenamedMember). y.declaration.now) m.of.members.now x among)

  pub field_is_named : (path : List ℕ) → p.path ≡ path → (definition rank : ℕ) → IsRenamedField m.of (record { «package» = path; rank = definition }) rank →
      IsFieldOfNewName (renamed_members m.of) name p definition rank
  field_is_named path of definition rank h =
      let x = of_one (workspace_before m.of) (verdicts_in m.of) p is path of (λ q. IsFieldOfDefinition q rank definition)
      (has_definition h.member h.among definition h.is_own.0 (field_at path rank) h.is_own.1) in
      record {
        field = x.field;
        has_rank = x.has_rank;
        of_struct = x.of_struct;
        named = inl (subst (Contains (renamed_members m.of)) (h.is_own.1 ∙ ap (λ q. field_at q rank) (sym of))
            (is_mapped (λ (y : RenamedMember). y.declaration.now) m.of.members.now h.member h.among));
      }

  pub method_is_named : (path : List ℕ) → p.path ≡ path → (definition rank : ℕ) → IsRenamedMethod m.of (record { «package» = path; rank = definition }) rank →
      IsMethodNamed (renamed_members m.of) name p definition rank
  method_is_named path of definition rank h =
      let x = of_one (workspace_before m.of) (verdicts_in m.of) p is path of (λ q. IsMethodOfDefinition q rank definition)
      (has_definition h.member h.among definition h.is_own.0 (method_at path rank) h.is_own.1) in
      record {
        method = x.method;
        has_rank = x.has_rank;
        of_type = x.of_type;
        named = inl (subst (Contains (renamed_members m.of)) (h.is_own.1 ∙ ap (λ q. method_at q rank) (sym of))
            (is_mapped (λ (y : RenamedMember). y.declaration.now) m.of.members.now h.member h.among));
      }

  pub old_field_named : (definition rank : ℕ) → HasField p definition name rank → IsFieldOfNewName (renamed_members m.of) name p definition rank
  old_field_named definition rank h = record { field = h.0; has_rank = h.1.has_rank; of_struct = h.1.of_struct; named = inr h.1.named }

  pub old_method_named : (definition rank : ℕ) → HasMethod p definition name rank → IsMethodNamed (renamed_members m.of) name p definition rank
  old_method_named definition rank h = record {
    method = h.0;
    has_rank = h.1.has_rank;
    of_type = record { receiver = h.1.receiver; received = h.1.received; declaration = h.1.declaration; binds = h.1.binds; of_type = h.1.of_type };
    named = inr h.1.named;
  }

  -- a type definition has one renamed member at most

  pub one_field : (path : List ℕ) → p.path ≡ path → (definition j k : ℕ) → IsRenamedField m.of (record { «package» = path; rank = definition }) j →
      IsRenamedField m.of (record { «package» = path; rank = definition }) k → j ≡ k
  one_field path of definition j k h g =
      let own = λ (rank : ℕ) (x : IsRenamedField m.of (record { «package» = path; rank = definition }) rank). field_is_named path of definition rank x in
      knows.apart.fields p is definition j k
      (record { field = (own j h).field; has_rank = (own j h).has_rank; of_struct = (own j h).of_struct })
      (record { field = (own k g).field; has_rank = (own k g).has_rank; of_struct = (own k g).of_struct })
      (own_among (field_at p.path j) h.member h.among (h.is_own.1 ∙ ap (λ q. field_at q j) (sym of)))
      (own_among (field_at p.path k) g.member g.among (g.is_own.1 ∙ ap (λ q. field_at q k) (sym of)))

  pub one_method : (path : List ℕ) → p.path ≡ path → (definition j k : ℕ) → IsRenamedMethod m.of (record { «package» = path; rank = definition }) j →
      IsRenamedMethod m.of (record { «package» = path; rank = definition }) k → j ≡ k
  one_method path of definition j k h g =
      let own = λ (rank : ℕ) (x : IsRenamedMethod m.of (record { «package» = path; rank = definition }) rank). method_is_named path of definition rank x in
      knows.apart.methods p is definition j k
      (record { method = (own j h).method; has_rank = (own j h).has_rank; of_type = (own j h).of_type })
      (record { method = (own k g).method; has_rank = (own k g).has_rank; of_type = (own k g).of_type })
      (own_among (method_at p.path j) h.member h.among (h.is_own.1 ∙ ap (λ q. method_at q j) (sym of)))
      (own_among (method_at p.path k) g.member g.among (g.is_own.1 ∙ ap (λ q. method_at q k) (sym of)))

  -- the first one

  pub first_field : (path : List ℕ) → p.path ≡ path → (definition : ℕ) (a b : Option ℕ) → IsFirstOld (HasField p definition name) a →
      IsRankFound (IsRenamedField m.of (record { «package» = path; rank = definition })) b →
      IsRankFound (IsFirst (IsFieldAfter (rename_revision m) p definition name)) (lesser_rank a b)
  first_field path of definition a b old renamed =
      let s : Symbol = record { «package» = path; rank = definition } in
      first_of_two (IsFieldAfter (rename_revision m) p definition name) (HasField p definition name) (IsRenamedField m.of s)
      (λ k after.
      let n = (knows.renames.fields p is definition k).0 after in
      elim n.named [
        | inl same ↦ inl (renamed_field path of definition k (record { field = n.field; has_rank = n.has_rank; of_struct = n.of_struct }) same)
        | inr called ↦ inr (n.field, record { has_rank = n.has_rank; of_struct = n.of_struct; named = called })
      ])
      (λ k h. (knows.renames.fields p is definition k).1 (field_is_named path of definition k h))
      (λ k h. (knows.renames.fields p is definition k).1 (old_field_named definition k h))
      (one_field path of definition) a b old renamed

  pub first_method : (path : List ℕ) → p.path ≡ path → (definition : ℕ) (a b : Option ℕ) → IsFirstOld (HasMethod p definition name) a →
      IsRankFound (IsRenamedMethod m.of (record { «package» = path; rank = definition })) b →
      IsRankFound (IsFirst (IsMethodAfter (rename_revision m) p definition name)) (lesser_rank a b)
  first_method path of definition a b old renamed =
      let s : Symbol = record { «package» = path; rank = definition } in
      first_of_two (IsMethodAfter (rename_revision m) p definition name) (HasMethod p definition name) (IsRenamedMethod m.of s)
      (λ k after.
      let n = (knows.renames.methods p is definition k).0 after in
      elim n.named [
        | inl same ↦ inl (renamed_method path of definition k (record { method = n.method; has_rank = n.has_rank; of_type = n.of_type }) same)
        | inr called ↦ inr (
          n.method,
          record {
            has_rank = n.has_rank;
            receiver = n.of_type.receiver;
            received = n.of_type.received;
            declaration = n.of_type.declaration;
            binds = n.of_type.binds;
            of_type = n.of_type.of_type;
            named = called;
          },
        )
      ])
      (λ k h. (knows.renames.methods p is definition k).1 (method_is_named path of definition k h))
      (λ k h. (knows.renames.methods p is definition k).1 (old_method_named definition k h))
      (one_method path of definition) a b old renamed

-- The package of a path that the workspace has.
pub package_of_path : (w : Workspace) (found : Findings) → IsFaultless w found → (path : List ℕ) → Contains (package_paths w) path →
    (p : Package) × (IsCheckedPackage w (known_in found) p × (p.path ≡ path))
package_of_path w found sound path has =
    let at : slice_get (package_paths w) has.0 ≡ Some path = slice_get_read (package_paths w) (length (package_paths w)) has.0 path refl has.1 (sym has.2) in
    let there = package_there w found sound has.0 has.1 in
    (there.0, (there.1.is_package, same_Some there.0.path path (sym there.1.has_number ∙ at)))

pub if_any : {X : Type 0} (o : Option X) (C : Type 0) → C → MatchOption o (Unit {0}) (λ x. C)
if_any None C c = tt
if_any (Some x) C c = c

module _ (m : EditedRename) (sound : IsFaultless (workspace_before m.of) m.of.workspace.now.findings) (knows : KnowsRename m) (s : Symbol) where
  abbrev Has : Type 0
  Has = Contains (package_paths (workspace_before m.of)) s.package

  abbrev pub FirstField : ℕ → Type 0
  FirstField rank = InPackage (packages_before m.of) s.package (λ p. IsFirstField (rename_revision m) p s.rank m.of.name.now rank)

  abbrev pub FirstMethod : ℕ → Type 0
  FirstMethod rank = InPackage (packages_before m.of) s.package (λ p. IsFirst (IsMethodAfter (rename_revision m) p s.rank m.of.name.now) rank)

  definition_there : (d : Declaration) (x : RenamedMember) → Contains m.of.members.now x → x.declaration.now ≡ d → x.definition ≡ Some s.rank →
      IsDefinitionOf (packages_before m.of) d s.rank
  definition_there d x among same e =
      subst (λ k. IsDefinitionOf (packages_before m.of) k s.rank) same
      (subst (IsRankFound (IsDefinitionOf (packages_before m.of) x.declaration.now)) e (knows.members.definition x among))

  pub field_ranked : (a b : Option ℕ) → ((p : Package) → packages_before m.of p → p.path ≡ s.package → IsFirstOld (HasField p s.rank m.of.name.now) a) →
      MatchOption a (Unit {0}) (λ rank. Has) → IsRankFound (IsRenamedField m.of s) b → IsRankFound FirstField (lesser_rank a b)
  field_ranked None None old there renamed = λ rank k.
      first_field m knows k.inside k.is_package s.package k.of_path s.rank None None (old k.inside k.is_package k.of_path) renamed rank k.holds
  field_ranked None (Some n) old there renamed =
      let x = definition_there (field_at s.package n) renamed.member renamed.among renamed.is_own.1 renamed.is_own.0 in
      found_in (workspace_before m.of) (verdicts_in m.of) x.inside x.is_package s.package x.of_path (λ q rank. IsFirstField (rename_revision m) q s.rank
      m.of.name.now rank)
      (Some n)
      (first_field m knows x.inside x.is_package s.package x.of_path s.rank None (Some n) (old x.inside x.is_package x.of_path) renamed)
  field_ranked (Some k) b old there renamed =
      let x = package_of_path (workspace_before m.of) m.of.workspace.now.findings sound s.package there in
      found_in (workspace_before m.of) (verdicts_in m.of) x.0 x.1.0 s.package x.1.1 (λ q rank. IsFirstField (rename_revision m) q s.rank m.of.name.now rank)
      (lesser_rank (Some k) b) (first_field m knows x.0 x.1.0 s.package x.1.1 s.rank (Some k) b (old x.0 x.1.0 x.1.1) renamed)

  pub method_ranked : (a b : Option ℕ) → ((p : Package) → packages_before m.of p → p.path ≡ s.package → IsFirstOld (HasMethod p s.rank m.of.name.now) a) →
      MatchOption a (Unit {0}) (λ rank. Has) → IsRankFound (IsRenamedMethod m.of s) b → IsRankFound FirstMethod (lesser_rank a b)
  method_ranked None None old there renamed = λ rank k.
      first_method m knows k.inside k.is_package s.package k.of_path s.rank None None (old k.inside k.is_package k.of_path) renamed rank k.holds
  method_ranked None (Some n) old there renamed =
      let x = definition_there (method_at s.package n) renamed.member renamed.among renamed.is_own.1 renamed.is_own.0 in
      found_in (workspace_before m.of) (verdicts_in m.of) x.inside x.is_package s.package x.of_path (λ q rank. IsFirst (IsMethodAfter
      (rename_revision m) q s.rank m.of.name.now) rank)
      (Some n)
      (first_method m knows x.inside x.is_package s.package x.of_path s.rank None (Some n) (old x.inside x.is_package x.of_path) renamed)
  method_ranked (Some k) b old there renamed =
      let x = package_of_path (workspace_before m.of) m.of.workspace.now.findings sound s.package there in
      found_in (workspace_before m.of) (verdicts_in m.of) x.0 x.1.0 s.package x.1.1 (λ q rank. IsFirst (IsMethodAfter (rename_revision m) q s.rank
      m.of.name.now) rank)
      (lesser_rank (Some k) b) (first_method m knows x.0 x.1.0 s.package x.1.1 s.rank (Some k) b (old x.0 x.1.0 x.1.1) renamed)

-- A renamed member at a type definition, as the test decides it.
pub own_field : (m : RenamedMember) (of t : Symbol) → m.declaration.now ≡ Field t → (b : Bool) →
    IsTrue b ↔ ((m.definition ≡ Some of.rank) × (t.package ≡ of.package)) → (o : Option ℕ) → (b ≡ true → o ≡ Some t.rank) → (b ≡ false → o ≡ None) →
    IsRankFound (IsOwnField of m) o
own_field m of t is true told o some none =
    let k = told.0 refl in
    subst (IsRankFound (IsOwnField of m)) (sym (some refl)) (k.0, is ∙ ap (λ q. field_at q t.rank) k.1)
own_field m of t is false told o some none =
    subst (IsRankFound (IsOwnField of m)) (sym (none refl))
    (λ rank k. false≢true (told.1 (k.0, ap package_in (sym is ∙ k.1))))

pub own_method : (m : RenamedMember) (of t : Symbol) → m.declaration.now ≡ Method t → (b : Bool) →
    IsTrue b ↔ ((m.definition ≡ Some of.rank) × (t.package ≡ of.package)) → (o : Option ℕ) → (b ≡ true → o ≡ Some t.rank) → (b ≡ false → o ≡ None) →
    IsRankFound (IsOwnMethod of m) o
own_method m of t is true told o some none =
    let k = told.0 refl in
    subst (IsRankFound (IsOwnMethod of m)) (sym (some refl)) (k.0, is ∙ ap (λ q. method_at q t.rank) k.1)
own_method m of t is false told o some none =
    subst (IsRankFound (IsOwnMethod of m)) (sym (none refl))
    (λ rank k. false≢true (told.1 (k.0, ap package_in (sym is ∙ k.1))))
