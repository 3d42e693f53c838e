-- Packages that are not marked are out of the rename's reach, and members stay there.
use Rattle.std.proofs.Common.{ℕ, ◌≡◌, inl, inr, false, Bool, List, ap, sym, subst, ◌∙◌}
use Rattle.std.specs.Prelude.{Option, Some, option_map, slice_get, Contains}
use Rattle.std.proofs.lemmas.Bool.{true≢false}
use Rattle.std.proofs.lemmas.Option.{none-some, same_Some}
use Rattle.base_files.specs.Packages.{package_paths}
use Rattle.base_files.specs.Workspace.{Workspace}
use Rattle.base_files.specs.declared.place.Place.{Place}
use Rattle.base_edits.specs.EditSet.{FileChanges}
use Rattle.base_edits.specs.RevisionsOfEdits.{revision_of}
use Rattle.go_ast.specs.SourceFile.{SourceFile}
use Rattle.workspace_graph.specs.Packages.{IsInClosure, itself}
use Rattle.workspace_graph.specs.Reaching.{ReachingMarks}
use Rattle.workspace_graph.specs.Search.{IsMarked}
use Rattle.workspace_graph.proofs.ByPath.{at_contains, number as number_of_path}
use Rattle.types_expr.specs.World.{member_by}
use Rattle.types_declared.specs.Laid.{is_exported}
use Rattle.types_declared.specs.Package.{Package, spelled, spelled_at}
use Rattle.workspace_check.specs.Verdicts.{Verdicts}
use Rattle.workspace_check.proofs.Closed.{to_package}
use Rattle.refs_binding.specs.declared.declaration.Declaration.{Declaration}
use Rattle.refs_binding.specs.declared.declaration.Declaration.TheVariants.{Predeclared, Declared, Field, Method}
use Rattle.refs_binding.specs.Binding.{BindsByMember, declaration_of}
use Rattle.refs_binding.specs.Uses.{IsCheckedPackage}
use Rattle.refs_binding.specs.Workspaces.{home_path}
use Rattle.refs_uses.specs.MemberNames.{IsOnlyName, IsNameFound}
use Rattle.refactor_conflict.specs.Staying.{MembersStayIn, DeclaringNamesStayIn}
use Rattle.law_renamed_workspaces.specs.Reaching.{ReachesPath, home_of}
use Rattle.law_renamed_workspaces.specs.MemberRenames.{IsMemberRename}
use Rattle.law_renamed_workspaces.specs.OutsidePackages.{OtherPackagesKeepMembers, UnexportedNamesStayAtHome}
use Rattle.refactor_members.specs.Reaching.{AreUnexportedNames, IsOutOfReach, LeavesOutOfReach}
use Rattle.refs_places.specs.Homes.{IsHomeOfSome, MarksHomes}
use Rattle.law_renamed_workspaces.specs.Renames.{IsMember}
use Rattle.law_renamed_workspaces.proofs.RenamedSets.{home_among}

-- the path of the package of a declaration

home_there : (d : Declaration) (path : List ℕ) → home_path d ≡ Some path → home_of d ≡ path
home_there (Predeclared n) path e = absurd (none-some path e)
home_there (Declared other n) path e = same_Some other path e
home_there (Field s) path e = same_Some s.package path e
home_there (Method s) path e = same_Some s.package path e

-- what a package reaches is one of the workspace
pub reached_there : (w : Workspace) (path : List ℕ) → Contains (package_paths w) path → (home : List ℕ) → ReachesPath w path home →
    Contains (package_paths w) home
reached_there w path there home (inl same) = subst (Contains (package_paths w)) (sym same) there
reached_there w path there home (inr builds) = to_package w path home builds.imported

-- what is not marked is out of reach

module _ (w : Workspace) (called : Option (List ℕ)) (name : List ℕ) (starts marks : List Bool) where
  -- where all that reach a start are marked
  pub out_by_closures : ReachingMarks w starts marks → LeavesOutOfReach w called name starts marks
  out_by_closures are number path at unmarked = inl (λ start home there is_start reaches.
      let closed : IsInClosure w path home = elim reaches [
        | inl same ↦ subst (IsInClosure w path) (sym same) (itself (at_contains w number path at))
        | inr builds ↦ builds.imported
      ] in
      unmarked ((are.each number path at).1 (record { number = start; path = home; has_path = there; marked = is_start; in_closure = closed })))

  -- where the starts alone are
  pub out_alone : AreUnexportedNames called name → ((number : ℕ) → IsMarked starts number → IsMarked marks number) → LeavesOutOfReach w called name starts marks
  out_alone names same number path at unmarked = inr (names, λ is_start. unmarked (same number is_start))

  -- so it is by the homes of a set
  pub out_of_homes : (set : List Declaration) → MarksHomes w set starts → LeavesOutOfReach w called name starts marks → (number : ℕ) (path : List ℕ) →
      slice_get (package_paths w) number ≡ Some path → (IsMarked marks number → ⊥) → ((home : List ℕ) → ReachesPath w path home →
      Contains (package_paths w) home) →
      IsOutOfReach w called name set path
  out_of_homes set homes leaves number path at unmarked known_home = elim (leaves number path at unmarked) [
    | inl far ↦ inl (λ home is_home reaches.
        let there = number_of_path w home (known_home home reaches) in
        far there.0 home there.1 ((homes.each there.0 home there.1).1 is_home) reaches)
    | inr near ↦ inr (near.0, λ is_home. near.1 ((homes.each number path at).1 is_home))
  ]

-- a member of another package is used under an exported name alone

unused : (p : Package) (d : Declaration) (old : List ℕ) → IsOnlyName p d old → is_exported old ≡ false → (home_of d ≡ p.path → ⊥) → (u : ℕ) →
    BindsByMember p u d → ⊥
unused p d old only unexported away u was =
    let file = (p.layout.place u).file in
    let t = (p.layout.place u).index in
    let world = was.judged.judged_by in
    let denotes : option_map declaration_of (member_by world.definitions p.path (spelled p file t) was.found.before) ≡ Some d =
    ap (λ (o : Option SourceFile). option_map declaration_of (member_by world.definitions p.path (spelled_at o t) was.found.before)) was.judged.in_file ∙
    ap (option_map declaration_of) (sym (world.member t was.found.before) ∙ was.is_member) ∙ ap Some was.declares in
    true≢false (sym (only.shown world.definitions world.are_definitions (spelled p file t) was.found.before denotes (λ e. away (home_there d p.path e)))
    ∙ unexported)

-- so members stay in a package that is out of reach

module _ (w : Workspace) (known : Verdicts) (d : Declaration) (set : List Declaration) (name : List ℕ) (s : FileChanges)
    (rename : IsMemberRename w known d set name s) (far : OtherPackagesKeepMembers) (hidden : UnexportedNamesStayAtHome) (called : Option (List ℕ))
    (found : (e : Declaration) → Contains set e → IsNameFound w known e called) where
  pub stay_out_of_reach : (p : Package) → IsCheckedPackage w known p → IsOutOfReach w called name set p.path → (place : Place) →
      MembersStayIn w known (revision_of w s) p place × DeclaringNamesStayIn w known (revision_of w s) p place
  stay_out_of_reach p is (inl outside) place = (
    (λ u begins. (far w known d set name s rename p is outside u place begins).0),
    (λ u begins. (far w known d set name s rename p is outside u place begins).1),
  )
  stay_out_of_reach p is (inr k) place =
      let never : (e : Declaration) → Contains set e → (u : ℕ) → BindsByMember p u e → ⊥ =
      λ e among. unused p e k.0.old (found e among k.0.old k.0.has_old p is) k.0.not_old (λ same. k.1 (home_here e among same)) in (
        (λ u begins. (hidden w known d set name s rename k.0.not_new p is k.1 never u place begins).0),
        (λ u begins. (hidden w known d set name s rename k.0.not_new p is k.1 never u place begins).1),
      )
    where
      member_of : (e : Declaration) → Contains set e → IsMember e
      member_of e among = elim (rename.rename.rename.is_set.others e (subst (λ k. Contains k e) (sym rename.of_set) among)) [
        | inl same ↦ subst IsMember (sym same) rename.member
        | inr alike ↦ alike.second
      ]

      home_here : (e : Declaration) → Contains set e → home_of e ≡ p.path → IsHomeOfSome set p.path
      home_here e among same = subst (IsHomeOfSome set) same (home_among set e (member_of e among) among)
