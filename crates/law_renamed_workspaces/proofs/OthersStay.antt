-- Uses and declaring identifiers of members stay bound under the rename of a field or method, unless they are at stake.
use Rattle.std.proofs.Common.{ℕ, ◌≡◌, ◌⊎◌, inl, inr, ◌||◌, Bool, true, false, List, [], ap, sym, subst, refl, ◌∙◌}
use Rattle.std.specs.Prelude.{◌↔◌, Contains}
use Rattle.std.specs.Cmp.Lexicographic.{bytes_decides}
use Rattle.std.proofs.lemmas.Bool.{true≢false}
use Rattle.base_files.specs.Workspace.{Workspace}
use Rattle.base_files.specs.declared.place.Place.{Place}
use Rattle.base_edits.specs.EditSet.{FileChanges}
use Rattle.base_edits.specs.Revisions.{Revision}
use Rattle.base_edits.specs.RevisionsOfEdits.{revision_of}
use Rattle.types_expr.specs.Types.{same_path}
use Rattle.types_declared.proofs.ByteKeys.{cases_bytes}
use Rattle.types_declared.specs.Laid.{is_exported}
use Rattle.types_declared.specs.Package.{Package}
use Rattle.workspace_check.specs.FaultLists.{ListsFaults}
use Rattle.workspace_check.specs.Verdicts.{Verdicts, AreVerdicts}
use Rattle.refs_binding.specs.declared.declaration.Declaration.{Declaration}
use Rattle.refs_binding.specs.declared.declaration.Declaration.TheVariants.{Predeclared, Declared, Field, Method}
use Rattle.refs_binding.specs.Binding.{BindsByMember, DeclaresMember}
use Rattle.refs_binding.specs.Identifiers.{BeginsAt}
use Rattle.refs_binding.specs.Uses.{IsCheckedPackage}
use Rattle.refactor_conflict.specs.Staying.{StaysAt, StaysByMember, StaysByName}
use Rattle.law_renamed_workspaces.specs.NamesAfterwards.{IsMember, spelled_there}
use Rattle.law_renamed_workspaces.specs.Reaching.{ReachesPath, home_of}
use Rattle.law_renamed_workspaces.proofs.Called.{used_is_member, declared_is_member}
use Rattle.law_renamed_workspaces.proofs.KeptMembers.{ShowsName}
use Rattle.law_renamed_workspaces.proofs.OtherMembers.{use_kept, name_kept, use_kept_everywhere, name_kept_everywhere}
use Rattle.law_renamed_workspaces.proofs.SeenStructs.{reached_then}
use Rattle.law_renamed_workspaces.proofs.UsersReach.{reached}
use Rattle.law_renamed_workspaces.specs.AtStake.{IsAtStake, StakeStays, StakesStayAt, OthersStay, OtherMembersStay, StakesDecide, FirstMemberConflict}
use Rattle.law_renamed_workspaces.specs.MemberRenames.{IsMemberRename}
use Rattle.law_renamed_workspaces.specs.OutsidePackages.{OtherPackagesKeepMembers, UnexportedNamesStayAtHome}
use Rattle.law_renamed_workspaces.proofs.ScopesKept.{members_decide}
use Rattle.refs_places.specs.Homes.{IsHomeOfSome}
use Rattle.law_renamed_workspaces.proofs.RenamedSets.{among_or_not, home_among}

seen_alone : (b c : Bool) → b ≡ false → (b || c) ≡ true → c ≡ true
seen_alone true c e f = absurd (true≢false e)
seen_alone false c e f = f

home_declares : (x : Package) (u : ℕ) (e : Declaration) → DeclaresMember x u e → home_of e ≡ x.path
home_declares x u (Predeclared n) b = absurd b
home_declares x u (Declared path n) b = absurd b
home_declares x u (Field f) b = b.0
home_declares x u (Method f) b = b.0

module _ (w : Workspace) (known : Verdicts) (d : Declaration) (asked : List Declaration) (name : List ℕ) (s : FileChanges)
    (h : IsMemberRename w known d asked name s) where
  abbrev set : List Declaration
  set = h.rename.rename.set

  abbrev r : Revision
  r = revision_of w s

  abbrev sound : ListsFaults w []
  sound = h.rename.rename.sound

  abbrev right : AreVerdicts w known
  right = h.rename.rename.right

  -- identifiers that are not at stake

  module _ (x : Package) (is : IsCheckedPackage w known x) (u : ℕ) (place : Place) (begins : BeginsAt x place.path place.offset u) where
    abbrev m : List ℕ
    m = spelled_there x u

    others : OthersStay w known r set name x u place
    others = record {
      used = λ old was free.
          use_kept_everywhere w known d name s h.rename x is u place begins (λ e member same new. free (inr new)) old (λ e. free (inl e)) was;
      declared = λ old declares free.
          name_kept_everywhere w known d name s h.rename x is u place begins (λ e member same new. free (inr new)) old (λ e. free (inl e)) declares;
    }

    -- whether an identifier is at stake
    at_stake_or_not : (e : Declaration) → IsMember e → IsAtStake set name x u e ⊎ (IsAtStake set name x u e → ⊥)
    at_stake_or_not e member = elim (among_or_not set e member) [
      | inl in_set ↦ inl (inl in_set)
      | inr apart ↦ elim (cases_bytes m name) [
        | inl new ↦ inl (inr new)
        | inr other ↦ inr (λ k. elim k [ inl same ↦ apart same | inr new ↦ other new ])
      ]
    ]

    -- in a package that reaches no package of a renamed member
    module _ (outside : (home : List ℕ) → IsHomeOfSome set home → ReachesPath w x.path home → ⊥) where
      abbrev Reached : List ℕ → Type 0
      Reached q = ReachesPath w x.path q

      reached_on : (p q : List ℕ) → Reached p → ReachesPath w p q → Reached q
      reached_on p q (inl same) k = subst (λ o. ReachesPath w o q) same k
      reached_on p q (inr on) k = reached_then w x.path p on q k

      away : (e : Declaration) → IsMember e → Contains set e → Reached (home_of e) → ⊥
      away e member in_set a = outside (home_of e) (home_among set e member in_set) a

      never : (e : Declaration) → IsMember e → Contains set e → Reached (home_of e) → m ≡ name → ⊥
      never e member in_set a new = away e member in_set a

      used_outside : StaysByMember w known r x u place
      used_outside old was =
          use_kept w known d name s h.rename x is u place begins Reached (λ p q a k. reached_on p q a k.0) (inl refl) never old
          (λ in_set. away old (used_is_member x u old was) in_set (reached w sound known right x is u old was)) was

      declared_outside : StaysByName w known r x u place
      declared_outside old declares =
          name_kept w known d name s h.rename x is u place begins Reached (λ p q a k. reached_on p q a k.0) (inl refl) never old
          (λ in_set. away old (declared_is_member x u old declares) in_set (inl (home_declares x u old declares))) declares

    -- in a package that has no renamed member and uses none, with a new name that is not exported
    module _ (unexported : is_exported name ≡ false) (away : IsHomeOfSome set x.path → ⊥)
        (unused : (e : Declaration) → Contains set e → (v : ℕ) → BindsByMember x v e → ⊥) where
      -- a name that is not exported is seen in one package alone
      abbrev Own : List ℕ → Type 0
      Own q = q ≡ x.path

      own_alone : m ≡ name → (p q : List ℕ) → Own p → ShowsName w m p q → Own q
      own_alone new p q own shown =
          let only : same_path p q ≡ true = seen_alone (is_exported m) (same_path p q) (ap is_exported new ∙ unexported) shown.1 in
          sym ((bytes_decides p q).0 only) ∙ own

      not_own : (e : Declaration) → IsMember e → Contains set e → Own (home_of e) → ⊥
      not_own e member in_set own = away (subst (IsHomeOfSome set) own (home_among set e member in_set))

      nowhere : (e : Declaration) → IsMember e → Contains set e → Own (home_of e) → m ≡ name → ⊥
      nowhere e member in_set own new = not_own e member in_set own

      used_hidden : StaysByMember w known r x u place
      used_hidden old was = elim (at_stake_or_not old (used_is_member x u old was)) [
        | inr free ↦ others.used old was free
        | inl stake ↦ elim stake [
          | inl in_set ↦ absurd (unused old in_set u was)
          | inr new ↦ use_kept w known d name s h.rename x is u place begins Own (own_alone new) refl nowhere old
              (λ in_set. unused old in_set u was) was
        ]
      ]

      declared_hidden : StaysByName w known r x u place
      declared_hidden old declares = elim (at_stake_or_not old (declared_is_member x u old declares)) [
        | inr free ↦ others.declared old declares free
        | inl stake ↦ elim stake [
          | inl in_set ↦ absurd (not_own old (declared_is_member x u old declares) in_set (home_declares x u old declares))
          | inr new ↦ name_kept w known d name s h.rename x is u place begins Own (own_alone new) refl nowhere old
              (λ in_set. not_own old (declared_is_member x u old declares) in_set (home_declares x u old declares)) declares
        ]
      ]

    -- so those at stake decide

    used_all : StakeStays w known r set name x u place → StaysByMember w known r x u place
    used_all k old was = elim (at_stake_or_not old (used_is_member x u old was)) [ inl stake ↦ k.used old was stake | inr free ↦ others.used old was free ]

    declared_all : StakeStays w known r set name x u place → StaysByName w known r x u place
    declared_all k old declares = elim (at_stake_or_not old (declared_is_member x u old declares)) [
      | inl stake ↦ k.declared old declares stake
      | inr free ↦ others.declared old declares free
    ]

  decide : (place : Place) → StaysAt w known r place ↔ StakesStayAt w known r set name place
  decide place =
      let members = members_decide w known d asked name s h place in (
        (λ k x is u begins.
            let n = members.0 k x is in
            record { used = λ old was stake. n.0 u begins old was; declared = λ old declares stake. n.1 u begins old declares }),
        (λ k. members.1 (λ x is. (
          (λ u begins. used_all x is u place begins (k x is u begins)),
          (λ u begins. declared_all x is u place begins (k x is u begins)),
        ))),
      )

pub others_stay : OtherMembersStay
others_stay w known d set name s h x is u place begins =
    subst (λ k. OthersStay w known (revision_of w s) k name x u place) h.of_set (others w known d set name s h x is u place begins)

pub outside : OtherPackagesKeepMembers
outside w known d set name s h x is away u place begins =
    let own : (home : List ℕ) → IsHomeOfSome h.rename.rename.set home → ReachesPath w x.path home → ⊥ =
    λ home k. away home (subst (λ l. IsHomeOfSome l home) h.of_set k) in
    (used_outside w known d set name s h x is u place begins own, declared_outside w known d set name s h x is u place begins own)

pub hidden : UnexportedNamesStayAtHome
hidden w known d set name s h unexported x is away unused u place begins =
    let own : IsHomeOfSome h.rename.rename.set x.path → ⊥ = λ k. away (subst (λ l. IsHomeOfSome l x.path) h.of_set k) in
    let none : (e : Declaration) → Contains h.rename.rename.set e → (v : ℕ) → BindsByMember x v e → ⊥ =
    λ e k. unused e (subst (λ l. Contains l e) h.of_set k) in
    (used_hidden w known d set name s h x is u place begins unexported own none, declared_hidden w known d set name s h x is u place begins unexported own none)

pub stakes_decide : StakesDecide
stakes_decide w known d set name s h place =
    subst (λ k. StaysAt w known (revision_of w s) place ↔ StakesStayAt w known (revision_of w s) k name place) h.of_set (decide w known d set name s h place)

pub first_conflict : FirstMemberConflict
first_conflict w known d set name s h =
    let at = stakes_decide w known d set name s h in (
      (λ end. ((λ k place lt. (at place).0 (k place lt)), (λ k place lt. (at place).1 (k place lt)))),
      ((λ k place. (at place).0 (k place)), (λ k place. (at place).1 (k place))),
    )
