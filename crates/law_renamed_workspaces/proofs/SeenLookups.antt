-- What a package sees of type definitions before and after a change are parts of what the whole workspace has, before and after it.
use Rattle.std.proofs.Common.{ℕ, ◌≡◌, ◌⊎◌, inl, inr, List, [], ◌∷◌, ap, sym, subst, refl, ◌∙◌}
use Rattle.std.specs.Prelude.{Option, Some, None, Contains, slice_get}
use Rattle.std.proofs.lemmas.Bool.{true≢false}
use Rattle.base_lemmas.proofs.Elements.{nothing_in, first_in, later_in, first_or_later}
use Rattle.base_edits.specs.Revisions.{Revision}
use Rattle.base_files.specs.Packages.{package_paths}
use Rattle.base_files.specs.Workspace.{Workspace}
use Rattle.types_expr.specs.declared.symbol.Symbol.{Symbol}
use Rattle.types_expr.specs.Types.{Interface}
use Rattle.types_expr.specs.World.{Definition}
use Rattle.types_expr.specs.WorldView.{no_definition}
use Rattle.types_declared.proofs.ByteKeys.{cases_bytes}
use Rattle.types_declared.specs.Package.{Package, ExportData, PlacedType, package_types, symbol_in}
use Rattle.types_declared.specs.Definitions.{IsDefinition, AreDefinitions}
use Rattle.types_info.proofs.OneWorld.{one_definition}
use Rattle.workspace_check.specs.FaultLists.{ListsFaults}
use Rattle.workspace_check.specs.Verdicts.{Verdicts, AreVerdicts, BuildsOn, IsSeenAs, seen, unseen}
use Rattle.workspace_check.proofs.Closed.{to_package}
use Rattle.workspace_check.proofs.OnePackage.{layout_formed}
use Rattle.refs_binding.specs.DeclaringPlaces.{InPackage}
use Rattle.refs_binding.specs.Uses.{IsCheckedPackage}
use Rattle.refs_binding.proofs.Units.{one_package}
use Rattle.refactor_conflict.specs.Staying.{NoneIsLost}
use Rattle.law_changed_types.proofs.Alike.{Alike}
use Rattle.law_renamed_workspaces.specs.Layouts.{IsRelaid}
use Rattle.law_renamed_workspaces.specs.MembersMoved.{IsDefinitionAfter, AreSeenAfter}
use Rattle.law_renamed_workspaces.specs.Reaching.{ReachesPath}
use Rattle.law_renamed_workspaces.proofs.DefinitionsAfter.{definition_after}
use Rattle.law_renamed_workspaces.proofs.NewMembers.{new_definition}
use Rattle.law_renamed_workspaces.proofs.NewLookups.{is_built, stays_nothing}
use Rattle.law_renamed_workspaces.proofs.SeenAfter.{see}
use Rattle.law_renamed_workspaces.proofs.SeenStructs.{IsThere, IsHomeUnder, there, sees, faultless, world_home, world_definition}

-- whether a path is one of some
pub listed_or_not : (paths : List (List ℕ)) (path : List ℕ) → Contains paths path ⊎ (Contains paths path → ⊥)
listed_or_not [] path = inr (λ h. nothing_in path h)
listed_or_not (q ∷ qs) path = elim (cases_bytes q path) [
  | inl same ↦ inl (subst (Contains (q ∷ qs)) same (first_in q qs))
  | inr apart ↦ elim (listed_or_not qs path) [
    | inl later ↦ inl (later_in q qs path later)
    | inr none ↦ inr (λ h. elim (first_or_later q qs path h) [ inl same ↦ apart same | inr later ↦ none later ])
  ]
]

-- what is not seen is not known
pub nothing_seen : (v : Workspace) (verdicts : Verdicts) (path o : List ℕ) (n : Option (List ℕ)) (i : ExportData) → IsSeenAs v verdicts path o n i →
    (BuildsOn v path o → ⊥) → (rank : ℕ) → i.definition rank ≡ no_definition (record { «package» = o; rank = rank })
nothing_seen v verdicts path o _ _ (seen on fine) away rank = absurd (away on)
nothing_seen v verdicts path o _ _ (unseen none) away rank = refl

module _ (w : Workspace) (sound : ListsFaults w []) (known : Verdicts) (right : AreVerdicts w known) where
  -- The type definitions of the workspace before the change, and as the change moves them.

  abbrev pub IsListed : Symbol → Type 0
  IsListed s = Contains (package_paths w) s.package

  abbrev pub home_there : (s : Symbol) → IsListed s → IsThere w sound known right s.package
  home_there s has = there w sound known right s.package has

  abbrev pub before_by : (s : Symbol) → IsListed s ⊎ (IsListed s → ⊥) → Definition
  before_by s (inl has) = (known s.package).export_data.definition s.rank
  before_by s (inr none) = no_definition s

  abbrev pub all_before : Symbol → Definition
  all_before s = before_by s (listed_or_not (package_paths w) s.package)

  abbrev pub built_of : Revision → (y : Package) → IsCheckedPackage w known y → (s : Symbol) → Option PlacedType → Definition
  built_of r y also s None = no_definition s
  built_of r y also s (Some d) = new_definition w known r y also ((known s.package).export_data.definition s.rank) s.rank

  abbrev pub after_by : Revision → (s : Symbol) → IsListed s ⊎ (IsListed s → ⊥) → Definition
  after_by r s (inl has) =
      built_of r (home_there s has).checked (home_there s has).is_package s (slice_get (package_types (home_there s has).checked) s.rank)
  after_by r s (inr none) = no_definition s

  abbrev pub all_after : Revision → Symbol → Definition
  all_after r s = after_by r s (listed_or_not (package_paths w) s.package)

  -- The symbol is that of a type definition of the workspace.
  abbrev pub HasTypeAt : Symbol → Type 0
  HasTypeAt s = InPackage (IsCheckedPackage w known) s.package (λ y. (d : PlacedType) × (slice_get (package_types y) s.rank ≡ Some d))

  module _ (r : Revision) (none_lost : NoneIsLost w known r) (after : Verdicts) (p q : Package) (is : IsCheckedPackage w known p)
      (also : IsCheckedPackage r.after after q) (relaid : IsRelaid r p q) (alike : Alike p q) (seen_after : AreSeenAfter (IsCheckedPackage w known) r p q)
      (builds : (o : List ℕ) → BuildsOn r.after q.path o → BuildsOn w p.path o) (old new : Symbol → Definition) (olds : AreDefinitions p old)
      (news : AreDefinitions q new) where
    abbrev pub Reached : Symbol → Type 0
    Reached s = ReachesPath w p.path s.package

    pub moved : (s : Symbol) → IsDefinitionAfter (IsCheckedPackage w known) r s.package s.rank (old s) (new s)
    moved s = definition_after w known r p q is relaid alike seen_after old new olds news s

    listed : (s : Symbol) → Reached s → IsListed s
    listed s (inl same) = subst (Contains (package_paths w)) (sym same) is.of_workspace
    listed s (inr on) = to_package w p.path s.package on.imported

    -- of a symbol that the package reaches

    module _ (s : Symbol) (reach : Reached s) (has : IsListed s) where
      abbrev y : Package
      y = (home_there s has).checked

      abbrev is_y : IsCheckedPackage w known y
      is_y = (home_there s has).is_package

      abbrev path : y.path ≡ s.package
      path = (home_there s has).of_path

      own_symbol : symbol_in y s.rank ≡ s
      own_symbol = ap (λ (o : List ℕ). record { «package» = o; rank = s.rank }) path

      unknown : no_definition (symbol_in y s.rank) ≡ no_definition s
      unknown = ap no_definition own_symbol

      old_none : slice_get (package_types y) s.rank ≡ None → old s ≡ no_definition s
      old_none none = elim (cases_bytes s.package p.path) [
        | inl own ↦
            (let one : y ≡ p = one_package w known y p is_y is (path ∙ own) in
            let at : symbol_in p s.rank ≡ s = ap (λ (o : List ℕ). record { «package» = o; rank = s.rank }) (sym own) in
            subst (λ (z : Symbol). old z ≡ no_definition z) at
            (olds.beyond s.rank (subst (λ (c : Package). slice_get (package_types c) s.rank ≡ None) one none)))
        | inr other ↦ elim reach [
          | inl same ↦ absurd (other same)
          | inr on ↦ olds.imported s.package s.rank other ∙ ap (λ (i : ExportData). i.definition s.rank) (sees w sound known right p is s.package on)
              ∙ (home_there s has).export_data.beyond s.rank none ∙ unknown
        ]
      ]

      old_some : (d : PlacedType) → slice_get (package_types y) s.rank ≡ Some d → IsDefinition y s.rank (old s)
      old_some d at =
          subst (λ (z : Symbol). IsDefinition y s.rank (old z)) own_symbol
          (world_definition w sound known right p is old olds y is_y (subst (ReachesPath w p.path) (sym path) reach) s.rank d at)

      old_agrees : (t : Option PlacedType) → slice_get (package_types y) s.rank ≡ t → old s ≡ (known s.package).export_data.definition s.rank
      old_agrees None at = old_none at ∙ sym ((home_there s has).export_data.beyond s.rank at ∙ unknown)
      old_agrees (Some d) at =
          one_definition y (layout_formed w known y.path y is_y.is_checked) s.rank (old s) ((known s.package).export_data.definition s.rank) (old_some d at)
          ((home_there s has).export_data.definitions s.rank d at)

      moved_there : IsDefinitionAfter (IsCheckedPackage w known) r y.path s.rank (old s) (new s)
      moved_there = subst (λ (o : List ℕ). IsDefinitionAfter (IsCheckedPackage w known) r o s.rank (old s) (new s)) (sym path) (moved s)

      new_none : slice_get (package_types y) s.rank ≡ None → new s ≡ no_definition s
      new_none none =
          stays_nothing w known r y is_y s path none (new s)
          (subst (λ (a : Definition). IsDefinitionAfter (IsCheckedPackage w known) r s.package s.rank a (new s)) (old_none none) (moved s))

      new_agrees : (t : Option PlacedType) → slice_get (package_types y) s.rank ≡ t → new s ≡ built_of r y is_y s t
      new_agrees None at = new_none at
      new_agrees (Some d) at =
          is_built w sound known right y is_y r none_lost s.rank (old s) (new s) (old_some d at) moved_there
          ∙ ap (λ (a : Definition). new_definition w known r y is_y a s.rank) (old_agrees (Some d) at)

    agree_old_by : (s : Symbol) → Reached s → (o : IsListed s ⊎ (IsListed s → ⊥)) → old s ≡ before_by s o
    agree_old_by s reach (inl has) = old_agrees s reach has (slice_get (package_types (home_there s has).checked) s.rank) refl
    agree_old_by s reach (inr none) = absurd (none (listed s reach))

    agree_new_by : (s : Symbol) → Reached s → (o : IsListed s ⊎ (IsListed s → ⊥)) → new s ≡ after_by r s o
    agree_new_by s reach (inl has) = new_agrees s reach has (slice_get (package_types (home_there s has).checked) s.rank) refl
    agree_new_by s reach (inr none) = absurd (none (listed s reach))

    pub agree_old : (s : Symbol) → Reached s → old s ≡ all_before s
    agree_old s reach = agree_old_by s reach (listed_or_not (package_paths w) s.package)

    pub agree_new : (s : Symbol) → Reached s → new s ≡ all_after r s
    agree_new s reach = agree_new_by s reach (listed_or_not (package_paths w) s.package)

    -- of another one nothing is seen

    unseen_old : (s : Symbol) → (Reached s → ⊥) → old s ≡ no_definition s
    unseen_old s away =
        let v = see w known p is s.package in
        olds.imported s.package s.rank (λ same. away (inl same))
        ∙ nothing_seen w known p.path s.package v.0 (p.export_data_of s.package) v.1 (λ on. away (inr on)) s.rank

    unseen_new : (s : Symbol) → (Reached s → ⊥) → new s ≡ no_definition s
    unseen_new s away =
        let v = see r.after after q also s.package in
        news.imported s.package s.rank (λ same. away (inl (same ∙ relaid.path)))
        ∙ nothing_seen r.after after q.path s.package v.0 (q.export_data_of s.package) v.1 (λ on. away (inr (builds s.package on))) s.rank

    reached_by_sight : (s : Symbol) (n : Option (List ℕ)) (i : ExportData) → IsSeenAs w known p.path s.package n i → (s.package ≡ p.path → ⊥) →
        Reached s ⊎ (Reached s → ⊥)
    reached_by_sight s _ _ (seen on fine) other = inl (inr on)
    reached_by_sight s _ _ (unseen none) other = inr (λ h. elim h [
      | inl same ↦ other same
      | inr on ↦ true≢false (sym (none on) ∙ faultless w sound known right s.package (to_package w p.path s.package on.imported))
    ])

    reached_or_not : (s : Symbol) → Reached s ⊎ (Reached s → ⊥)
    reached_or_not s = elim (cases_bytes s.package p.path) [
      | inl same ↦ inl (inl same)
      | inr other ↦ (let v = see w known p is s.package in reached_by_sight s v.0 (p.export_data_of s.package) v.1 other)
    ]

    -- the underlying types of what is reached

    pub home_old : (s i : Symbol) → Reached s → (old s).underlying ≡ Interface i → Reached i
    home_old s i reach e = subst (IsHomeUnder w p.path) e (world_home w sound known right p is old olds s reach)

    pub home_new : (s i : Symbol) → Reached s → (new s).underlying ≡ Interface i → Reached i
    home_new s i reach e = home_old s i reach (sym (moved s).underlying ∙ e)

    -- The symbol is that of a type definition that the package reaches. It stands in its package as the package sees it.
    pub record IsReachedType (s : Symbol) : Type 0 where
      pub reach : Reached s
      pub inside : Package
      pub is_inside : IsCheckedPackage w known inside
      pub of_path : inside.path ≡ s.package
      pub definition : PlacedType
      pub has_rank : slice_get (package_types inside) s.rank ≡ Some definition
      pub was : IsDefinition inside s.rank (old s)
      pub is_moved : IsDefinitionAfter (IsCheckedPackage w known) r inside.path s.rank (old s) (new s)

    -- Or nothing is seen of it, neither before nor after the change.
    pub record IsUnknown (s : Symbol) : Type 0 where
      pub before : old s ≡ no_definition s
      pub afterwards : new s ≡ no_definition s

    pub known_or_not : (s : Symbol) → IsReachedType s ⊎ IsUnknown s
    known_or_not s = elim (reached_or_not s) [
      | inr away ↦ inr (record { before = unseen_old s away; afterwards = unseen_new s away })
      | inl reach ↦ by_type reach (listed s reach) (slice_get (package_types (home_there s (listed s reach)).checked) s.rank) refl
    ]
      where
        by_type : (reach : Reached s) (has : IsListed s) (t : Option PlacedType) → slice_get (package_types (home_there s has).checked) s.rank ≡ t →
            IsReachedType s ⊎ IsUnknown s
        by_type reach has None at = inr (record { before = old_none s reach has at; afterwards = new_none s reach has at })
        by_type reach has (Some d) at = inl (record {
          reach = reach;
          inside = (home_there s has).checked;
          is_inside = (home_there s has).is_package;
          of_path = (home_there s has).of_path;
          definition = d;
          has_rank = at;
          was = old_some s reach has d at;
          is_moved = moved_there s reach has;
        })

    pub type_at : (s : Symbol) → IsReachedType s → HasTypeAt s
    type_at s h = record { inside = h.inside; is_package = h.is_inside; of_path = h.of_path; holds = (h.definition, h.has_rank) }
