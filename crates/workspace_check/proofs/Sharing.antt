-- The export data that a package sees of others, shared from a table of all, with one package more.
use Rattle.std.proofs.Common.{ℕ, ◌≡◌, ◌⊎◌, inl, inr, List, [], refl, sym, ap, subst, ◌∙◌}
use Rattle.std.specs.Prelude.{Contains, Option, Some, None, slice_get}
use Rattle.std.proofs.lemmas.Option.{same_Some}
use Rattle.base_lemmas.proofs.Elements.{nothing_in}
use Rattle.base_files.specs.Workspace.{Workspace}
use Rattle.base_files.specs.Packages.{package_paths}
use Rattle.workspace_graph.specs.Graphs.{ListsPackages}
use Rattle.workspace_graph.proofs.ByPath.{number}
use Rattle.types_declared.specs.States.{state_in}
use Rattle.types_declared.specs.declared.states.ImportState.TheVariants.{Missing}
use Rattle.types_declared.specs.ExportTablesView.{name_in, export_data_in, name_or_none, no_export_data, HasSameEntry, CopiesEntry}
use Rattle.types_declared.specs.declared.export_tables.ExportTable.{ExportTable}
use Rattle.types_declared.proofs.ByteKeys.{cases_bytes}
use Rattle.workspace_check.specs.Verdicts.{BuildsOn, IsSeenAs, seen, unseen, AreSeen}
use Rattle.workspace_check.specs.KnownFindings.{is_unknown, verdicts_by, AreNamedEntries}
use Rattle.workspace_check.proofs.Closed.{to_package}

-- one of some packages, by their numbers, on which p builds
pub record IsSharedOf (w : Workspace) (p : List ℕ) (numbers : List ℕ) (q : List ℕ) : Type 0 where
  pub number : ℕ
  pub among : Contains numbers number
  pub has_path : slice_get (package_paths w) number ≡ Some q
  pub builds_on : BuildsOn w p q

-- of a path what all know, or nothing
pub record IsKnownAs (all i : ExportTable) (r : List ℕ) : Type 0 where
  pub name : name_in i r ≡ name_in all r
  pub export_data : export_data_in i r ≡ export_data_in all r

pub record IsNothing (i : ExportTable) (r : List ℕ) : Type 0 where
  pub name : name_in i r ≡ None
  pub export_data : export_data_in i r ≡ no_export_data r

-- by the packages of some numbers
abbrev pub SharesOf : Workspace → List ℕ → List ℕ → (all i : ExportTable) → List ℕ → Type 0
SharesOf w p numbers all i r = (IsSharedOf w p numbers r × IsKnownAs all i r) ⊎ ((IsSharedOf w p numbers r → ⊥) × IsNothing i r)

pub record AreShared (w : Workspace) (p : List ℕ) (numbers : List ℕ) (all i : ExportTable) : Type 0 where
  pub each : (r : List ℕ) → SharesOf w p numbers all i r
  pub states : (r : List ℕ) → state_in i.states r ≡ Missing

pub none_shared : (w : Workspace) (p : List ℕ) (numbers : List ℕ) (all i : ExportTable) → numbers ≡ [] → ((r : List ℕ) → name_in i r ≡ None) →
    ((r : List ℕ) → export_data_in i r ≡ no_export_data r) → ((r : List ℕ) → state_in i.states r ≡ Missing) →
    AreShared w p numbers all i
none_shared w p numbers all i e names export_table states = record {
  each = λ r. inr (λ s. nothing_in s.number (subst (λ l. Contains l s.number) e s.among), record { name = names r; export_data = export_table r });
  states = states;
}

-- one package further

module _ (w : Workspace) (p : List ℕ) (xs ys : List ℕ) (n : ℕ) (q : List ℕ) (at : slice_get (package_paths w) n ≡ Some q)
    (more : (m : ℕ) → Contains ys m → Contains xs m ⊎ (n ≡ m)) (keeps : (m : ℕ) → Contains xs m → Contains ys m)
    (here : Contains ys n) (all old new : ExportTable) where
  still : (r : List ℕ) → IsSharedOf w p xs r → IsSharedOf w p ys r
  still r s = record { number = s.number; among = keeps s.number s.among; has_path = s.has_path; builds_on = s.builds_on }

  -- it was among the earlier ones, or it is the one here
  earlier : (r : List ℕ) → IsSharedOf w p ys r → IsSharedOf w p xs r ⊎ (r ≡ q)
  earlier r s = elim (more s.number s.among) [
    | inl c ↦ inl (record { number = s.number; among = c; has_path = s.has_path; builds_on = s.builds_on })
    | inr e ↦ inr (same_Some r q (sym s.has_path ∙ subst (λ m. slice_get (package_paths w) m ≡ Some q) e at))
  ]

  known_still : (r : List ℕ) → HasSameEntry old new r → IsKnownAs all old r → IsKnownAs all new r
  known_still r k h = record { name = k.name ∙ h.name; export_data = k.export_data ∙ h.export_data }

  nothing_still : (r : List ℕ) → HasSameEntry old new r → IsNothing old r → IsNothing new r
  nothing_still r k h = record { name = k.name ∙ h.name; export_data = k.export_data ∙ h.export_data }

  other_path : (r : List ℕ) → HasSameEntry old new r → (IsSharedOf w p ys r → r ≡ q → ⊥) → SharesOf w p xs all old r → SharesOf w p ys all new r
  other_path r k other h = elim h [
    | inl s ↦ inl (still r s.0, known_still r k s.1)
    | inr s ↦ inr (λ t. elim (earlier r t) [ inl x ↦ s.0 x | inr e ↦ other t e ], nothing_still r k s.1)
  ]

  pub shared_next : BuildsOn w p q → CopiesEntry all old new q → AreShared w p xs all old → AreShared w p ys all new
  shared_next on set h = record {
    each = λ r. elim (cases_bytes r q) [
      | inl e ↦ inl (
        record { number = n; among = here; has_path = at ∙ ap Some (sym e); builds_on = subst (BuildsOn w p) (sym e) on },
        subst (IsKnownAs all new) (sym e) (record { name = set.has_name; export_data = set.has_export_data }),
      )
      | inr ne ↦ other_path r (set.elsewhere r ne) (λ t e. ne e) (h.each r)
    ];
    states = λ r. set.states r ∙ h.states r;
  }

-- all packages that p builds on

pub seen_by : (w : Workspace) (p : List ℕ) (all i : ExportTable) (r : List ℕ) → AreNamedEntries all → BuildsOn w p r → IsKnownAs all i r →
    (o : Option (List ℕ)) →
    name_in all r ≡ o → IsSeenAs w (verdicts_by all) p r (name_in i r) (export_data_in i r)
seen_by w p all i r whole on h (Some n) e =
    let is : Some (export_data_in all r).name ≡ name_in i r = ap (λ o. Some (name_or_none o)) e ∙ sym (h.name ∙ e) in
    subst (λ x. IsSeenAs w (verdicts_by all) p r (name_in i r) x) (sym h.export_data)
    (subst (λ m. IsSeenAs w (verdicts_by all) p r m (export_data_in all r)) is (seen on (ap is_unknown e)))
seen_by w p all i r whole on h None e =
    subst (λ x. IsSeenAs w (verdicts_by all) p r (name_in i r) x) (sym (h.export_data ∙ whole r e))
    (subst (λ m. IsSeenAs w (verdicts_by all) p r m (no_export_data r)) (sym (h.name ∙ e)) (unseen (λ also. ap is_unknown e)))

unseen_by : (w : Workspace) (p : List ℕ) (all i : ExportTable) (r : List ℕ) → (BuildsOn w p r → ⊥) → IsNothing i r →
    IsSeenAs w (verdicts_by all) p r (name_in i r) (export_data_in i r)
unseen_by w p all i r not h =
    subst (λ x. IsSeenAs w (verdicts_by all) p r (name_in i r) x) (sym h.export_data)
    (subst (λ m. IsSeenAs w (verdicts_by all) p r m (no_export_data r)) (sym h.name) (unseen (λ on. absurd (not on))))

pub all_seen : (w : Workspace) (p : List ℕ) (numbers : List ℕ) (all i : ExportTable) → ListsPackages w (BuildsOn w p) numbers → AreNamedEntries all →
    AreShared w p numbers all i → AreSeen w (verdicts_by all) p (name_in i) (export_data_in i)
all_seen w p numbers all i holds whole h r = elim (h.each r) [
  | inl s ↦ seen_by w p all i r whole s.0.builds_on s.1 (name_in all r) refl
  | inr s ↦ unseen_by w p all i r (λ on.
      let n = number w r (to_package w p r on.imported) in
      s.0 (record { number = n.0; among = (holds n.0).1 (r, n.1, on); has_path = n.1; builds_on = on })) s.1
]
