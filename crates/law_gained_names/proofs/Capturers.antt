-- What captures an identifier has a place, or is predeclared. So where no conflict is told at a place the old names tell none.
use Rattle.std.proofs.Common.{ℕ, ◌<◌, inl, inr, List, length, refl, arith}
use Rattle.std.specs.Prelude.{Option, Some, None}
use Rattle.std.proofs.lemmas.Bool.{cases_lt}
use Rattle.base_files.specs.Workspace.{Workspace}
use Rattle.base_files.specs.declared.place.Place.{Place}
use Rattle.go_scope.specs.Bindings.{Counts, Names}
use Rattle.go_scope.specs.FileSites.{universe}
use Rattle.go_scope.proofs.Nests.{nests}
use Rattle.law_rename.specs.Renaming.{HasNoConflictAt, Renames, WouldCapture}
use Rattle.law_rename.proofs.AfterRename.{declared_before}
use Rattle.law_rename.proofs.Conflicts.{captures}
use Rattle.types_declared.specs.Laid.{literal_of}
use Rattle.types_declared.specs.Package.{Package}
use Rattle.workspace_check.specs.Verdicts.{Verdicts}
use Rattle.refs_binding.specs.declared.declaration.Declaration.TheVariants.{Predeclared, Declared}
use Rattle.refs_binding.specs.Identifiers.{BeginsAt}
use Rattle.refs_binding.specs.Uses.{IsCheckedPackage}
use Rattle.refactor_conflict.specs.declared.conflict.Capturer.{Capturer}
use Rattle.refactor_conflict.specs.declared.conflict.Capturer.TheVariants.{Universe, At}
use Rattle.law_renamed_workspaces.proofs.OwnNames.{counted}
use Rattle.law_renamed_workspaces.proofs.MovedTokens.{have_places}
use Rattle.law_agreement.specs.ScopeConflicts.{IsOwnConflict, NamesNumber}

module _ (w : Workspace) (known : Verdicts) (p : Package) (is : IsCheckedPackage w known p) where
  -- a declaration that counts is named as a capturer
  pub named_number : (c : ℕ) → Counts p.layout p.names c → (by : Capturer) × NamesNumber (IsCheckedPackage w known) p c by
  named_number c counts = elim (cases_lt c (length universe)) [
    | inl lt ↦ (Universe, record { declaration = Predeclared c; numbered = (refl, lt); told = λ place at. at })
    | inr ge ↦
        (let own : c < length universe → ⊥ = (λ lt. absurd (omega (arith, lt, ge))) in
        let place = have_places w known p is c counts own in (
          At place.0,
          record {
            declaration = Declared p.path c;
            numbered = (refl, refl, own);
            told = record {
              inside = p;
              is_package = is;
              of_path = refl;
              holds = record {
                at = p.layout.place (literal_of p.layout c);
                is_at = record { own = own; counts = counts; stands = refl };
                begins = place.1;
              };
            };
          },
        ))
  ]

  module _ (n : ℕ) (name : List ℕ) (after : Names) (renames : Renames p.layout p.names n name after) where
    captor_counts : (u c : ℕ) → WouldCapture p.layout p.names n name u c → Counts p.layout p.names c
    captor_counts u c k =
        let nested = nests p.layout renames.well_formed in
        let x = captures p.layout nested p.names after n name renames.all_count renames.declared renames.other_name renames.renaming u c k in
        renames.all_count c
        (declared_before p.layout nested p.names after n name renames.all_count renames.declared renames.renaming c
        (counted p.layout after u c x.now_bound).declares)

    pub no_conflict_at : (u : ℕ) (place : Place) → BeginsAt p place.path place.offset u →
        ((by : Option Capturer) → IsOwnConflict (IsCheckedPackage w known) p n name (record { used = place; by = by }) → ⊥) →
        HasNoConflictAt p.layout p.names n name u
    no_conflict_at u place begins none = record {
      not_captured = λ c k.
          let by = named_number c (captor_counts u c k) in
          none (Some by.0) (record { user = u; begins = begins; has = (c, (k, by.1)) });
      not_lost = λ k. none None (record { user = u; begins = begins; has = k });
    }
