-- Refusals for one of three reasons.
use Rattle.std.proofs.Common.{ℕ, ◌≡◌, inl, inr, List, ap, sym, subst, ◌∙◌}
use Rattle.std.proofs.lemmas.Option.{none-some, same_Some}
use Rattle.std.specs.Prelude.{Option, Some, None, MatchOption, Result, Ok, Err}
use Rattle.base_files.specs.Workspace.{Workspace}
use Rattle.base_files.specs.declared.refusal.Refusal.{Refusal}
use Rattle.base_files.specs.declared.refusal.Refusal.TheVariants as refusal
use Rattle.go_scope.specs.declared.model.Position.{Position}
use Rattle.types_declared.specs.Package.{Package, spelled}
use Rattle.workspace_check.specs.Verdicts.{Verdicts}
use Rattle.refs_binding.specs.declared.declaration.Declaration.{Declaration}
use Rattle.refs_binding.specs.declared.declaration.Declaration.TheVariants.{Predeclared, Declared, Field, Method}
use Rattle.refs_binding.specs.DeclaredNames.{HasDeclaredName, HasDeclaredNameIn, HasMemberName}
use Rattle.refs_binding.specs.DeclaringPlaces.{InPackage, InHomePackage}
use Rattle.refs_binding.specs.Uses.{IsCheckedPackage}
use Rattle.refs_binding.specs.Workspaces.{IsPackageAt, home_path}
use Rattle.refs_binding.proofs.PackageNumbers.{in_package, of_package}
use Rattle.refactor_rename.specs.NewName.{IsReserved}
use Rattle.refactor_rename.specs.Naming.{IsFixed, IsMainIn, IsPredeclaredName, IsReservedFor, IsTopLevelIn, RefusesFor}
use Rattle.refactor_rename.specs.Naming.{RefusesName, RefusesNameIn, RefusesOrLacks}

-- two reasons that are one
pub record Agree (one other : Type 0) : Type 0 where
  pub there : one → other
  pub back : other → one

pub agree_same : (one : Type 0) → Agree one one
agree_same one = record { there = λ h. h; back = λ h. h }

module _ (F G B C D E : Type 0) (fixed : Agree F G) (reserved : Agree B C) (called : Agree D E) where
  refused_as : (r : Refusal) → RefusesFor F B D (Err r) → RefusesFor G C E (Err r)
  refused_as refusal.Memory h = absurd h
  refused_as refusal.BadCommand h = absurd h
  refused_as refusal.BadPath h = absurd h
  refused_as refusal.NoFile h = absurd h
  refused_as refusal.TooLarge h = absurd h
  refused_as (refusal.Moved a) h = absurd h
  refused_as refusal.NothingToUndo h = absurd h
  refused_as refusal.NothingToRedo h = absurd h
  refused_as (refusal.Faulty a b) h = absurd h
  refused_as refusal.NoIdentifier h = absurd h
  refused_as refusal.NotRenamable h = fixed.there h
  refused_as refusal.BadName h = ((λ g. h.0 (fixed.back g)), reserved.there h.1)
  refused_as refusal.Same h = ((λ g. h.0 (fixed.back g)), (λ c. h.1 (reserved.back c)), called.there h.2)
  refused_as (refusal.Captured a b) h = absurd h
  refused_as (refusal.Lost a) h = absurd h
  refused_as refusal.NoPackage h = absurd h
  refused_as refusal.TargetTaken h = absurd h
  refused_as refusal.InsideItself h = absurd h
  refused_as refusal.JournalFull h = absurd h
  refused_as (refusal.Pending a) h = absurd h
  refused_as (refusal.Stale a) h = absurd h
  refused_as refusal.Already h = absurd h
  refused_as refusal.NoJob h = absurd h
  refused_as refusal.BodyShort h = absurd h
  refused_as (refusal.Coupled place) h = absurd h
  refused_as refusal.Disk h = absurd h

  pub refuses_as : (r : Result (Unit {0}) Refusal) → RefusesFor F B D r → RefusesFor G C E r
  refuses_as (Ok done) h = ((λ g. h.0 (fixed.back g)), (λ c. h.1 (reserved.back c)), (λ e. h.2 (called.back e)))
  refuses_as (Err r) h = refused_as r h

  pub refuses_or_lacks : (r : Result (Unit {0}) Refusal) → RefusesOrLacks F B D r → RefusesOrLacks G C E r
  refuses_or_lacks (Ok done) h = refuses_as (Ok done) h
  refuses_or_lacks (Err refusal.Memory) h = h
  refuses_or_lacks (Err r) h = refused_as r h

pub or_lacks : (F B D : Type 0) (r : Result (Unit {0}) Refusal) → RefusesFor F B D r → RefusesOrLacks F B D r
or_lacks F B D (Ok done) h = h
or_lacks F B D (Err refusal.Memory) h = tt
or_lacks F B D (Err r) h = h

no_member : (name : List ℕ) → Agree ⊥ (⊥ × IsReserved name)
no_member name = record { there = λ h. absurd h; back = λ h. h.0 }

-- The name of a member is the spelling of its declaring identifier.
pub member_refused : (IsAt : (rank : ℕ) → Position → Type 0) (p : Package) (rank : ℕ) (name : List ℕ) →
    ((a b : Position) → IsAt rank a → IsAt rank b → a ≡ b) → (o : Option Position) (r : Result (Unit {0}) Refusal) →
    MatchOption o ((at : Position) → IsAt rank at → ⊥) (λ at. IsAt rank at) →
    MatchOption o (RefusesFor ⊥ ⊥ ⊥ r) (λ a. RefusesFor ⊥ ⊥ (spelled p a.file a.index ≡ name) r) →
    RefusesOrLacks ⊥ (⊥ × IsReserved name) (HasMemberName IsAt p rank name) r
member_refused IsAt p rank name one None r none h =
    or_lacks ⊥ (⊥ × IsReserved name) (HasMemberName IsAt p rank name) r
    (refuses_as ⊥ ⊥ ⊥ (⊥ × IsReserved name) ⊥ (HasMemberName IsAt p rank name) (agree_same ⊥) (no_member name)
    (record { there = λ n. absurd n; back = λ c. none c.at c.is_at }) r h)
member_refused IsAt p rank name one (Some a) r is h =
    or_lacks ⊥ (⊥ × IsReserved name) (HasMemberName IsAt p rank name) r
    (refuses_as ⊥ ⊥ ⊥ (⊥ × IsReserved name) (spelled p a.file a.index ≡ name) (HasMemberName IsAt p rank name) (agree_same ⊥) (no_member name)
    (record {
      there = λ e. record { at = a; is_at = is; called = e };
      back = λ c.
          subst (λ (x : Position). spelled p x.file x.index ≡ name) (one c.at a c.is_at is) c.called;
    }) r h)

-- What holds of the package of a number holds of the package of each declaration of it.
module _ (w : Workspace) (known : Verdicts) (n : ℕ) (p : Package) (is : IsPackageAt w known n p) where
  abbrev Known : Package → Type 0
  Known = IsCheckedPackage w known

  of_path : (path : List ℕ) → path ≡ p.path → (P : Package → Type 0) → Agree (P p) (InPackage Known path P)
  of_path path e P = record {
    there = in_package w known n p path P is (is.has_number ∙ ap Some (sym e));
    back = of_package w known n p path P is (is.has_number ∙ ap Some (sym e));
  }

  at_home : (d : Declaration) → home_path d ≡ Some p.path → (P : Package → Type 0) → Agree (P p) (InHomePackage Known d P)
  at_home (Predeclared m) e P = absurd (none-some p.path e)
  at_home (Declared path m) e P = of_path path (same_Some path p.path e) P
  at_home (Field s) e P = of_path s.package (same_Some s.package p.path e) P
  at_home (Method s) e P = of_path s.package (same_Some s.package p.path e) P

  not_predeclared : (d : Declaration) → home_path d ≡ Some p.path → IsPredeclaredName d → ⊥
  not_predeclared (Predeclared m) e h = none-some p.path e
  not_predeclared (Declared path m) e h = h
  not_predeclared (Field s) e h = h
  not_predeclared (Method s) e h = h

  -- So a name is refused for a declaration of the package just where it is refused in the package.
  pub refused_at_home : (d : Declaration) → home_path d ≡ Some p.path → (name : List ℕ) (r : Result (Unit {0}) Refusal) → RefusesNameIn p d name r →
      RefusesName Known d name r
  refused_at_home d e name r h =
      let main = at_home d e (λ q. IsMainIn q d) in
      let top = at_home d e (λ q. IsTopLevelIn q d) in
      refuses_or_lacks (IsMainIn p d) (IsFixed Known d) (IsTopLevelIn p d × IsReserved name) (IsReservedFor Known d name) (HasDeclaredNameIn p d name)
      (HasDeclaredName Known d name)
      (record { there = λ m. inr (main.there m); back = λ f. elim f [ inl named ↦ absurd (not_predeclared d e named) | inr m ↦ main.back m ] })
      (record { there = λ t. (top.there t.0, t.1); back = λ t. (top.back t.0, t.1) }) (at_home d e (λ q. HasDeclaredNameIn q d name)) r h
