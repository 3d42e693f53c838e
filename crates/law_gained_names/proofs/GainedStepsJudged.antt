-- Files are judged as before the edit set, no package imports itself, and identifiers are the first at their positions.
use Rattle.std.proofs.Common.{ℕ, suc, ◌≡◌, ◌<◌, ◌≤◌, ◌⊎◌, inl, inr, List, [], Some, length, refl, sym, ap, ◌∙◌, subst, arith}
use Rattle.std.specs.Prelude.{Contains, slice_get}
use Rattle.std.proofs.lemmas.Bool.{cases_eq, cases_lt}
use Rattle.std.proofs.lemmas.Bool.Decides.{nat_tests}
use Rattle.std.proofs.lemmas.Option.{same_Some}
use Rattle.base_files.specs.Workspace.{Workspace}
use Rattle.base_edits.specs.EditSet.{FileChanges, edited}
use Rattle.go_ast.specs.SourceFile.{SourceFile, source_of, spelling_of}
use Rattle.go_scope.specs.declared.model.Block.TheVariants.{File, Universe}
use Rattle.go_scope.specs.Bindings.{Layout, block_of}
use Rattle.go_scope.specs.FileSites.{universe}
use Rattle.go_scope.specs.Site.{or_blank}
use Rattle.types_declared.specs.Package.{Package}
use Rattle.types_expr.specs.Judge.{MemberUse, members_of}
use Rattle.types_info.specs.MemberUses.{AreUsesIn}
use Rattle.types_info.specs.QualifiedIdentifiers.{IsQualifiedByPath}
use Rattle.types_info.specs.Uniqueness.{HasOneWorld}
use Rattle.types_info.specs.Worlds.{is_init}
use Rattle.types_info.proofs.OneWorld.{has_one_world}
use Rattle.types_stmt.specs.Declarations.{check_file}
use Rattle.workspace_check.specs.FaultLists.{ListsFaults}
use Rattle.workspace_check.specs.Verdicts.{AreVerdicts, Verdicts}
use Rattle.workspace_check.proofs.Closed.{not_on_itself}
use Rattle.workspace_check.proofs.OnePackage.{files_in_order, layout_formed}
use Rattle.refs_binding.specs.Binding.{IsPredeclaredNumber}
use Rattle.refs_binding.specs.Identifiers.{IsInFiles}
use Rattle.refs_binding.specs.Uses.{IsCheckedPackage}
use Rattle.refs_binding.proofs.MemberParts.{one_list}
use Rattle.refs_lookup.proofs.NamedImports.{named_is_imported}
use Rattle.law_faultless.proofs.PackageWorlds.{have_all_worlds}
use Rattle.law_faultless.proofs.Scoped.{found_first}
use Rattle.law_rename.specs.Around.{from_on}
use Rattle.law_renamed_workspaces.proofs.GoodImports.{imports_are_good}
use Rattle.law_renamed_workspaces.proofs.OwnNames.{in_universe}
use Rattle.law_gained_names.specs.NamedPackage.{numbers_of}
use Rattle.law_gained_names.proofs.Layouts.{stood_at}
use Rattle.law_gained_names.proofs.Literals.{other_file}
use Rattle.law_gained_names.specs.GainedName.{GainedNamesAreJudged, IsGainedAt}
use Rattle.law_renumbered.specs.Bindings.{IsFirstThere, IsJudgedTwice}
use Rattle.law_changed_types.specs.RenumberedPackage.{NewNumbers}
use Rattle.law_gained_names.specs.OwnName.{HasGainedBy}
use Rattle.law_gained_names.proofs.GainedStepsTokens.{i, now_here}
use Rattle.law_gained_names.proofs.Becoming.{now, stands_there}

lower_stays : (at k : ℕ) → k ≤ at → from_on (suc at) k ≡ k
lower_stays at k le = grind (arith, nat_tests)

at_least : (at k l : ℕ) → (k < l → ⊥) → from_on (suc at) k < l → ⊥
at_least at k l other less = grind (arith, nat_tests)

first_there : (w : Workspace) (known : Verdicts) (p : Package) → IsCheckedPackage w known p → (u : ℕ) → IsInFiles p u → IsFirstThere p u
first_there w known p is u stands = found_first w known p.path p is.is_checked (p.layout.place u) u stands.0 (stands.1, refl, refl)

module _ (judge : GainedNamesAreJudged) (w : Workspace) (sound : ListsFaults w []) (s : FileChanges) (f : SourceFile) (number : ℕ) (put : List ℕ)
    (p q : Package) (h : HasGainedBy w sound.known s f number put p q) (at : ℕ) (is : IsGainedAt (i w sound.known s f number put p q h) at p q)
    (right : AreVerdicts (edited s w) sound.known) (none : ListsFaults (edited s w) []) where
  abbrev pub known : Verdicts
  known = sound.known

  abbrev pub x : Workspace
  x = edited s w

  abbrev pub n : NewNumbers
  n = numbers_of (i w known s f number put p q h) at

  is_now : IsCheckedPackage x known q
  is_now = now w known s f number put p q h at is

  -- the first at their positions

  pub firsts : (u : ℕ) → IsInFiles p u → IsFirstThere p u
  firsts u stands = first_there w known p h.gained.was u stands

  pub firsts_too : (u : ℕ) → IsInFiles p u → IsFirstThere q (n.identifier u)
  firsts_too u stands = first_there x known q is_now (n.identifier u) (stands_there w known s f number put p q h at is u stands)

  -- no package imports itself

  pub no_round : (u : ℕ) (path : List ℕ) → IsQualifiedByPath p u path → path ≡ p.path → ⊥
  no_round u path b same =
      let imports = named_is_imported w known p.path p h.gained.was.is_checked (p.layout.place u).file b.before path b.named in
      imports_are_good w sound known sound.right p h.gained.was path imports (λ on. not_on_itself w p.path path on same)

  -- predeclared names come first

  not_universal : File (i w known s f number put p q h).rank ≡ Universe → ⊥
  not_universal e = cc

  own_import : IsPredeclaredNumber at → ⊥
  own_import less =
      let named = is.named in
      let block : block_of (p.layout.role at) ≡ File (i w known s f number put p q h).rank =
      ap (λ (l : Layout). block_of (l.role at)) named.was.layout
      ∙ ap (λ o. block_of (or_blank o).role) (stood_at (i w known s f number put p q h) at named.old named.new named.gained) in
      not_universal (sym block ∙ in_universe w known p.path p h.gained.was.is_checked at less)

  pub predeclared : (k : ℕ) → IsPredeclaredNumber k → n.identifier k ≡ k
  predeclared k less =
      lower_stays at k
      (by_test (cases_lt at (length universe)))
    where
      by_test : ((at < length universe) ⊎ (length universe ≤ at)) → k ≤ at
      by_test (inl below) = absurd (own_import below)
      by_test (inr ge) = let lt : k < length universe = less in omega (arith, lt, ge)

  pub own_stays : (k : ℕ) → (IsPredeclaredNumber k → ⊥) → IsPredeclaredNumber (n.identifier k) → ⊥
  own_stays k other less = at_least at k (length universe) other less

  -- files are judged twice

  file_now : (file : ℕ) (old : SourceFile) → slice_get p.files file ≡ Some old → (new : SourceFile) × (slice_get q.files file ≡ Some new)
  file_now file old is_old = elim (cases_eq file (i w known s f number put p q h).rank) [
    | inl here ↦ (source_of h.gained.gains.after, ap (slice_get q.files) here ∙ now_here w known s f number put p q h)
    | inr other ↦ (old, other_file (i w known s f number put p q h) at p q is.named is.literals file other ∙ is_old)
  ]

  one_world : HasOneWorld p
  one_world = has_one_world p (layout_formed w known p.path p h.gained.was.is_checked) (files_in_order w known p.path p h.gained.was.is_checked)

  judged_by : (file : ℕ) (uses : List MemberUse) → AreUsesIn p file uses → (new : SourceFile) → slice_get q.files file ≡ Some new →
      IsJudgedTwice n p q file uses
  judged_by file uses a new new_at =
      let worlds = have_all_worlds w sound known sound.right p h.gained.was in
      let j = judge (i w known s f number put p q h) at p q is.named worlds file new new_at in
      let v = have_all_worlds x none known right q is_now file new new_at in
      let their = members_of (check_file j.world (is_init j.source) j.source.tree).uses in
      let same : uses ≡ their =
      one_list p one_world file uses their a
      (record { source = j.source; in_file = j.in_file; world = j.world; judged_by = j.judged_by; found = refl }) in
      let source : j.source ≡ a.source = same_Some j.source a.source (sym j.in_file ∙ a.in_file) in
      record {
        old = a.source;
        old_at = a.in_file;
        new = new;
        new_at = new_at;
        world = v.0;
        is_world = v.1;
        spelled = λ u has.
            j.spelled u (subst (λ us. Contains us u) same has) ∙ ap (λ (z : SourceFile). spelling_of z u.place) source;
      }

  pub judged : (file : ℕ) (uses : List MemberUse) → AreUsesIn p file uses → IsJudgedTwice n p q file uses
  judged file uses a = let new = file_now file a.source a.in_file in judged_by file uses a new.0 new.1
