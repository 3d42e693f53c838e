-- The edits of a rename that is planned beside packages with faults are those of the rename in the whole workspace.
use Rattle.std.proofs.Common.{◌≡◌, ℕ, inl, inr, true, false, List, [], Option, None, Some, refl, sym, ap, subst, ◌∙◌}
use Rattle.std.specs.Prelude.{◌≤◌, Contains, Ok, length}
use Rattle.std.proofs.lemmas.Bool.{cases_Bool, true≢false}
use Rattle.std.proofs.lemmas.List.Elements.{All-from_recursion}
use Rattle.base_lemmas.proofs.EachElement.{all_from_each}
use Rattle.base_lemmas.proofs.Elements.{nothing_in}
use Rattle.base_files.specs.Path.{folder}
use Rattle.base_files.specs.Packages.{package_paths}
use Rattle.base_files.specs.Workspace.{Workspace}
use Rattle.base_files.specs.declared.place.Place.{Place}
use Rattle.go_ast.specs.SourceFile.{SourceFile}
use Rattle.base_edits.specs.EditSet.{FileChanges, change_of}
use Rattle.base_edits.specs.Edits.{LieWithin}
use Rattle.base_edits.specs.Moved.{edits_by}
use Rattle.base_edits.specs.declared.change.FileChange.{FileChange}
use Rattle.base_edits.specs.declared.edit.Edit.{Edit}
use Rattle.base_edits.proofs.Changes.{change_found}
use Rattle.workspace_graph.specs.Packages.{IsInClosure, itself}
use Rattle.workspace_graph.proofs.ByPath.{is_package}
use Rattle.workspace_check.specs.Closures.{HasSameClosure}
use Rattle.workspace_check.specs.Verdicts.{Verdicts, AreVerdicts}
use Rattle.workspace_snapshot.specs.declared.change.Change.{Change}
use Rattle.workspace_snapshot.specs.declared.snapshot.Snapshot.{Snapshot}
use Rattle.types_declared.specs.Package.{Package}
use Rattle.refs_binding.specs.declared.declaration.Declaration.{Declaration}
use Rattle.refs_binding.specs.declared.declaration.Declaration.TheVariants.{Predeclared, Declared, Field, Method}
use Rattle.refs_binding.specs.DeclaredNames.{HasDeclaredNameIn}
use Rattle.refs_binding.specs.DeclaringPlaces.{InPackage, InHomePackage}
use Rattle.refs_binding.specs.Uses.{IsCheckedPackage}
use Rattle.refs_lookup.proofs.Bindings.{held_stays, use_stays}
use Rattle.refs_lookup.proofs.Packages.{package_stays}
use Rattle.refs_places.specs.Homes.{IsHomeOfSome}
use Rattle.refs_places.specs.Outside.{declaring_path}
use Rattle.refs_uses.specs.UsesOfEach.{IsUseOfSome}
use Rattle.refactor_coupled.specs.Coupling.{IsRenamedSet}
use Rattle.refactor_preserve.proofs.Unaffected.{of_use, use_within}
use Rattle.refactor_rename.specs.declared.renamed.Literal.{Literal}
use Rattle.refactor_rename.specs.declared.renamed.Renamed.{Renamed}
use Rattle.refactor_rename.specs.FileEdits.{AreFileEdits, IsEditAt}
use Rattle.refactor_rename.specs.Literals.{IsLiteralFound, IsPathLiteralIn, IsPathLiteralOf}
use Rattle.refactor_rename.specs.Naming.{IsFixed, IsMainIn, IsTopLevelIn}
use Rattle.refactor_rename.specs.RenameEdits.{AreRenameEdits, EditsSource, IsSourceIn}
use Rattle.refactor_rename.proofs.Sources.{source_folder}
use Rattle.refactor_part.specs.FaultlessPart.{faultless_part}
use Rattle.refactor_part.proofs.PartClosures.{part_closure}
use Rattle.refactor_part.proofs.PartFiles.{from_part}
use Rattle.refactor_plan.specs.Plan.{IsLegalName, ResolvesIdentifier}
use Rattle.refactor_affected.specs.Renames.{IsAffectedByRename, PlansAffectedRename}
use Rattle.law_implementing.proofs.RenamedHomes.{set_has_it, set_homes}
use Rattle.law_plans.specs.SoundRenames.{AffectedRenamesRenameAll}
use Rattle.law_plans.proofs.AffectedAfter.{sound_among}
use Rattle.law_plans.proofs.OthersRenamed.{by_literal, declared_reaches}
use Rattle.law_plans.proofs.PlannedInPart.{shared_before}
use Rattle.law_plans.proofs.RenamedSound.{home_of}

module _ (snapshot : Snapshot) (path : List ℕ) (offset : ℕ) (name : List ℕ) (change : Change) (plan : PlansAffectedRename snapshot path offset name (Ok
    change)) where
  abbrev w : Workspace
  w = snapshot.files

  abbrev s : FileChanges
  s = change.edits

  abbrev known : Verdicts
  known = plan.0.sound.known

  abbrev right : AreVerdicts snapshot.files plan.0.sound.known
  right = plan.0.sound.right

  abbrev part : Workspace
  part = faultless_part snapshot.files plan.0.sound.known

  abbrev asked : ResolvesIdentifier (faultless_part snapshot.files plan.0.sound.known) path offset
  asked = plan.1.renaming.may.renamable.asked

  abbrev by : Verdicts
  by = plan.1.renaming.may.renamable.asked.known

  abbrev right_by : AreVerdicts (faultless_part snapshot.files plan.0.sound.known) plan.1.renaming.may.renamable.asked.known
  right_by = plan.1.renaming.may.renamable.asked.right

  abbrev d : Declaration
  d = plan.1.renaming.may.renamable.asked.declaration

  abbrev not_fixed : IsFixed (IsCheckedPackage (faultless_part snapshot.files plan.0.sound.known) plan.1.renaming.may.renamable.asked.known)
      plan.1.renaming.may.renamable.asked.declaration → ⊥
  not_fixed = plan.1.renaming.may.renamable.not_fixed

  abbrev P : Package → Type 0
  P = IsCheckedPackage w known

  abbrev Q : Package → Type 0
  Q = IsCheckedPackage part by

  abbrev r : Renamed
  r = plan.1.renaming.edits.edits.renamed

  abbrev set : List Declaration
  set = plan.1.renaming.set

  abbrev is_set : IsRenamedSet (IsCheckedPackage (faultless_part snapshot.files plan.0.sound.known) plan.1.renaming.may.renamable.asked.known)
      plan.1.renaming.may.renamable.asked.declaration plan.1.renaming.set
  is_set = plan.1.renaming.edits.is_set

  abbrev are : AreRenameEdits (faultless_part snapshot.files plan.0.sound.known) plan.1.renaming.may.renamable.asked.known
      plan.1.renaming.may.renamable.asked.declaration plan.1.renaming.set name change.edits
  are = plan.1.renaming.edits.edits

  -- packages of the part
  shared : (q : List ℕ) → Contains (package_paths part) q → HasSameClosure part w q
  shared = shared_before w known right

  up : (p : Package) → Q p → P p
  up p is = package_stays part w by known right_by right p (shared p.path is.of_workspace) is

  home_sound : (home : List ℕ) → IsHomeOfSome set home → (q : List ℕ) → IsInClosure w q home → (known q).faulty ≡ false
  home_sound home is_home q closed =
      (sound_among w (IsAffectedByRename w part path offset) plan.1.sound known right q (is_package w q home closed) (record {
        start = home;
        begins = record { asked = asked; set = set; is_set = is_set; declares = is_home };
        in_closure = closed;
      })).sound

  -- the package of the declaration itself
  own_home : (home : List ℕ) → declaring_path d ≡ Some home → IsHomeOfSome set home
  own_home home declares = record { declaration = d; among = set_has_it Q d set is_set; declares = declares }

  down : (p : Package) → declaring_path d ≡ Some p.path → P p → Q p
  down p declares is =
      package_stays w part known by right right_by p
      (part_closure w known right p.path (home_sound p.path (own_home p.path declares) p.path (itself is.of_workspace))) is

  inside : (R : Package → Type 0) (home : List ℕ) → declaring_path d ≡ Some home → InPackage P home R → InPackage Q home R
  inside R home declares h = record {
    inside = h.inside;
    is_package = down h.inside (declares ∙ ap Some (sym h.of_path)) h.is_package;
    of_path = h.of_path;
    holds = h.holds;
  }

  at_home : (R : Package → Type 0) (e : Declaration) → d ≡ e → InHomePackage P e R → InHomePackage Q e R
  at_home R (Predeclared n) same h = h
  at_home R (Declared q n) same h = inside R q (ap declaring_path same) h
  at_home R (Field m) same h = inside R m.package (ap declaring_path same) h
  at_home R (Method m) same h = inside R m.package (ap declaring_path same) h

  -- the name is legal in the whole too
  abbrev whole_name : IsLegalName snapshot.files path offset name
  whole_name =
      let of = asked.has.is_asked in
      let here : HasSameClosure part w (folder path) =
      shared (folder path) (subst (Contains (package_paths part)) of.of_folder of.is_package.of_workspace) in
      record {
        renamable = record {
          asked = record { known = known; right = right; declaration = d; has = held_stays part w by known right_by right path here offset d asked.has };
          not_fixed = λ fixed. not_fixed (elim fixed [ inl own ↦ inl own | inr main ↦ inr (at_home (λ p. IsMainIn p d) d refl main) ]);
        };
        allowed = λ reserved. plan.1.renaming.may.allowed (at_home (λ p. IsTopLevelIn p d) d refl reserved.0, reserved.1);
      }

  -- uses
  use_up : (place : Place) → IsUseOfSome part by set place → IsUseOfSome w known set place
  use_up place u = record {
    declaration = u.declaration;
    among = u.among;
    is_use = use_stays part w by known right_by right place
        (shared (folder place.path) (of_use part by right_by u.declaration place u.is_use)) u.declaration u.is_use;
  }

  use_down : (place : Place) → IsUseOfSome w known set place → IsUseOfSome part by set place
  use_down place u =
      let e = u.declaration in
      let home = set_homes Q d set is_set (home_of Q d not_fixed) e u.among in
      let closed = declared_reaches w known home.0 (folder place.path) e home.1 (use_within w known right e place u.is_use) in
      let start : IsHomeOfSome set home.0 = record { declaration = e; among = u.among; declares = home.1 } in
      record {
        declaration = e;
        among = u.among;
        is_use = use_stays w part known by right right_by place
            (part_closure w known right (folder place.path) (home_sound home.0 start (folder place.path) closed)) e u.is_use;
      }

  -- the literal of an import
  literal_up : (e : Declaration) (l : Literal) → IsPathLiteralOf Q e l → IsPathLiteralOf P e l
  literal_up (Predeclared n) l h = h
  literal_up (Declared q n) l h = record { inside = h.inside; is_package = up h.inside h.is_package; of_path = h.of_path; holds = h.holds }
  literal_up (Field m) l h = h
  literal_up (Method m) l h = h

  literal_down : (e : Declaration) → d ≡ e → (l : Literal) → IsPathLiteralOf P e l → IsPathLiteralOf Q e l
  literal_down (Predeclared n) same l h = h
  literal_down (Declared q n) same l h = inside (λ p. IsPathLiteralIn p n l) q (ap declaring_path same) h
  literal_down (Field m) same l h = h
  literal_down (Method m) same l h = h

  literal_found : (o : Option Literal) → IsLiteralFound (IsPathLiteralOf Q d) o → IsLiteralFound (IsPathLiteralOf P d) o
  literal_found None none = λ l is. none l (literal_down d refl l is)
  literal_found (Some l) is = literal_up d l is

  -- files of packages with faults
  not_there : (q : List ℕ) → (known q).faulty ≡ true → Contains (package_paths part) q → ⊥
  not_there q faulty has = true≢false (sym faulty ∙ (from_part w known q has).1)

  none_in : (f : SourceFile) → (known (folder f.path)).faulty ≡ true → (i : ℕ) (e : Edit) → IsEditAt f r i e → ⊥
  none_in f faulty i e h =
      let home = home_of Q d not_fixed in
      not_there (folder f.path) faulty (elim h [
        | inl inserts ↦ is_package part (folder f.path) home.0
            (by_literal part by right_by d set name s are home.0 home.1 f i r.literal are.is_renamed.literal inserts.is_literal)
        | inr renames ↦ (
            let place : Place = record { path = f.path; offset = renames.token.span.start } in
            let u = (are.is_renamed.uses.each place).0 renames.among in
            of_use part by right_by u.declaration place u.is_use)
      ])

  none_within : (n : ℕ) → LieWithin n []
  none_within n = All-from_recursion (λ (e : Edit). e.span.end ≤ n) []
      (all_from_each (λ (e : Edit). e.span.end ≤ n) [] (λ e has. absurd (nothing_in e has)))

  no_edits : (f : SourceFile) → (known (folder f.path)).faulty ≡ true → (o : Option FileChange) → change_of s f.path ≡ o → AreFileEdits f r (edits_by o)
  no_edits f faulty None is = record {
    end_by = record { in_order = tt; ends = none_within (length f.cut.text) };
    each = λ e. ((λ no. absurd (nothing_in e no)), (λ at. absurd (none_in f faulty at.0 e at.1)));
    once = tt;
  }
  no_edits f faulty (Some c) is =
      let found = change_found s.changed f.path c is in
      let from = are.edits.only c found.0 in
      let at : from.is_source.inside.path ≡ folder f.path =
      sym (source_folder part by from.source from.is_source) ∙ ap folder (from.of_path ∙ found.1) in
      absurd (not_there (folder f.path) faulty (subst (Contains (package_paths part)) at from.is_source.is_package.of_workspace))

  file_edits : (f : SourceFile) → IsSourceIn w known f → AreFileEdits f r (edits_by (change_of s f.path))
  file_edits f is = elim (cases_Bool (known (folder f.path)).faulty) [
    | inl faulty ↦ no_edits f faulty (change_of s f.path) refl
    | inr fine ↦ (
        let own : (known is.inside.path).faulty ≡ false = subst (λ q. (known q).faulty ≡ false) (source_folder w known f is) fine in
        are.edits.each f (record {
          inside = is.inside;
          is_package = package_stays w part known by right right_by is.inside (part_closure w known right is.inside.path own) is.is_package;
          has = is.has;
        }))
  ]

  source_up : (c : FileChange) → EditsSource part by c → EditsSource w known c
  source_up c e = record {
    source = e.source;
    is_source = record { inside = e.is_source.inside; is_package = up e.is_source.inside e.is_source.is_package; has = e.is_source.has };
    of_path = e.of_path;
    stays = e.stays;
  }

  pub whole_edits : AreRenameEdits w known d set name s
  whole_edits = record {
    renamed = r;
    is_renamed = record {
      uses = record {
        in_order = are.is_renamed.uses.in_order;
        each = λ place. (
          (λ has. use_up place ((are.is_renamed.uses.each place).0 has)),
          (λ u. (are.is_renamed.uses.each place).1 (use_down place u)),
        );
      };
      literal = literal_found r.literal are.is_renamed.literal;
      named = are.is_renamed.named;
    };
    edits = record { each = file_edits; only = λ c has. source_up c (are.edits.only c has); none_added = are.edits.none_added };
  }

pub renames_all : AffectedRenamesRenameAll
renames_all snapshot path offset name change plan = record {
  may = whole_name snapshot path offset name change plan;
  same = refl;
  other = λ called. plan.1.renaming.other (at_home snapshot path offset name change plan
      (λ p. HasDeclaredNameIn p plan.1.renaming.may.renamable.asked.declaration name) plan.1.renaming.may.renamable.asked.declaration refl called);
  edits = whole_edits snapshot path offset name change plan;
}
