-- Objects of packages without faults follow a rename that is planned beside packages with faults.
use Rattle.std.proofs.Common.{ℕ, ◌≡◌, List, Some, refl, ap, sym, subst, ◌∙◌}
use Rattle.std.specs.Prelude.{Contains, Ok}
use Rattle.base_edits.specs.EditSet.{FileChanges, edited}
use Rattle.base_files.specs.Packages.{package_paths}
use Rattle.base_files.specs.Workspace.{Workspace}
use Rattle.go_ast.specs.SourceFile.{SourceFile}
use Rattle.go_scope.specs.Bindings.{IsPackageLevel}
use Rattle.types_expr.specs.declared.symbol.Symbol.{Symbol}
use Rattle.types_declared.specs.Package.{Package}
use Rattle.workspace_graph.specs.Packages.{IsInClosure, itself}
use Rattle.workspace_graph.specs.Parsed.{AreParsed}
use Rattle.workspace_check.specs.Closures.{HasSameClosure}
use Rattle.workspace_check.specs.Verdicts.{Verdicts, AreVerdicts}
use Rattle.workspace_check.proofs.Local.{closed_there, files_there, same_back}
use Rattle.workspace_snapshot.specs.declared.change.Change.{Change}
use Rattle.workspace_snapshot.specs.declared.snapshot.Snapshot.{Snapshot}
use Rattle.build_object.specs.Lines.{GlobalName}
use Rattle.build_object.specs.Objects.{Object}
use Rattle.build_unit.specs.Units.{AreFilesOf, AreFilesSeen, within, beyond}
use Rattle.refs_binding.specs.declared.declaration.Declaration.{Declaration}
use Rattle.refs_binding.specs.declared.declaration.Declaration.TheVariants.{Predeclared, Declared, Field, Method}
use Rattle.refs_binding.specs.DeclaredNames.{HasDeclaredName, HasDeclaredNameIn}
use Rattle.refs_binding.specs.DeclaringPlaces.{InPackage}
use Rattle.refs_binding.specs.Uses.{IsCheckedPackage}
use Rattle.refs_lookup.proofs.Packages.{package_stays}
use Rattle.refs_places.specs.Outside.{declaring_path}
use Rattle.refactor_part.specs.FaultlessPart.{faultless_part, part_of_snapshot}
use Rattle.refactor_part.proofs.PartClosures.{part_closure}
use Rattle.refactor_part.proofs.PartFiles.{from_part}
use Rattle.refactor_coupled.specs.Coupling.{IsRenamedSet}
use Rattle.refactor_plan.specs.Plan.{ResolvesIdentifier}
use Rattle.law_objects.specs.Objects.{AreTypesOfMethods, HasObject, HasObjectText, IsFieldOfType, IsInterfaceCalled, IsOwnerCalled, IsTypeOfMethod}
use Rattle.law_objects.specs.Objects.{IsUnprinted, ReplacesNamesAt}
use Rattle.law_objects.specs.Replaced.{Replaced, of_global, of_methods}
use Rattle.law_implementing.proofs.RenamedHomes.{set_has_it}
use Rattle.refactor_units.specs.PlannedObjects.{RenamesInObjects, RenamesObjects}
use Rattle.refactor_units.proofs.PlannedObjects.{planned_objects}
use Rattle.refactor_affected.specs.Renames.{IsAffectedByRename, PlansAffectedRename}
use Rattle.law_plans.specs.PlannedInPart.{IsPartThroughout, change_of_part}
use Rattle.law_plans.specs.SoundPackages.{IsSoundPackage}
use Rattle.law_plans.proofs.AffectedAfter.{sound_among}
use Rattle.law_plans.proofs.PlannedInPart.{renames_in_part}
use Rattle.workspace_snapshot.specs.declared.change.ChangeKind.TheVariants.{Rename}
use Rattle.law_plans.specs.SoundObjects.{AffectedRenamesRenameObjects, RenamesInSoundObjects}

-- the object of a package whose closure has the same texts elsewhere
module _ (w x : Workspace) (before after : Verdicts) (right : AreVerdicts w before) (also : AreVerdicts x after) (path : List ℕ)
    (same : HasSameClosure w x path) where
  files_moved : (q : List ℕ) (files : List SourceFile) → IsInClosure w path q → AreFilesOf w q files → AreFilesOf x q files
  files_moved q files closed f = record {
    parts = f.parts;
    faulty = f.faulty;
    parsed = subst (λ (es : List (List ℕ × List ℕ)). AreParsed es f.parts f.faulty) (files_there w x path same q closed) f.parsed;
    are_files = f.are_files;
  }

  seen_moved : (q : List ℕ) (files : List SourceFile) → AreFilesSeen w path q files → AreFilesSeen x path q files
  seen_moved q files (within closed are) = within (closed_there w x path same q closed) (files_moved q files closed are)
  seen_moved q _ (beyond outside) = beyond (λ closed. outside (closed_there x w path (same_back w x path same) q closed))

  object_moved : (files_of : List ℕ → List SourceFile) (o : Object) → HasObject w before path files_of o → HasObject x after path files_of o
  object_moved files_of o h = record {
    checked = h.checked;
    is_package = package_stays w x before after right also h.checked (subst (HasSameClosure w x) (sym h.of_path) same) h.is_package;
    of_path = h.of_path;
    are_files = λ q. seen_moved q (files_of q) (h.are_files q);
    is_object = h.is_object;
  }

  text_moved : (text : List ℕ) → HasObjectText w before path text → HasObjectText x after path text
  text_moved text h = record { files_of = h.files_of; object = h.object; has = object_moved h.files_of h.object h.has; printed = h.printed }

-- the name of the type of a method, where its package is checked alike
owner_moved : (w x : Workspace) (a b : Verdicts) (m : Symbol) (called : List ℕ) (h : IsOwnerCalled w a m called) → IsCheckedPackage x b h.own →
    IsOwnerCalled x b m called
owner_moved w x a b m called h is = record {
  own = h.own;
  is_package = is;
  of_path = h.of_path;
  function = h.function;
  has_rank = h.has_rank;
  definition = h.definition;
  of_type = h.of_type;
  spec = h.spec;
  is_type = h.is_type;
  called = h.called;
}

interface_moved : (w x : Workspace) (a b : Verdicts) (m : Symbol) (called : List ℕ) (h : IsInterfaceCalled w a m called) → IsCheckedPackage x b h.own →
    IsInterfaceCalled x b m called
interface_moved w x a b m called h is = record {
  own = h.own;
  is_package = is;
  of_path = h.of_path;
  member = h.member;
  has_rank = h.has_rank;
  params = h.params;
  result = h.result;
  form = h.form;
  spec = h.spec;
  is_type = h.is_type;
  called = h.called;
}

module _ (snapshot : Snapshot) (path : List ℕ) (offset : ℕ) (name : List ℕ) (change : Change) (plan : PlansAffectedRename snapshot path offset name (Ok
    change)) where
  abbrev w : Workspace
  w = snapshot.files

  abbrev s : FileChanges
  s = change.edits

  abbrev known : Verdicts
  known = plan.0.sound.known

  abbrev right : AreVerdicts snapshot.files plan.0.sound.known
  right = plan.0.sound.right

  abbrev part : Workspace
  part = faultless_part snapshot.files plan.0.sound.known

  throughout : IsPartThroughout w known s
  throughout = (renames_in_part snapshot path offset name change plan).1

  pub followed : RenamesObjects part path offset name (edited s part)
  followed = planned_objects (part_of_snapshot snapshot known) path offset name (change_of_part snapshot known Rename s)
      (renames_in_part snapshot path offset name change plan).0

  module _ (asked : ResolvesIdentifier part path offset) (set : List Declaration)
      (is_set : IsRenamedSet (IsCheckedPackage (faultless_part snapshot.files plan.0.sound.known) asked.known) asked.declaration set) where
    abbrev d : Declaration
    d = asked.declaration

    abbrev P : Package → Type 0
    P = IsCheckedPackage w known

    abbrev Q : Package → Type 0
    Q = IsCheckedPackage part asked.known

    -- the package of what is renamed has no fault, so it is one of the part
    home_there : (e : Declaration) → Contains set e → (p : Package) → declaring_path e ≡ Some p.path → P p → Q p
    home_there e among p declares is =
        let sound = sound_among w (IsAffectedByRename w part path offset) plan.1.sound known right p.path is.of_workspace (record {
          start = p.path;
          begins = record {
            asked = asked;
            set = set;
            is_set = is_set;
            declares = record { declaration = e; among = among; declares = declares };
          };
          in_closure = itself is.of_workspace;
        }) in
        package_stays w part known asked.known right asked.right p (part_closure w known right p.path sound.sound) is

    back : (p : Package) → Q p → P p
    back p is =
        package_stays part w asked.known known asked.right right p
        (same_back w part p.path (part_closure w known right p.path (from_part w known p.path is.of_workspace).1)) is

    has_it : Contains set d
    has_it = set_has_it Q d set is_set

    in_home : (e : Declaration) → Contains set e → (q : List ℕ) → declaring_path e ≡ Some q → (K : Package → Type 0) → InPackage P q K → InPackage Q q K
    in_home e among q declares K h = record {
      inside = h.inside;
      is_package = home_there e among h.inside (declares ∙ ap Some (sym h.of_path)) h.is_package;
      of_path = h.of_path;
      holds = h.holds;
    }

    unprinted_there : (e : Declaration) → Contains set e → IsUnprinted P e → IsUnprinted Q e
    unprinted_there (Predeclared n) among h = h
    unprinted_there (Declared q n) among h = in_home (Declared q n) among q refl (λ p. IsPackageLevel p.layout n → ⊥) h
    unprinted_there (Field m) among h = in_home (Field m) among m.package refl (λ p. IsFieldOfType p m.rank) h
    unprinted_there (Method m) among h = h

    name_there : (e : Declaration) → Contains set e → (called : List ℕ) → HasDeclaredName P e called → HasDeclaredName Q e called
    name_there (Predeclared n) among called h = h
    name_there (Declared q n) among called h = in_home (Declared q n) among q refl (λ p. HasDeclaredNameIn p (Declared q n) called) h
    name_there (Field m) among called h = in_home (Field m) among m.package refl (λ p. HasDeclaredNameIn p (Field m) called) h
    name_there (Method m) among called h = in_home (Method m) among m.package refl (λ p. HasDeclaredNameIn p (Method m) called) h

    -- the types of methods that are renamed

    type_there : (e : Declaration) → Contains set e → (g : GlobalName) → IsTypeOfMethod w known e g → IsTypeOfMethod part asked.known e g
    type_there (Predeclared n) among g h = h
    type_there (Declared q n) among g h = h
    type_there (Field m) among g h = (
      h.0,
      interface_moved w part known asked.known m g.name h.1 (home_there (Field m) among h.1.own (ap Some (sym h.1.of_path)) h.1.is_package),
    )
    type_there (Method m) among g h = (
      h.0,
      owner_moved w part known asked.known m g.name h.1 (home_there (Method m) among h.1.own (ap Some (sym h.1.of_path)) h.1.is_package),
    )

    type_back : (e : Declaration) (g : GlobalName) → IsTypeOfMethod part asked.known e g → IsTypeOfMethod w known e g
    type_back (Predeclared n) g h = h
    type_back (Declared q n) g h = h
    type_back (Field m) g h = (h.0, interface_moved part w asked.known known m g.name h.1 (back h.1.own h.1.is_package))
    type_back (Method m) g h = (h.0, owner_moved part w asked.known known m g.name h.1 (back h.1.own h.1.is_package))

    types_there : (types : List GlobalName) → AreTypesOfMethods w known set types → AreTypesOfMethods part asked.known set types
    types_there types are g = (
      (λ has. let k = (are g).0 has in (k.0, (k.1.0, type_there k.0 k.1.0 g k.1.1))),
      (λ k. (are g).1 (k.0, (k.1.0, type_back k.0 g k.1.1))),
    )

    module _ (then : Verdicts) (right_then : AreVerdicts (edited s part) then) (law : RenamesInObjects part asked.known d set name (edited s part) then)
        (after : Verdicts) (right_after : AreVerdicts (edited s w) after) where
      -- into the part
      object_there : (q : List ℕ) (files_of : List ℕ → List SourceFile) (o : Object) → IsSoundPackage w known q → HasObject w known q files_of o →
          HasObject part asked.known q files_of o
      object_there q files_of o fine = object_moved w part known asked.known right asked.right q (part_closure w known right q fine.sound) files_of o

      text_there : (q text : List ℕ) → IsSoundPackage w known q → HasObjectText w known q text → HasObjectText part asked.known q text
      text_there q text fine = text_moved w part known asked.known right asked.right q (part_closure w known right q fine.sound) text

      -- out of the edited part
      text_back : (q text : List ℕ) → HasObjectText (edited s part) then q text → HasObjectText (edited s w) after q text
      text_back q text h =
          let own : Contains (package_paths (edited s part)) q =
          subst (Contains (package_paths (edited s part))) h.has.of_path h.has.is_package.of_workspace in
          text_moved (edited s part) (edited s w) then after right_then right_after q (throughout.after q own) text h

      replaced : (q : List ℕ) → IsSoundPackage w known q → (r : Replaced) → ReplacesNamesAt part asked.known (edited s part) then q r →
          ReplacesNamesAt w known (edited s w) after q r
      replaced q fine r names files_of o h = text_back q _ (names files_of o (object_there q files_of o fine h))

      pub in_sound : RenamesInSoundObjects w known d set name (edited s w) after
      in_sound q fine = record {
        unprinted = λ none text h. text_back q text ((law q).unprinted (unprinted_there d has_it none) text (text_there q text fine h));
        package_level = λ own n same is level.
            replaced q fine (of_global own.path (own.names n) name)
            ((law q).package_level own n same (home_there d has_it own (ap declaring_path same) is) level);
        methods = λ member called has_name types are.
            replaced q fine (of_methods types called name)
            ((law q).methods member called (name_there d has_it called has_name) types (types_there types are));
      }

pub sound_objects : AffectedRenamesRenameObjects
sound_objects snapshot path offset name change plan =
    let law = followed snapshot path offset name change plan in
    let kept = plan.1.preserves.bindings in
    let files : change.files ≡ edited change.edits snapshot.files = ap (λ (x : Change). x.files) plan.1.is_change in
    record {
      asked = law.asked;
      set = law.set;
      is_set = law.is_set;
      objects = λ after right_after.
          subst (λ x. RenamesInSoundObjects snapshot.files plan.0.sound.known law.asked.declaration law.set name x after) (sym files)
          (in_sound snapshot path offset name change plan law.asked law.set law.is_set kept.after kept.right_after (law.objects kept.after kept.right_after)
          after (subst (λ x. AreVerdicts x after) files right_after));
    }
