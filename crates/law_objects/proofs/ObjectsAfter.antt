-- The object of each package is the old one where an import of one package gained the name that it declared already.
use Rattle.std.proofs.Common.{ℕ, zero, suc, ◌≡◌, ◌+◌, inl, inr, List, [], ◌∷◌, Some, map, length, refl, ap, sym, subst, ◌∙◌, arith}
use Rattle.std.specs.Option.{option_flatten}
use Rattle.std.specs.Prelude.{Contains, slice_get}
use Rattle.std.proofs.Math.Path.{ap₂, fun_ext}
use Rattle.std.proofs.lemmas.Option.{none-some, same_Some}
use Rattle.base_files.specs.Packages.{package_files, package_paths}
use Rattle.base_files.specs.Workspace.{Workspace}
use Rattle.go_ast.specs.SourceFile.{SourceFile}
use Rattle.go_ast.specs.Tree.{FileTree}
use Rattle.types_declared.proofs.ByteKeys.{cases_bytes}
use Rattle.types_declared.specs.Files.{package_name}
use Rattle.types_declared.specs.Package.{Package}
use Rattle.types_expr.specs.declared.symbol.Symbol.{Symbol}
use Rattle.workspace_graph.specs.Parsed.{AreParsed}
use Rattle.workspace_check.specs.FaultLists.{ListsFaults}
use Rattle.workspace_check.specs.Verdicts.{AreVerdicts, IsPackageIn, Verdicts}
use Rattle.workspace_check.proofs.OnePackage.{all_read, one_sources}
use Rattle.workspace_check.proofs.SameImports.{closed_by, imports_back, stands_by}
use Rattle.workspace_check.proofs.StandsAlike.{package_there}
use Rattle.refs_binding.specs.Uses.{IsCheckedPackage}
use Rattle.refs_binding.proofs.Units.{one_package}
use Rattle.refs_lookup.proofs.OnePlace.{same_files}
use Rattle.build_object.specs.Names.{field_positions, function_name, function_names, position_of_field, type_name, type_names, name_of_asked}
use Rattle.build_object.specs.Names.{all_asked_names, asked_in_file}
use Rattle.build_object.specs.Objects.{Object, object_of}
use Rattle.build_object.specs.ObjectText.{object_text}
use Rattle.build_object.specs.Source.{Source}
use Rattle.build_object.specs.Sources.{IsObjectOf, IsSourceOf}
use Rattle.build_unit.specs.Units.{AreFilesBelow, AreFilesSeen, beyond, within}
use Rattle.law_faultless.specs.Worlds.{HaveWorlds}
use Rattle.law_faultless.proofs.PackageWorlds.{have_all_worlds}
use Rattle.law_faultless.proofs.Scoped.{in_order}
use Rattle.law_rename.specs.Gained.{Gain, moved_by}
use Rattle.law_changed_types.specs.RenumberedPackage.{AreRenumberedFiles}
use Rattle.law_gained_names.proofs.NamedImportsFiles.{by_move, by_token, spelled_by_move}
use Rattle.law_gained_names.proofs.Layouts.{token}
use Rattle.law_gained_names.specs.GainedName.{IsGainedAt, gained_by}
use Rattle.law_gained_names.specs.NamedWorkspace.{HasGainedName}
use Rattle.law_gained_names.proofs.NamedWorkspacesLaws.{gained_names_renumber}
use Rattle.law_objects.specs.Objects.{HasObject, HasObjectText}
use Rattle.law_objects.specs.RenumberedSources.{AreRenumberedSources, IsRenumberedSource, no_file, one_file}
use Rattle.law_objects.proofs.Declarations.{objects_renumber}
use Rattle.law_objects.specs.KeptObjects.{GainedNamesKeepObjects}
use Rattle.law_objects.proofs.ImportsAfter.{imports_after}
use Rattle.law_objects.proofs.Literals.{name_no_literal}
use Rattle.law_objects.proofs.NewNames.{functions_kept, positions_kept, types_kept, asked_kept, asked_names_kept}
use Rattle.law_objects.proofs.SourceAfter.{asked_moved, is_new, is_renumbered, new}

-- the sources of files, one by one

record SourcesAfter (Q : ℕ → SourceFile → Source → Type 0) (fs gs : List SourceFile) (ss : List Source) : Type 0 where
  sources : List Source
  all : length sources ≡ length gs
  made : (k : ℕ) (g : SourceFile) (u : Source) → slice_get gs k ≡ Some g → slice_get sources k ≡ Some u → Q k g u
  by : AreRenumberedSources (map (λ (f : SourceFile). f.tree) fs) (map (λ (g : SourceFile). g.tree) gs) ss sources

sources_for : (t : ℕ → ℕ → ℕ) (Q : ℕ → SourceFile → Source → Type 0) (n : ℕ) (fs gs : List SourceFile) (ss : List Source) → length ss ≡ length fs →
    AreRenumberedFiles t n fs gs →
    ((k : ℕ) (f g : SourceFile) (s : Source) → slice_get fs k ≡ Some f → slice_get gs k ≡ Some g → slice_get ss k ≡ Some s →
    (u : Source) × (Q k g u × IsRenumberedSource (t (n + k)) f.tree.decls s u)) → SourcesAfter Q fs gs ss
sources_for t Q n [] [] [] e are each = record { sources = []; all = refl; made = λ k g u at there. absurd (none-some u there); by = no_file }
sources_for t Q n [] [] (s ∷ ss) e are each = let z : ⊥ = omega (arith, e) in absurd z
sources_for t Q n [] (g ∷ gs) ss e are each = absurd are
sources_for t Q n (f ∷ fs) [] ss e are each = absurd are
sources_for t Q n (f ∷ fs) (g ∷ gs) [] e are each = let z : ⊥ = omega (arith, e) in absurd z
sources_for t Q n (f ∷ fs) (g ∷ gs) (s ∷ ss) e are each =
    let own = each 0 f g s refl refl refl in
    let here : n + 0 ≡ n = omega arith in
    let rest = sources_for t (λ k. Q (suc k)) (n + 1) fs gs ss (let z : length ss ≡ length fs = omega (arith, e) in z) are.1
    (λ k x y z a b c.
    let later = each (suc k) x y z a b c in
    let same : n + suc k ≡ (n + 1) + k = omega arith in
    (later.0, (later.1.0, subst (λ j. IsRenumberedSource (t j) x.tree.decls z later.0) same later.1.1))) in
    record {
      sources = own.0 ∷ rest.sources;
      all = ap suc rest.all;
      made = made_at own.0 own.1.0 rest.sources rest.made;
      by = one_file (subst (λ j. IsRenumberedSource (t j) f.tree.decls s own.0) here own.1.1) are.0 rest.by;
    }
  where
    made_at : (u : Source) → Q 0 g u → (us : List Source) →
        ((k : ℕ) (x : SourceFile) (z : Source) → slice_get gs k ≡ Some x → slice_get us k ≡ Some z → Q (suc k) x z) →
        (k : ℕ) (x : SourceFile) (z : Source) → slice_get (g ∷ gs) k ≡ Some x → slice_get (u ∷ us) k ≡ Some z → Q k x z
    made_at u is us later zero x z at there = subst (λ y. Q 0 y z) (same_Some g x at) (subst (Q 0 g) (same_Some u z there) is)
    made_at u is us later (suc k) x z at there = later k x z at there

-- what objects print of files
record FilesPrint (path : List ℕ) (files now : List SourceFile) : Type 0 where
  types : type_names path now ≡ type_names path files
  functions : function_names path now ≡ function_names path files
  positions : field_positions now ≡ field_positions files
  asked : all_asked_names path now ≡ all_asked_names path files

module _ (w x : Workspace) (sound : ListsFaults w []) (sound_now : ListsFaults x []) (known : Verdicts) (right : AreVerdicts w known)
    (right_now : AreVerdicts x known) (number : ℕ) (p q : Package) (h : HasGainedName w x known number p q) where
  abbrev i : Gain
  i = gained_by number p q h.gains

  at : ℕ
  at = (gained_names_renumber number p q h.gains).0

  a : IsGainedAt i at p q
  unfolding at
  a = (gained_names_renumber number p q h.gains).1

  same_path : q.path ≡ p.path
  same_path = a.renumbered.path

  now : IsCheckedPackage x known q
  now = record {
    of_workspace =
        subst (λ ps. Contains ps q.path) h.imports.paths (subst (λ r. Contains (package_paths w) r) (sym same_path) h.was.of_workspace);
    is_checked = subst (λ r. IsPackageIn x known r q) (sym same_path) h.is;
  }

  own_files : FilesPrint p.path p.files q.files
  own_files =
      let spelled = spelled_by_move i p q a.named.file in
      let are = by_move i at p q a.named.parsed a.named.file in
      record {
        types = types_kept (moved_by i) p.files q.files spelled p.path are;
        functions = functions_kept (moved_by i) p.files q.files spelled p.path are;
        positions = positions_kept (moved_by i) p.files q.files spelled p.path are;
        asked = asked_names_kept (moved_by i) p.files q.files spelled p.path are;
      }

  own_asks : (k : ℕ) → asked_in_file q.path q.files k ≡ map (asked_moved (moved_by i k)) (asked_in_file p.path p.files k)
  own_asks k =
      let spelled = spelled_by_move i p q a.named.file in
      let are = by_move i at p q a.named.parsed a.named.file in
      ap (λ r. asked_in_file r q.files k) same_path ∙ asked_kept (moved_by i) p.files q.files spelled p.path are k

  -- the files in which the code of a package looks up names

  record NextFiles (path o : List ℕ) (files : List SourceFile) : Type 0 where
    after : List SourceFile
    seen : AreFilesSeen x path o after
    print : FilesPrint o files after

  next_files : (path o : List ℕ) (files : List SourceFile) → AreFilesSeen w path o files → NextFiles path o files
  next_files path o _ (beyond out) = record {
    after = [];
    seen = beyond (λ c. out (closed_by x w (imports_back w x h.imports) path o c));
    print = record { types = refl; functions = refl; positions = refl; asked = refl };
  }
  next_files path o files (within c of) = elim (cases_bytes o p.path) [
    | inl same ↦
        let parsed : AreParsed (package_files w o) h.was.is_checked.files [] =
        subst (λ k. AreParsed (package_files w k) h.was.is_checked.files []) (sym same) h.was.is_checked.parsed in
        let read = all_read of.parsed parsed in
        let sources = one_sources (subst (λ fs. AreParsed (package_files w o) of.parts fs) read of.parsed) parsed in
        let same_old : files ≡ p.files = of.are_files ∙ sources ∙ sym (same_files w known p.path p h.was.is_checked) in
        record {
          after = q.files;
          seen = within (closed_by w x h.imports path o c) (record {
            parts = h.is.files;
            faulty = [];
            parsed = subst (λ k. AreParsed (package_files x k) h.is.files []) (sym same) h.is.parsed;
            are_files = same_files x known p.path q h.is;
          });
          print = subst (λ k. FilesPrint k files q.files) (sym same) (subst (λ fs. FilesPrint p.path fs q.files) (sym same_old) own_files);
        }
    | inr other ↦ record {
      after = files;
      seen = within (closed_by w x h.imports path o c) (record {
        parts = of.parts;
        faulty = of.faulty;
        parsed = subst (λ es. AreParsed es of.parts of.faulty) (h.others o other) of.parsed;
        are_files = of.are_files;
      });
      print = record { types = refl; functions = refl; positions = refl; asked = refl };
    }
  ]

  worlds : HaveWorlds p
  worlds = have_all_worlds w sound known right p h.was

  worlds_now : HaveWorlds q
  worlds_now = have_all_worlds x sound_now known right_now q now

  module _ (path : List ℕ) (files_of : List ℕ → List SourceFile) (o : Object) (has : HasObject w known path files_of o) where
    new_of : List ℕ → List SourceFile
    new_of k = (next_files path k (files_of k) (has.are_files k)).after

    print : (k : List ℕ) → FilesPrint k (files_of k) (new_of k)
    unfolding new_of
    print k = (next_files path k (files_of k) (has.are_files k)).print

    are_files : AreFilesBelow x path new_of
    unfolding new_of
    are_files k = (next_files path k (files_of k) (has.are_files k)).seen

    functions_are : (f : Symbol) → function_name new_of f ≡ function_name files_of f
    functions_are f = ap (λ fs. slice_get fs f.rank) (print f.package).functions

    types_are : (t : Symbol) → type_name new_of t ≡ type_name files_of t
    types_are t = ap (λ ts. slice_get ts t.rank) (print t.package).types

    positions_are : (f : Symbol) → position_of_field new_of f ≡ position_of_field files_of f
    positions_are f = ap (λ ns. slice_get ns f.rank) (print f.package).positions

    asked_are : (f : Symbol) → name_of_asked new_of f ≡ name_of_asked files_of f
    asked_are f = ap (λ ns. option_flatten (slice_get ns f.rank)) (print f.package).asked

    same_text : object_text (type_name files_of) o ≡ object_text (type_name new_of) o
    same_text = ap (λ names. object_text names o) (fun_ext (λ (t : Symbol). sym (types_are t)))

    -- another package

    still_source : (y : Package) (file : ℕ) (f : SourceFile) (s : Source) → IsSourceOf y files_of file f s → IsSourceOf y new_of file f s
    still_source y file f s of = record {
      world = of.world;
      before = of.before;
      entered = of.entered;
      global = of.global;
      asks = of.asks;
      truth = of.truth;
      number = of.number;
      text = of.text;
      function = λ symbol. of.function symbol ∙ sym (functions_are symbol);
      position = λ symbol. of.position symbol ∙ sym (positions_are symbol);
      asked = λ symbol. of.asked symbol ∙ sym (asked_are symbol);
    }

    other_text : (has.checked.path ≡ p.path → ⊥) → HasObjectText x known path (object_text (type_name files_of) o)
    other_text away = record {
      files_of = new_of;
      object = o;
      has = record {
        checked = has.checked;
        is_package = record {
          of_workspace = subst (λ ps. Contains ps has.checked.path) h.imports.paths has.is_package.of_workspace;
          is_checked =
              package_there w x has.checked.path (stands_by w x h.imports has.checked.path (h.others has.checked.path away)) known has.checked
              has.is_package.is_checked;
        };
        of_path = has.of_path;
        are_files = are_files;
        is_object = record {
          sources = has.is_object.sources;
          all = has.is_object.all;
          made_of = λ file f s is got. still_source has.checked file f s (has.is_object.made_of file f s is got);
          imports = has.is_object.imports;
          are_imports = has.is_object.are_imports;
          is_object = has.is_object.is_object;
        };
      };
      printed = same_text;
    }

    -- the package of the import

    module _ (own : IsObjectOf p files_of o) (of_path : p.path ≡ path) where
      one_source : (k : ℕ) (f g : SourceFile) (s : Source) → slice_get p.files k ≡ Some f → slice_get q.files k ≡ Some g →
          slice_get own.sources k ≡ Some s → (u : Source) × (IsSourceOf q new_of k g u × IsRenumberedSource (token i at (0 + k)) f.tree.decls s u)
      one_source k f g s is there got =
          let v = worlds_now k g there in
          let of = own.made_of k f s is got in
          let order = in_order x known p.path q h.is in
          let literal = name_no_literal number p q h.gains in
          let zero_plus : k ≡ 0 + k = omega arith in (
            new i at p q a order worlds literal k f g is there files_of new_of functions_are positions_are asked_are (own_asks k) s of v.0 v.1,
            (
              is_new i at p q a order worlds literal k f g is there files_of new_of functions_are positions_are asked_are (own_asks k) s of v.0 v.1,
              subst (λ j. IsRenumberedSource (token i at j) f.tree.decls s
                  (new i at p q a order worlds literal k f g is there files_of new_of functions_are positions_are asked_are (own_asks k) s of v.0 v.1))
                  zero_plus
                  (is_renumbered i at p q a order worlds literal k f g is there files_of new_of functions_are positions_are asked_are (own_asks k) s of v.0
                  v.1),
            ),
          )

      made : SourcesAfter (IsSourceOf q new_of) p.files q.files own.sources
      made =
          sources_for (token i at) (IsSourceOf q new_of) 0 p.files q.files own.sources own.all (by_token i at p q a.named.parsed a.named.file) one_source

      abbrev trees : List SourceFile → List FileTree
      trees fs = map (λ (f : SourceFile). f.tree) fs

      abbrev new_object : Object
      new_object = object_of made.sources q.path (package_name q.files) own.imports (function_names q.path q.files) (trees q.files)

      functions_here : function_names q.path q.files ≡ function_names p.path p.files
      functions_here = ap (λ k. function_names k q.files) same_path ∙ own_files.functions

      same_object : new_object ≡ o
      same_object =
          ap (λ k. object_of made.sources k (package_name q.files) own.imports (function_names q.path q.files) (trees q.files)) same_path
          ∙ ap₂ (λ n fs. object_of made.sources p.path n own.imports fs (trees q.files)) a.keeps.name functions_here
          ∙ objects_renumber (trees p.files) (trees q.files) own.sources made.sources made.by p.path (package_name p.files) own.imports
          (function_names p.path p.files)
          ∙ sym own.is_object

      own_text : HasObjectText x known path (object_text (type_name files_of) o)
      own_text = record {
        files_of = new_of;
        object = new_object;
        has = record {
          checked = q;
          is_package = now;
          of_path = same_path ∙ of_path;
          are_files = are_files;
          is_object = record {
            sources = made.sources;
            all = made.all;
            made_of = made.made;
            imports = own.imports;
            are_imports = imports_after i at p q a.named a.literals own.imports own.are_imports;
            is_object = refl;
          };
        };
        printed = same_text ∙ ap (object_text (type_name new_of)) (sym same_object);
      }

    text_after : HasObjectText x known path (object_text (type_name files_of) o)
    text_after = elim (cases_bytes has.checked.path p.path) [
      | inl same ↦
          let whole : has.checked ≡ p = one_package w known has.checked p has.is_package h.was same in
          own_text (subst (λ (y : Package). IsObjectOf y files_of o) whole has.is_object) (sym same ∙ has.of_path)
      | inr away ↦ other_text away
    ]

pub gained_names_keep_objects : GainedNamesKeepObjects
gained_names_keep_objects w x sound sound_now known right right_now number p q h path text t =
    subst (HasObjectText x known path) (sym t.printed)
    (text_after w x sound sound_now known right right_now number p q h path t.files_of t.object t.has)
