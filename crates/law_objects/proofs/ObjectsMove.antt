-- The object of a package after a plain rename is the old one with the names that the rename replaces.
use Rattle.std.proofs.Common.{ℕ, zero, suc, ◌≡◌, ◌==◌, ◌+◌, inl, inr, Bool, true, false, if◌then◌else◌, List, [], ◌∷◌, ◌++◌, Option, Some, None}
use Rattle.std.proofs.Common.{option_map, map, length, refl, ap, sym, subst, ◌∙◌, arith}
use Rattle.std.specs.Option.{option_flatten}
use Rattle.std.specs.Prelude.{slice_get, Contains}
use Rattle.std.proofs.lemmas.List.{map-append}
use Rattle.std.specs.List.{flat_map}
use Rattle.std.proofs.Math.Path.{ap₂, fun_ext}
use Rattle.std.proofs.lemmas.Option.{none-some, same_Some, slice_get-map}
use Rattle.base_lemmas.proofs.Elements.{is_mapped}
use Rattle.base_edits.proofs.Held.{mapped_from}
use Rattle.base_edits.specs.EditSet.{FileChanges, edited, change_of}
use Rattle.base_edits.specs.Moved.{edits_by}
use Rattle.base_edits.specs.RevisionsOfEdits.{revision_of}
use Rattle.base_files.specs.Packages.{package_files}
use Rattle.base_files.specs.Workspace.{Workspace}
use Rattle.go_ast.specs.SourceFile.{SourceFile, FileParts, source_of}
use Rattle.go_ast.specs.Tree.{FileTree, Item, MethodTree, BodyTree, Other, Struct, Interface}
use Rattle.types_expr.specs.declared.symbol.Symbol.{Symbol}
use Rattle.types_declared.specs.Files.{package_name}
use Rattle.types_declared.specs.Package.{Package, PlacedType, PlacedFunction, declared_types, declared_functions}
use Rattle.types_info.proofs.DeclKinds.{Holds}
use Rattle.workspace_graph.specs.Packages.{ImportsPath}
use Rattle.workspace_graph.specs.Parsed.{AreParsed}
use Rattle.workspace_check.specs.FaultLists.{ListsFaults}
use Rattle.workspace_check.specs.Earlier.{HaveSameImports}
use Rattle.workspace_check.specs.Verdicts.{Verdicts, AreVerdicts, AreVerdictsBelow, BuildsOn}
use Rattle.workspace_check.proofs.Closed.{to_package}
use Rattle.workspace_check.proofs.PackageFiles.{at_rank}
use Rattle.workspace_check.proofs.OnePackage.{all_read, one_sources}
use Rattle.workspace_check.proofs.OneVerdict.{right_below}
use Rattle.workspace_check.proofs.SameImports.{imports_back, closed_by}
use Rattle.refs_binding.specs.declared.declaration.Declaration.{Declaration}
use Rattle.refs_binding.specs.Uses.{IsCheckedPackage}
use Rattle.refs_lookup.proofs.OnePlace.{same_files}
use Rattle.build_object.specs.Lines.{FunctionName, GlobalName, Initializer, Method}
use Rattle.build_object.specs.Names.{name_of_type, type_names, is_initializer, function_called, initializers_with, functions_behind, function_names}
use Rattle.build_object.specs.Names.{type_positions, field_positions, type_name, function_name, position_of_field, asked_names_of, asked_by_body, asked_if}
use Rattle.build_object.specs.Names.{asked_in_file, asked_names_by, asked_names_in, all_asked_names, name_of_asked, names_of_fields, spelled_in}
use Rattle.build_object.specs.Objects.{Object, object_of}
use Rattle.build_object.specs.ObjectText.{object_text}
use Rattle.build_object.specs.Source.{Source}
use Rattle.build_object.specs.Sources.{IsSourceOf, AreImports}
use Rattle.build_unit.specs.Units.{AreFilesSeen, within, beyond, AreFilesBelow}
use Rattle.law_faultless.specs.Worlds.{HaveWorlds}
use Rattle.law_faultless.proofs.PackageWorlds.{have_all_worlds}
use Rattle.law_changed_types.specs.SameBindings.{trees_of}
use Rattle.law_changed_types.proofs.Listed.{same_types, same_functions}
use Rattle.law_renamed_workspaces.specs.Harmless.{IsHarmless}
use Rattle.law_renamed_workspaces.specs.Renames.{IsPlainRename}
use Rattle.law_renamed_workspaces.proofs.Literals.{imports_stay, imports_were}
use Rattle.law_renamed_workspaces.proofs.NameEdits.{ranked}
use Rattle.law_renamed_workspaces.proofs.Packages.{package_there, new_parts, new_trees, same_imports}
use Rattle.law_renamed_workspaces.proofs.Replaced.{are, is_file}
use Rattle.law_renamed_workspaces.proofs.SeenAfter.{seen_follow}
use Rattle.law_renamed_workspaces.proofs.OwnNames.{own_renames}
use Rattle.law_renamed_workspaces.proofs.RenamedScopesRenamed.{others_stay}
use Rattle.law_renamed_workspaces.specs.VerdictsStay.{IsPackageAfter, IsMovedVerdict}
use Rattle.law_renamed_workspaces.proofs.AlongImports as along_imports
use Rattle.law_renamed_workspaces.proofs.Laws.{exported, no_fault_by, whole}
use Rattle.law_renamed_workspaces.proofs.Laws as laws
use Rattle.law_renamed_workspaces.proofs.OuterFaults.{name_stays}
use Rattle.law_objects.specs.Objects.{HasObject, HasObjectText, ReplacesNames}
use Rattle.law_objects.specs.Replaced.{Replaced, object_by, text_by}
use Rattle.law_objects.proofs.DeclarationsBy.{object_with}
use Rattle.law_objects.proofs.NamesMoved.{AreNames, AskedMoves, MovesNames, asked_renamed}
use Rattle.law_objects.proofs.NewNames.{no_name}
use Rattle.law_objects.proofs.Sourced.{files_now, files_were, new, is_new, is_by}
use Rattle.law_objects.specs.SourcesBy.{AreSourcesBy, IsSourceBy, a_source, no_tree}

-- The names of the declarations of files.

record FilesMove (r : Replaced) (path : List ℕ) (files now : List SourceFile) : Type 0 where
  types : type_names path now ≡ map r.global (type_names path files)
  functions : function_names path now ≡ map r.function (function_names path files)
  positions : field_positions now ≡ field_positions files
  asked : all_asked_names path now ≡ map (option_map r.function) (all_asked_names path files)

-- What interfaces ask for.

module _ (r : Replaced) (path : List ℕ) (files now : List SourceFile) where
  -- by token

  methods_move : (was new : GlobalName) (file : ℕ) (ms : List (Item MethodTree)) →
      ((i : Item MethodTree) → Holds ms i → r.function (Method was (spelled_in files file i.value.name)) ≡ Method new (spelled_in now file i.value.name)) →
      asked_names_of new now file ms ≡ map (asked_renamed r) (asked_names_of was files file ms)
  methods_move was new file [] each = refl
  methods_move was new file (m ∷ ms) each =
      ap₂ (λ name rest. record { place = m.value.name; name = name } ∷ rest) (sym (each m (inl refl))) (methods_move was new file ms (λ i h. each i (inr h)))

  body_asks : (t : PlacedType) (b : BodyTree) → t.spec.body ≡ b → AskedMoves r path files now t →
      asked_by_body path now t b ≡ map (asked_renamed r) (asked_by_body path files t b)
  body_asks t (Other x) e each = refl
  body_asks t (Struct k o xs c) e each = refl
  body_asks t (Interface k o ms c) e each = methods_move (name_of_type path files t) (name_of_type path now t) t.file ms (each k o c ms e)

  asks_if : (one : Bool) (t : PlacedType) → AskedMoves r path files now t →
      (if one then asked_by_body path now t t.spec.body else []) ≡ map (asked_renamed r) (if one then asked_by_body path files t t.spec.body else [])
  asks_if true t each = body_asks t t.spec.body refl each
  asks_if false t each = refl

  types_ask : (file : ℕ) (ts : List PlacedType) → ((t : PlacedType) → Holds ts t → AskedMoves r path files now t) →
      flat_map (asked_if path now file) ts ≡ map (asked_renamed r) (flat_map (asked_if path files file) ts)
  types_ask file [] each = refl
  types_ask file (t ∷ ts) each =
      ap₂ (λ a rest. a ++ rest) (asks_if (t.file == file) t (each t (inl refl))) (types_ask file ts (λ x h. each x (inr h)))
      ∙ sym (map-append (asked_renamed r) (asked_if path files file t) (flat_map (asked_if path files file) ts))

  -- by rank

  fields_unnamed : (ns : List (Item ℕ)) → map (λ (i : Item ℕ). no_name i) ns ≡ map (option_map r.function) (map (λ (i : Item ℕ). no_name i) ns)
  fields_unnamed [] = refl
  fields_unnamed (n ∷ ns) = ap (λ rest. None ∷ rest) (fields_unnamed ns)

  methods_named : (was new : GlobalName) (file : ℕ) (ms : List (Item MethodTree)) →
      ((i : Item MethodTree) → Holds ms i → r.function (Method was (spelled_in files file i.value.name)) ≡ Method new (spelled_in now file i.value.name)) →
      map (λ (i : Item MethodTree). Some (Method new (spelled_in now file i.value.name))) ms
      ≡ map (option_map r.function) (map (λ (i : Item MethodTree). Some (Method was (spelled_in files file i.value.name))) ms)
  methods_named was new file [] each = refl
  methods_named was new file (m ∷ ms) each =
      ap₂ (λ name rest. Some name ∷ rest) (sym (each m (inl refl))) (methods_named was new file ms (λ i h. each i (inr h)))

  body_names : (t : PlacedType) (b : BodyTree) → t.spec.body ≡ b → AskedMoves r path files now t →
      asked_names_by path now t b ≡ map (option_map r.function) (asked_names_by path files t b)
  body_names t (Other x) e each = refl
  body_names t (Struct k o xs c) e each = fields_unnamed (names_of_fields xs)
  body_names t (Interface k o ms c) e each = methods_named (name_of_type path files t) (name_of_type path now t) t.file ms (each k o c ms e)

  types_name : (ts : List PlacedType) → ((t : PlacedType) → Holds ts t → AskedMoves r path files now t) →
      flat_map (asked_names_in path now) ts ≡ map (option_map r.function) (flat_map (asked_names_in path files) ts)
  types_name [] each = refl
  types_name (t ∷ ts) each =
      ap₂ (λ a rest. a ++ rest) (body_names t t.spec.body refl (each t (inl refl))) (types_name ts (λ x h. each x (inr h)))
      ∙ sym (map-append (option_map r.function) (asked_names_in path files t) (flat_map (asked_names_in path files) ts))

flat_by : {X Y : Type 0} (g : X → Y) (o : Option (Option X)) → option_flatten (option_map (option_map g) o) ≡ option_map g (option_flatten o)
flat_by g None = refl
flat_by g (Some None) = refl
flat_by g (Some (Some x)) = refl

types_move : (r : Replaced) (path : List ℕ) (files now : List SourceFile) (ts : List PlacedType) →
    ((t : PlacedType) → Holds ts t → r.global (name_of_type path files t) ≡ name_of_type path now t) →
    map (name_of_type path now) ts ≡ map r.global (map (name_of_type path files) ts)
types_move r path files now [] each = refl
types_move r path files now (t ∷ ts) each =
    ap₂ (λ a rest. a ∷ rest) (sym (each t (inl refl))) (types_move r path files now ts (λ u h. each u (inr h)))

function_moves : (r : Replaced) → AreNames r → (path : List ℕ) (k : ℕ) (old now : FunctionName) (b : Bool) →
    (b ≡ false → r.function old ≡ now) →
    (if b then Initializer path k else now) ≡ r.function (if b then Initializer path k else old)
function_moves r names path k old now true e = sym (names.initial path k)
function_moves r names path k old now false e = sym (e refl)

functions_move : (r : Replaced) → AreNames r → (path : List ℕ) (files now : List SourceFile) (k : ℕ) (fs : List PlacedFunction) →
    ((f : PlacedFunction) → Holds fs f → is_initializer now f ≡ is_initializer files f) →
    ((f : PlacedFunction) → Holds fs f → is_initializer files f ≡ false → r.function (function_called path files f) ≡ function_called path now f) →
    functions_behind path now k fs ≡ map r.function (functions_behind path files k fs)
functions_move r names path files now k [] inits each = refl
functions_move r names path files now k (f ∷ fs) inits each =
    let same = inits f (inl refl) in
    ap₂ (λ a rest. a ∷ rest)
    (ap (λ (b : Bool). if b then Initializer path k else function_called path now f) same
    ∙ function_moves r names path k (function_called path files f) (function_called path now f) (is_initializer files f) (each f (inl refl)))
    (ap (λ (b : Bool). functions_behind path now (if b then k + 1 else k) fs) same
    ∙ functions_move r names path files now (initializers_with files k f) fs (λ u h. inits u (inr h)) (λ u h. each u (inr h)))

-- the sources of files, one by one

record NewSources (r : Replaced) (Q : ℕ → SourceFile → Source → Type 0) (fs gs : List SourceFile) (ss : List Source) : Type 0 where
  sources : List Source
  all : length sources ≡ length gs
  made : (k : ℕ) (g : SourceFile) (t : Source) → slice_get gs k ≡ Some g → slice_get sources k ≡ Some t → Q k g t
  by : AreSourcesBy r (map (λ (f : SourceFile). f.tree) fs) ss sources

new_sources_for : (r : Replaced) (Q : ℕ → SourceFile → Source → Type 0) (fs gs : List SourceFile) (ss : List Source) → length ss ≡ length fs →
    length gs ≡ length fs →
    ((k : ℕ) (f g : SourceFile) (t : Source) → slice_get fs k ≡ Some f → slice_get gs k ≡ Some g → slice_get ss k ≡ Some t →
    (z : Source) × (Q k g z × IsSourceBy r f.tree t z)) → NewSources r Q fs gs ss
new_sources_for r Q [] [] ss e h each = record { sources = []; all = refl; made = λ k g t at there. absurd (none-some t there); by = no_tree }
new_sources_for r Q [] (g ∷ gs) ss e h each = let z : ⊥ = omega (arith, h) in absurd z
new_sources_for r Q (f ∷ fs) [] ss e h each = let z : ⊥ = omega (arith, h) in absurd z
new_sources_for r Q (f ∷ fs) (g ∷ gs) [] e h each = let z : ⊥ = omega (arith, e) in absurd z
new_sources_for r Q (f ∷ fs) (g ∷ gs) (s ∷ ss) e h each =
    let own = each 0 f g s refl refl refl in
    let rest = new_sources_for r (λ k. Q (suc k)) fs gs ss (let z : length ss ≡ length fs = omega (arith, e) in z)
    (let z : length gs ≡ length fs = omega (arith, h) in z) (λ k. each (suc k)) in
    record {
      sources = own.0 ∷ rest.sources;
      all = ap suc rest.all;
      made = made_at own.0 own.1.0 rest.sources rest.made;
      by = a_source own.1.1 rest.by;
    }
  where
    made_at : (z : Source) → Q 0 g z → (zs : List Source) →
        ((k : ℕ) (x : SourceFile) (t : Source) → slice_get gs k ≡ Some x → slice_get zs k ≡ Some t → Q (suc k) x t) →
        (k : ℕ) (x : SourceFile) (t : Source) → slice_get (g ∷ gs) k ≡ Some x → slice_get (z ∷ zs) k ≡ Some t → Q k x t
    made_at z is zs later zero x t at there = subst (λ y. Q 0 y t) (same_Some g x at) (subst (Q 0 g) (same_Some z t there) is)
    made_at z is zs later (suc k) x t at there = later k x t at there

sized : (fs gs : List SourceFile) → trees_of gs ≡ trees_of fs → length gs ≡ length fs
sized [] [] e = refl
sized [] (g ∷ gs) e = let z : ⊥ = cc in absurd z
sized (f ∷ fs) [] e = let z : ⊥ = cc in absurd z
sized (f ∷ fs) (g ∷ gs) e = ap suc (sized fs gs (tails e))
  where
    tails : {X : Type 0} {a b : X} {xs ys : List X} → a ∷ xs ≡ b ∷ ys → xs ≡ ys
    tails same = cc

module _ (w : Workspace) (before after : Verdicts) (d : Declaration) (name : List ℕ) (s : FileChanges) (plain : IsPlainRename w before d name s)
    (right : AreVerdicts (edited s w) after) (none : IsHarmless w before (revision_of w s)) where
  abbrev x : Workspace
  x = edited s w

  same : HaveSameImports w x
  same = same_imports w before d name s plain

  sound_now : ListsFaults x []
  sound_now = whole w before after d name s plain right none

  -- the package after the rename

  module _ (p : Package) (was : IsCheckedPackage w before p) where
    pub right_p : AreVerdictsBelow x p.path after
    right_p = right_below x after right p.path

    pub moved_p : (o : List ℕ) → BuildsOn w p.path o → IsMovedVerdict w before after (revision_of w s) o
    moved_p o on = laws.each w before after d name s plain right none o (to_package w p.path o on.imported)

    abbrev pub next : Package
    next = along_imports.q own_renames others_stay seen_follow exported no_fault_by w before after d name s plain none p was right_p moved_p

    abbrev found_after : IsPackageAfter w before after s p next
    found_after = along_imports.here own_renames others_stay seen_follow exported no_fault_by w before after d name s plain none p was right_p moved_p

    abbrev pub is_after : IsPackageAfter w before after s p next
    is_after = record {
      was = was;
      is = found_after.is;
      relaid = found_after.relaid;
      bound = found_after.bound;
      seen = found_after.seen;
    }

    abbrev ts : List FileParts
    ts = was.is_checked.files

    same_clause : package_name next.files ≡ package_name p.files
    same_clause =
        ap package_name (files_now w before after d name s plain none p next is_after) ∙ name_stays w before d name s plain p was

    -- its imports

    source_of_part : (t : FileParts) → Contains ts t → (k : ℕ) × (slice_get p.files k ≡ Some (source_of t))
    source_of_part t has =
        ranked p.files (source_of t)
        (subst (λ fs. Contains fs (source_of t)) (sym (same_files w before p.path p was.is_checked)) (is_mapped source_of was.is_checked.files t has))

    new_parts_of : next.files ≡ map source_of (map (new_parts s) ts)
    new_parts_of = files_now w before after d name s plain none p next is_after

    import_stays : (path : List ℕ) (f : SourceFile) → Contains p.files f → ImportsPath f path → (g : SourceFile) × (Contains next.files g × ImportsPath g path)
    import_stays path f has h =
        let t = mapped_from source_of ts f (subst (λ fs. Contains fs f) (same_files w before p.path p was.is_checked) has) in
        let k = source_of_part t.0 t.1 in
        let old = source_of t.0 in
        let now = source_of (new_parts s t.0) in (
          now,
          (
            subst (λ fs. Contains fs now) (sym new_parts_of)
                (is_mapped source_of (map (new_parts s) ts) (new_parts s t.0) (is_mapped (new_parts s) ts t.0 t.1)),
            imports_stay old (edits_by (change_of s old.path)) (is_file w before d name s plain p was k.0 old k.1)
                (are w before d name s plain p was k.0 old k.1) path (subst (λ z. ImportsPath z path) (sym t.2) h),
          ),
        )

    import_was : (path : List ℕ) (g : SourceFile) → Contains next.files g → ImportsPath g path → (f : SourceFile) × (Contains p.files f × ImportsPath f path)
    import_was path g has h =
        let u = mapped_from source_of (map (new_parts s) ts) g (subst (λ fs. Contains fs g) new_parts_of has) in
        let t = mapped_from (new_parts s) ts u.0 u.1 in
        let k = source_of_part t.0 t.1 in
        let old = source_of t.0 in
        let same_file : g ≡ source_of (new_parts s t.0) = sym u.2 ∙ ap source_of (sym t.2) in (
          old,
          (
            at_rank p.files k.0 old k.1,
            imports_were old (edits_by (change_of s old.path)) (is_file w before d name s plain p was k.0 old k.1)
                (are w before d name s plain p was k.0 old k.1) path (subst (λ z. ImportsPath z path) same_file h),
          ),
        )

    imports_now : (imports : List (List ℕ)) → AreImports p.files imports → AreImports next.files imports
    imports_now imports h = record {
      each = λ path. (
        (λ c. (let f = (h.each path).0 c in import_stays path f.0 f.1.0 f.1.1)),
        (λ c. (h.each path).1 (import_was path c.0 c.1.0 c.1.1)),
      );
      sorted = h.sorted;
    }

  module _ (r : Replaced) (names : AreNames r) (moves : (p : Package) (was : IsCheckedPackage w before p) → MovesNames r p (next p was)) where
    files_move : (p : Package) (was : IsCheckedPackage w before p) → FilesMove r p.path p.files (next p was).files
    files_move p was =
        let q = next p was in
        let m = moves p was in
        let trees = (is_after p was).relaid.trees in
        record {
          types =
              ap (λ ts. map (name_of_type p.path q.files) ts) (same_types p.files q.files trees)
              ∙ types_move r p.path p.files q.files (declared_types p.files) m.types;
          functions =
              ap (λ fs. functions_behind p.path q.files 0 fs) (same_functions p.files q.files trees)
              ∙ functions_move r names p.path p.files q.files 0 (declared_functions p.files) m.initial m.functions;
          positions = ap (λ ts. flat_map type_positions ts) (same_types p.files q.files trees);
          asked =
              ap (λ ts. flat_map (asked_names_in p.path q.files) ts) (same_types p.files q.files trees)
              ∙ types_name r p.path p.files q.files (declared_types p.files) m.asked;
        }

    asks_move : (p : Package) (was : IsCheckedPackage w before p) (k : ℕ) →
        asked_in_file (next p was).path (next p was).files k ≡ map (asked_renamed r) (asked_in_file p.path p.files k)
    asks_move p was k =
        let q = next p was in
        let stays = (is_after p was).relaid in
        ap (λ z. asked_in_file z q.files k) stays.path
        ∙ ap (λ ts. flat_map (asked_if p.path q.files k) ts) (same_types p.files q.files stays.trees)
        ∙ types_ask r p.path p.files q.files k (declared_types p.files) (moves p was).asked

    -- the files in which the code of a package looks up names

    record NextFiles (path o : List ℕ) (files : List SourceFile) : Type 0 where
      now : List SourceFile
      seen : AreFilesSeen x path o now
      move : FilesMove r o files now

    next_files : (path o : List ℕ) (files : List SourceFile) → AreFilesSeen w path o files → NextFiles path o files
    next_files path o _ (beyond out) = record {
      now = [];
      seen = beyond (λ c. out (closed_by x w (imports_back w x same) path o c));
      move = record { types = refl; functions = refl; positions = refl; asked = refl };
    }
    next_files path o files (within c of) =
        let has = to_package w path o c in
        let p = package_there w plain.rename.sound before plain.rename.right o has in
        let was : IsCheckedPackage w before p.0 = p.1.0 in
        let q = next p.0 was in
        let parsed : AreParsed (package_files w o) was.is_checked.files [] =
        subst (λ k. AreParsed (package_files w k) was.is_checked.files []) p.1.1 was.is_checked.parsed in
        let read = all_read of.parsed parsed in
        let sources = one_sources (subst (λ fs. AreParsed (package_files w o) of.parts fs) read of.parsed) parsed in
        let same_old : files ≡ p.0.files = of.are_files ∙ sources ∙ sym (files_were w before after d name s plain none p.0 q (is_after p.0 was)) in
        record {
          now = q.files;
          seen = within (closed_by w x same path o c) (record {
            parts = map (new_parts s) was.is_checked.files;
            faulty = [];
            parsed =
                subst (λ k. AreParsed (package_files x k) (map (new_parts s) was.is_checked.files) []) p.1.1 (new_trees w before d name s plain p.0 was);
            are_files = files_now w before after d name s plain none p.0 q (is_after p.0 was);
          });
          move = subst (λ k. FilesMove r k files q.files) p.1.1
              (subst (λ fs. FilesMove r p.0.path fs q.files) (sym same_old) (files_move p.0 was));
        }

    module _ (path : List ℕ) (files_of : List ℕ → List SourceFile) (o : Object) (has : HasObject w before path files_of o) where
      abbrev p : Package
      p = has.checked

      abbrev was : IsCheckedPackage w before p
      was = has.is_package

      abbrev q : Package
      q = next p was

      abbrev here : IsPackageAfter w before after s p q
      here = is_after p was

      new_of : List ℕ → List SourceFile
      new_of k = (next_files path k (files_of k) (has.are_files k)).now

      move : (k : List ℕ) → FilesMove r k (files_of k) (new_of k)
      unfolding new_of
      move k = (next_files path k (files_of k) (has.are_files k)).move

      are_files : AreFilesBelow x path new_of
      unfolding new_of
      are_files k = (next_files path k (files_of k) (has.are_files k)).seen

      functions_are : (f : Symbol) → function_name new_of f ≡ option_map r.function (function_name files_of f)
      functions_are f =
          ap (λ fs. slice_get fs f.rank) (move f.package).functions
          ∙ slice_get-map r.function (function_names f.package (files_of f.package)) f.rank

      types_are : (t : Symbol) → type_name new_of t ≡ option_map r.global (type_name files_of t)
      types_are t =
          ap (λ fs. slice_get fs t.rank) (move t.package).types
          ∙ slice_get-map r.global (type_names t.package (files_of t.package)) t.rank

      positions_are : (f : Symbol) → position_of_field new_of f ≡ position_of_field files_of f
      positions_are f = ap (λ ns. slice_get ns f.rank) (move f.package).positions

      asked_are : (f : Symbol) → name_of_asked new_of f ≡ option_map r.function (name_of_asked files_of f)
      asked_are f =
          ap (λ ns. option_flatten (slice_get ns f.rank)) (move f.package).asked
          ∙ ap option_flatten (slice_get-map (option_map r.function) (all_asked_names f.package (files_of f.package)) f.rank)
          ∙ flat_by r.function (slice_get (all_asked_names f.package (files_of f.package)) f.rank)

      worlds : HaveWorlds q
      worlds = have_all_worlds x sound_now after right q here.is

      one_source : (k : ℕ) (f g : SourceFile) (t : Source) → slice_get p.files k ≡ Some f → slice_get q.files k ≡ Some g →
          slice_get has.is_object.sources k ≡ Some t → (z : Source) × (IsSourceOf q new_of k g z × IsSourceBy r f.tree t z)
      one_source k f g t at there got =
          let v = worlds k g there in
          let is = has.is_object.made_of k f t at got in (
            new w before after d name s plain none p q here k f g at there r (moves p was) files_of new_of
                functions_are positions_are asked_are (asks_move p was k) t is v.0 v.1,
            (
              is_new w before after d name s plain none p q here k f g at there r (moves p was) files_of new_of
                  functions_are positions_are asked_are (asks_move p was k) t is v.0 v.1,
              is_by w before after d name s plain none p q here k f g at there r (moves p was) files_of new_of
                  functions_are positions_are asked_are (asks_move p was k) t is v.0 v.1,
            ),
          )

      made : NewSources r (IsSourceOf q new_of) p.files q.files has.is_object.sources
      made =
          new_sources_for r (IsSourceOf q new_of) p.files q.files has.is_object.sources has.is_object.all
          (sized p.files q.files here.relaid.trees) one_source

      abbrev trees : List SourceFile → List FileTree
      trees fs = map (λ (f : SourceFile). f.tree) fs

      abbrev new_object : Object
      new_object = object_of made.sources q.path (package_name q.files) has.is_object.imports (function_names q.path q.files) (trees q.files)

      functions_here : function_names q.path q.files ≡ map r.function (function_names p.path p.files)
      functions_here = ap (λ k. function_names k q.files) here.relaid.path ∙ (files_move p was).functions

      is_new_object : new_object ≡ object_by r o
      is_new_object =
          ap (λ k. object_of made.sources k (package_name q.files) has.is_object.imports (function_names q.path q.files) (trees q.files)) here.relaid.path
          ∙ ap₂ (λ n fs. object_of made.sources p.path n has.is_object.imports fs (trees q.files)) (same_clause p was) functions_here
          ∙ ap (λ ts. object_of made.sources p.path (package_name p.files) has.is_object.imports (map r.function (function_names p.path p.files)) ts)
          here.relaid.trees
          ∙ object_with r names.plain (trees p.files) has.is_object.sources made.sources made.by p.path (package_name p.files) has.is_object.imports
          (function_names p.path p.files)
          ∙ ap (object_by r) (sym has.is_object.is_object)

      pub new_text : HasObjectText x after path (text_by r (type_name files_of) o)
      new_text = record {
        files_of = new_of;
        object = new_object;
        has = record {
          checked = q;
          is_package = here.is;
          of_path = here.relaid.path ∙ has.of_path;
          are_files = are_files;
          is_object = record {
            sources = made.sources;
            all = made.all;
            made_of = made.made;
            imports = has.is_object.imports;
            are_imports = imports_now p was has.is_object.imports has.is_object.are_imports;
            is_object = refl;
          };
        };
        printed =
            ap₂ (λ n u. object_text n u) (fun_ext (λ (t : Symbol). sym (types_are t))) (sym is_new_object);
      }

    pub replaces_names : ReplacesNames w before x after r
    replaces_names path files_of o has = new_text path files_of o has
