-- The object of a package, file by file.
use Rattle.std.proofs.Common.{ℕ, ◌≡◌, ◌+◌, ◌<◌, ◌∷◌, ◌++◌, [], List, inl, inr, length, length-append, append_assoc, append-nil, drop, take, ap, sym}
use Rattle.std.proofs.Common.{subst, refl, ◌∙◌, zero, suc, arith, map, Result, Ok, Err, OnOk, IfOk}
use Rattle.std.specs.Prelude.{Option, Some, None, option_map, slice_get}
use Rattle.std.specs.List.{flat_map}
use Rattle.std.specs.List.Sorted.{IsStrictlySortedBy}
use Rattle.std.specs.Global.{Vec}
use Rattle.std.proofs.lemmas.Bool.{cases_lt}
use Rattle.std.proofs.lemmas.Grind.{flat_map-append}
use Rattle.std.proofs.lemmas.List.{length-map}
use Rattle.std.proofs.lemmas.Option.{none-some, same_Some, slice_get-map, slice_get_within}
use Rattle.base_files.specs.Workspace.{path_cmp}
use Rattle.go_ast.specs.Tree.{FileTree}
use Rattle.go_ast.specs.SourceFile.{SourceFile, FileParts, source_of}
use Rattle.workspace_graph.specs.ImportPaths.{bytes_of_paths, ListsPaths, AnyImports}
use Rattle.types_declared.specs.Files.{package_name}
use Rattle.types_expr.specs.declared.found.Entering.{Entering}
use Rattle.types_expr.specs.declared.found.MemberUse.{MemberUse}
use Rattle.types_expr.specs.Found.{plain_entering, use_of}
use Rattle.types_declared.specs.Package.{Package}
use Rattle.types_info.specs.MemberUses.{AreEnterings, AreEnteringsIn, AreFileListsBelow, AreUsesIn, AreMemberUses, enterings_in, uses_in}
use Rattle.types_info.proofs.MeaningLists.{slice_get_some}
use Rattle.types_declared.proofs.DeclaredPaths.{get_before, get_last}
use Rattle.build_object.specs.declared.instructions.FunctionName as program
use Rattle.build_object.specs.declared.object_names.ObjectNames.{ObjectNames}
use Rattle.build_object.specs.Lines.{FunctionName}
use Rattle.build_object.specs.LineView.{function_of}
use Rattle.build_object.specs.Names.{function_names}
use Rattle.build_object.specs.Source.{Source}
use Rattle.build_object.specs.Sources.{AreImports, IsSourceOf, IsObjectText}
use Rattle.build_object.specs.Objects.{Object, ObjectDeclaration, declared_from, declared_in, names_behind_all, object_of}
use Rattle.build_object.specs.ObjectSteps.{names_behind_files, list_of_file, PrintsFiles, PrintsHead}
use Rattle.build_object.specs.ObjectText.{declaration_text, first_line, import_line}
use Rattle.build_object.specs.ObjectView.{HaveNames, PrintsFile}
use Rattle.build_object.specs.PackagesView.{type_in}
use Rattle.build_object.proofs.Imported.{imports_listed}
use Rattle.build_object.proofs.Sourced.{types_named}

-- several clauses of one call

pub ok_with : {X E : Type 0} (r : Result X E) {T : Type 0} {P Q R : X → Type 0} → ((x : X) → T → P x → Q x → R x) → OnOk r T → IfOk r P → IfOk r Q → IfOk r R
ok_with (Ok x) gives t p q = gives x t p q
ok_with (Err e) gives t p q = tt

pub on_ok_both : {X E : Type 0} (r : Result X E) {P Q R : Type 0} → (P → Q → R) → OnOk r P → OnOk r Q → OnOk r R
on_ok_both (Ok x) gives p q = gives p q
on_ok_both (Err e) gives p q = tt

-- one more file behind others

declared_more : (ss : List Source) (s : Source) (names : List FunctionName) (ts : List FileTree) (t : FileTree) → slice_get ts (length ss) ≡ Some t →
    declared_from (ss ++ (s ∷ [])) names ts ≡ declared_from ss names ts ++ declared_in s (names_behind_files names (take (length ss) ts)) t.decls
unfolding declared_from names_behind_files
declared_more [] s names [] t at = absurd (none-some t at)
declared_more [] s names (x ∷ ts) t at = append-nil (declared_in s names x.decls) ∙ ap (λ (y : FileTree). declared_in s names y.decls) (same_Some x t at)
declared_more (a ∷ ss) s names [] t at = absurd (none-some t at)
declared_more (a ∷ ss) s names (x ∷ ts) t at =
    ap (λ ds. declared_in a names x.decls ++ ds) (declared_more ss s (names_behind_all names x.decls) ts t at)
    ∙ sym (append_assoc (declared_in a names x.decls) (declared_from ss (names_behind_all names x.decls) ts)
    (declared_in s (names_behind_files (names_behind_all names x.decls) (take (length ss) ts)) t.decls))

after_more : (n : ℕ) (names : List FunctionName) (ts : List FileTree) (t : FileTree) → slice_get ts n ≡ Some t →
    names_behind_files names (take (n + 1) ts) ≡ names_behind_all (names_behind_files names (take n ts)) t.decls
unfolding names_behind_files
after_more n names [] t at = absurd (none-some t at)
after_more zero names (x ∷ ts) t at = ap (λ (y : FileTree). names_behind_all names y.decls) (same_Some x t at)
after_more (suc n) names (x ∷ ts) t at =
    let e : suc n + 1 ≡ suc (n + 1) = omega arith in
    ap (λ k. names_behind_files names (take k (x ∷ ts))) e ∙ after_more n (names_behind_all names x.decls) ts t at

-- the list of a file

module _ {X Y : Type 0} (view : X → Y) (Is : (file : ℕ) → List Y → Type 0) where
  list_at_file : (lists : List (Vec X)) (file : ℕ) (o : Option (Vec X)) → slice_get lists file ≡ o → file < length lists →
      slice_get (map (λ (v : Vec X). map view v.items) lists) file ≡ Some (map view (list_of_file o))
  list_at_file lists file None e lt = let x = slice_get_some lists file lt in absurd (none-some x.0 (sym e ∙ x.1))
  list_at_file lists file (Some v) e lt =
      slice_get-map (λ (v : Vec X). map view v.items) lists file ∙ ap (option_map (λ (v : Vec X). map view v.items)) e

  list_is : (n : ℕ) (lists : List (Vec X)) (file : ℕ) → AreFileListsBelow Is n (map (λ (v : Vec X). map view v.items) lists) → file < n →
      Is file (map view (list_of_file (slice_get lists file)))
  list_is n lists file are within =
      let size : length (map (λ (v : Vec X). map view v.items) lists) ≡ n = are.all in
      are.each file _ (list_at_file lists file (slice_get lists file) refl
      (let h = length-map lists (λ (v : Vec X). map view v.items) in omega arith))

-- no file yet, and one more

pub no_files : (p : Package) (members : List (Vec MemberUse)) (enterings : List (Vec Entering)) (packages : ObjectNames) (names : List program.FunctionName)
    (text : List ℕ) → PrintsFiles p 0 members enterings packages names 0 text text
unfolding declared_from names_behind_files
no_files p members enterings packages names text = record {
  sources = [];
  all = refl;
  made_of = λ files_of have are enter file f s at none. absurd (none-some s none);
  text = sym (append-nil text);
  others_are = refl;
  within = omega arith;
}

tree_at : (files : List SourceFile) (n : ℕ) (f : SourceFile) → slice_get files n ≡ Some f → slice_get (map (λ (g : SourceFile). g.tree) files) n ≡ Some f.tree
tree_at files n f at = slice_get-map (λ (g : SourceFile). g.tree) files n ∙ ap (option_map (λ (g : SourceFile). g.tree)) at

pub one_file_more : (p : Package) (n : ℕ) (members : List (Vec MemberUse)) (enterings : List (Vec Entering)) (packages : ObjectNames)
    (names : List program.FunctionName) (number others : ℕ) (old mid new : List ℕ) →
    PrintsFiles p n members enterings packages names number old mid →
    PrintsFile p n (list_of_file (slice_get members n)) (list_of_file (slice_get enterings n)) packages names number others mid new →
    PrintsFiles p (n + 1) members enterings packages names others old new
one_file_more p n members enterings packages names number others old mid new h k =
    let trees : List FileTree = map (λ (g : SourceFile). g.tree) p.files in
    let at : slice_get trees n ≡ Some k.file_at.tree = tree_at p.files n k.file_at k.in_file in
    let here : slice_get trees (length h.sources) ≡ Some k.file_at.tree = ap (slice_get trees) h.all ∙ at in
    let T : ObjectDeclaration → List ℕ = declaration_text (type_in packages) in
    let N : List FunctionName = map function_of names in
    let named : map function_of (drop number names) ≡ names_behind_files N (take (length h.sources) trees) = h.others_are ∙
    ap (λ m. names_behind_files N (take m trees)) (sym h.all) in
    let more : declared_from (h.sources ++ (k.source ∷ [])) N trees ≡ declared_from h.sources N trees ++ declared_in k.source
    (map function_of (drop number names)) k.file_at.tree.decls =
    declared_more h.sources k.source N trees k.file_at.tree here ∙
    ap (λ ns. declared_from h.sources N trees ++ declared_in k.source ns k.file_at.tree.decls) (sym named) in
    record {
      sources = h.sources ++ (k.source ∷ []);
      all = length-append h.sources (k.source ∷ []) ∙ ap (λ m. m + 1) h.all;
      made_of = λ files_of have are enter file f s in_file at_source. made files_of have are enter file f s in_file at_source;
      text = k.text ∙ (ap (λ z. z ++ flat_map T (declared_in k.source (map function_of (drop number names)) k.file_at.tree.decls)) h.text
          ∙ (append_assoc old (flat_map T (declared_from h.sources N trees))
          (flat_map T (declared_in k.source (map function_of (drop number names)) k.file_at.tree.decls))
          ∙ ap (λ z. old ++ z) (sym (flat_map-append T (declared_from h.sources N trees)
          (declared_in k.source (map function_of (drop number names)) k.file_at.tree.decls)) ∙ ap (flat_map T) (sym more))));
      others_are = k.others_are ∙ (ap (λ ns. names_behind_all ns k.file_at.tree.decls) h.others_are ∙ sym (after_more n N trees k.file_at.tree at));
      within = k.within;
    }
  where
    made : (files_of : List ℕ → List SourceFile) → HaveNames packages files_of → AreMemberUses p (map uses_in members) →
        AreEnterings p (map enterings_in enterings) → (file : ℕ) (f : SourceFile) (s : Source) → slice_get p.files file ≡ Some f →
        slice_get (h.sources ++ (k.source ∷ [])) file ≡ Some s → IsSourceOf p files_of file f s
    made files_of have are enter file f s in_file at_source = elim (cases_lt file n) [
      | inl lt ↦ h.made_of files_of have are enter file f s in_file (sym (get_before h.sources k.source file (subst (λ m. file < m) (sym h.all) lt)) ∙
          at_source)
      | inr ge ↦
          let bound : file < length (h.sources ++ (k.source ∷ [])) = slice_get_within (h.sources ++ (k.source ∷ [])) file s at_source in
          let size : length (h.sources ++ (k.source ∷ [])) ≡ n + 1 = length-append h.sources (k.source ∷ []) ∙ ap (λ m. m + 1) h.all in
          let same : file ≡ n = omega arith in
          let last : k.source ≡ s = same_Some k.source s (sym (get_last h.sources k.source) ∙
          (ap (slice_get (h.sources ++ (k.source ∷ []))) (h.all ∙ sym same) ∙ at_source)) in
          let mine : slice_get p.files n ≡ Some f = ap (slice_get p.files) (sym same) ∙ in_file in
          let alike : k.file_at ≡ f = same_Some k.file_at f (sym k.in_file ∙ mine) in
          let within : n < length p.files = slice_get_within p.files n k.file_at k.in_file in
          let found : IsSourceOf p files_of n k.file_at k.source = k.made_of files_of have
          (list_is use_of (AreUsesIn p) (length p.files) members n are within)
          (list_is plain_entering (AreEnteringsIn p) (length p.files) enterings n enter within) in
          subst (λ m. IsSourceOf p files_of m f s) (sym same)
          (subst (λ g. IsSourceOf p files_of n g s) alike (subst (IsSourceOf p files_of n k.file_at) last found))
    ]

-- the first lines

pub head_put : (p : Package) (files : List FileParts) (keys : List (Vec ℕ)) (old mid new : List ℕ) → p.files ≡ map source_of files →
    ListsPaths (AnyImports files) keys → IsStrictlySortedBy path_cmp (bytes_of_paths keys) →
    ((o : Object) → o.path ≡ p.path → o.name ≡ package_name p.files → mid ≡ old ++ first_line o) → new ≡ mid ++ flat_map import_line (bytes_of_paths keys) →
    PrintsHead p old new
head_put p files keys old mid new are holds sorted first e = record {
  imports = bytes_of_paths keys;
  are_imports = subst (λ fs. AreImports fs (bytes_of_paths keys)) (sym are) (imports_listed files keys holds sorted);
  text = λ o path name imports. e ∙ (ap (λ z. z ++ flat_map import_line (bytes_of_paths keys)) (first o path name)
      ∙ (append_assoc old (first_line o) (flat_map import_line (bytes_of_paths keys))
      ∙ ap (λ ps. old ++ (first_line o ++ flat_map import_line ps)) (sym imports)));
}

-- the whole text

pub whole_text : (p : Package) (members : List (Vec MemberUse)) (enterings : List (Vec Entering)) (packages : ObjectNames)
    (names : List program.FunctionName) (others : ℕ) (mid new : List ℕ) →
    map function_of names ≡ function_names p.path p.files →
    PrintsHead p [] mid → PrintsFiles p (length p.files) members enterings packages names others mid new →
    (files_of : List ℕ → List SourceFile) → AreMemberUses p (map uses_in members) → AreEnterings p (map enterings_in enterings) →
    HaveNames packages files_of → IsObjectText p files_of new
whole_text p members enterings packages names others mid new named head h files_of are enter have =
    let trees : List FileTree = map (λ (g : SourceFile). g.tree) p.files in
    let made : Object = object_of h.sources p.path (package_name p.files) head.imports (function_names p.path p.files) trees in
    record {
      object = made;
      of_package = record {
        sources = h.sources;
        all = h.all;
        made_of = λ file f s at source. h.made_of files_of have are enter file f s at source;
        imports = head.imports;
        are_imports = head.are_imports;
        is_object = refl;
      };
      printed = h.text ∙ (ap (λ z. z ++ flat_map (declaration_text (type_in packages)) (declared_from h.sources (map function_of names) trees))
          (head.text made refl refl refl)
          ∙ (append_assoc (first_line made) (flat_map import_line head.imports)
          (flat_map (declaration_text (type_in packages)) (declared_from h.sources (map function_of names) trees))
          ∙ (ap (λ ns. first_line made ++ (flat_map import_line head.imports ++ flat_map (declaration_text (type_in packages))
          (declared_from h.sources ns trees))) named
          ∙ ap (λ t. first_line made ++ (flat_map import_line head.imports ++ flat_map (declaration_text t) made.declarations))
          (types_named packages files_of have))));
    }
