-- The workspace in which an import got the name that it declares already: its files, its imports, and what its packages see.
use Rattle.std.proofs.Common.{ℕ, zero, suc, ◌≡◌, ◌&&◌, ◌==◌, ◌↔◌, inl, inr, true, List, [], ◌∷◌, ◌++◌, Option, Some, length, map, refl, sym, ap, ◌∙◌, subst}
use Rattle.std.specs.Prelude.{Contains, slice_get}
use Rattle.std.specs.Cmp.{tied_itself}
use Rattle.std.specs.Cmp.Lexicographic.{bytes_decides, pointwise}
use Rattle.std.specs.FinMap.{entries, get}
use Rattle.std.specs.List.{AllByRecursion}
use Rattle.std.specs.List.Sorted.{IsStrictlySortedBy}
use Rattle.std.specs.declared.cmp.Ordering.TheVariants.{Equal, Less}
use Rattle.std.proofs.Math.Path.{ap₂}
use Rattle.std.proofs.lemmas.Bool.{and_parts}
use Rattle.std.proofs.lemmas.Option.{get_or_from_slice_get, none-some, same_Some}
use Rattle.base_lemmas.proofs.Elements.{first_in, is_mapped, later_in}
use Rattle.base_files.specs.Packages.{is_go, is_of_package, package_files, package_paths}
use Rattle.base_files.specs.Path.{folder}
use Rattle.base_files.specs.Workspace.{Workspace, path_cmp}
use Rattle.base_files.proofs.WorkspaceLaws.{path_cmp_total}
use Rattle.base_edits.specs.Edits.{edited_text}
use Rattle.base_edits.specs.EditSet.{FileChanges, change_of, edited}
use Rattle.base_edits.specs.Moved.{edits_by}
use Rattle.base_edits.specs.declared.edit.Edit.{Edit}
use Rattle.base_edits.proofs.Entries.{get_entry}
use Rattle.base_edits.proofs.Held.{mapped_from}
use Rattle.go_scanner.specs.declared.piece.Piece.{Piece}
use Rattle.go_scanner.specs.Cuts.{bytes_of}
use Rattle.go_scanner.specs.CutText.{token_at, tokens_in}
use Rattle.go_scanner.specs.StringValues.{HasStringValue}
use Rattle.go_scanner.specs.Tokens.{semicolon}
use Rattle.go_scanner.specs.TokenValues.{IsStringClass}
use Rattle.go_ast.specs.SourceFile.{FileParts, IsSourceFile, SourceFile, source_of}
use Rattle.types_declared.proofs.ByteKeys.{cases_bytes}
use Rattle.types_declared.specs.Files.{HasLiteral}
use Rattle.types_declared.specs.Package.{ExportData}
use Rattle.workspace_graph.specs.FileImports.{import_literals}
use Rattle.workspace_graph.specs.Packages.{ImportsPath, IsParsed, PackageImports}
use Rattle.workspace_graph.specs.Parsed.{AreParsed, none, tree}
use Rattle.workspace_graph.proofs.OneFile.{one_file}
use Rattle.workspace_check.specs.Earlier.{HaveSameImports}
use Rattle.workspace_check.specs.Verdicts.{AreSeen, IsSeenAs, Verdicts, seen, unseen}
use Rattle.workspace_check.proofs.Importing.{literal_path}
use Rattle.workspace_check.proofs.Members.{passes}
use Rattle.workspace_check.proofs.SameImports.{builds_by, imports_back}
use Rattle.refactor_rename.proofs.Sources.{path_of}
use Rattle.law_renamed_workspaces.proofs.EditedEntries.{files_edited, new_entry, paths_edited}
use Rattle.law_rename.specs.Around.{from_on}
use Rattle.law_gained_names.specs.GainedName.{ImportGainsName}
use Rattle.law_gained_names.proofs.Values.{values}
use Rattle.law_gained_names.specs.FilesInTwoSteps.{EditsOneFile}
use Rattle.law_gained_names.proofs.BareImportsLiterals.{literals_around}

-- a path comes before itself nowhere
not_before : (a b : List ℕ) → path_cmp a b ≡ Less → a ≡ b → ⊥
not_before a b less same =
    let wrong : Less ≡ Equal = sym less ∙ ap (path_cmp a) (sym same) ∙ tied_itself path_cmp_total a in
    let z : ⊥ = cc in z

-- the files of a package around one of them

below_at : (a : List ℕ) (first : List FileParts) (t : FileParts) (rest : List FileParts) →
    AllByRecursion (λ q. path_cmp a q ≡ Less) (map path_of (first ++ t ∷ rest)) → path_cmp a t.path ≡ Less
below_at a [] t rest all = all.0
below_at a (u ∷ first) t rest all = below_at a first t rest all.1

pub split_at : {X : Type 0} (xs : List X) (n : ℕ) (x : X) → slice_get xs n ≡ Some x →
    (first : List X) × ((rest : List X) × ((xs ≡ first ++ x ∷ rest) × (length first ≡ n)))
split_at [] n x e = absurd (none-some x e)
split_at (y ∷ ys) zero x e = ([], (ys, (ap (λ z. z ∷ ys) (same_Some y x e), refl)))
split_at (y ∷ ys) (suc n) x e =
    let r = split_at ys n x e in
    (y ∷ r.0, (r.1.0, (ap (λ zs. y ∷ zs) r.1.1.0, ap suc r.1.1.1)))

module _ (before after : FileParts) (edits : List Edit) (s : FileChanges) (one : EditsOneFile s before.path edits) (path : after.path ≡ before.path)
    (is : IsSourceFile (source_of after)) (text : edited_text edits before.cut.text ≡ after.cut.text) where
  -- an entry of another file stays
  stays : (e : List ℕ × List ℕ) → (e.0 ≡ before.path → ⊥) → new_entry s e ≡ e
  stays e other = ap (λ es. (e.0, edited_text es e.1)) (one.others e.0 other)

  -- the entry of the file has its new text
  changes : (e : List ℕ × List ℕ) → IsParsed e.0 e.1 (source_of before) → IsParsed (new_entry s e).0 (new_entry s e).1 (source_of after)
  changes e was = record {
    of_path = path ∙ was.of_path;
    of_text =
        sym text
        ∙ ap₂ (λ es x. edited_text es x)
        (sym (ap (λ q. edits_by (change_of s q)) (sym was.of_path) ∙ one.here)) was.of_text;
    is_file = is;
  }

  others_parsed : {es : List (List ℕ × List ℕ)} {ts : List FileParts} → AreParsed es ts [] →
      AllByRecursion (λ q. path_cmp before.path q ≡ Less) (map path_of ts) → AreParsed (map (new_entry s) es) ts []
  others_parsed none below = none
  others_parsed (tree {e = e} {t = t} own more) below =
      tree
      (subst (λ (x : List ℕ × List ℕ). IsParsed x.0 x.1 (source_of t))
      (sym (stays e (λ same. not_before before.path t.path below.0 (sym (own.of_path ∙ same))))) own)
      (others_parsed more below.1)

  pub all_parsed : (first rest : List FileParts) {es : List (List ℕ × List ℕ)} → AreParsed es (first ++ before ∷ rest) [] →
      IsStrictlySortedBy path_cmp (map path_of (first ++ before ∷ rest)) → AreParsed (map (new_entry s) es) (first ++ after ∷ rest) []
  unfolding IsStrictlySortedBy
  all_parsed [] rest (tree {e = e} own more) sorted = tree (changes e own) (others_parsed more sorted.0)
  all_parsed (t ∷ first) rest (tree {e = e} own more) sorted =
      tree
      (subst (λ (x : List ℕ × List ℕ). IsParsed x.0 x.1 (source_of t))
      (sym (stays e (λ same. not_before t.path before.path (below_at t.path first before rest sorted.0) (own.of_path ∙ same)))) own)
      (all_parsed first rest more sorted.1)

  -- the workspace

  module _ (w : Workspace) where
    pub files_then : (p : List ℕ) → package_files (edited s w) p ≡ map (new_entry s) (package_files w p)
    files_then p = files_edited s one.none_added one.stay w p

    pub paths_then : package_paths (edited s w) ≡ package_paths w
    paths_then = paths_edited s one.none_added one.stay w

    all_stay : (es : List (List ℕ × List ℕ)) → ((e : List ℕ × List ℕ) → Contains es e → e.0 ≡ before.path → ⊥) → map (new_entry s) es ≡ es
    all_stay [] other = refl
    all_stay (e ∷ es) other =
        ap₂ (λ x xs. x ∷ xs) (stays e (other e (first_in e es))) (all_stay es (λ x has. other x (later_in e es x has)))

    pub of_folder : (p : List ℕ) (e : List ℕ × List ℕ) → Contains (package_files w p) e → folder e.0 ≡ p
    of_folder p e has =
        let test : (is_go e.0 && pointwise ◌==◌ (folder e.0) p) ≡ true = (passes (λ x. is_of_package p x.0) (entries w) e has).0 in
        (bytes_decides (folder e.0) p).0 (and_parts (is_go e.0) (pointwise ◌==◌ (folder e.0) p) test).1

    pub other_packages : (p : List ℕ) → (folder before.path ≡ p → ⊥) → package_files w p ≡ package_files (edited s w) p
    other_packages p other =
        sym (files_then p ∙ all_stay (package_files w p) (λ e has same. other (ap folder (sym same) ∙ of_folder p e has)))

    -- what packages import

    module _ (entry : List ℕ × List ℕ) (among : Contains (entries w) entry) (own : IsParsed entry.0 entry.1 (source_of before))
        (to : (q : List ℕ) → ImportsPath (source_of before) q → ImportsPath (source_of after) q)
        (from : (q : List ℕ) → ImportsPath (source_of after) q → ImportsPath (source_of before) q) where
      -- an entry of the same path is the same
      same_entry : (p : List ℕ) (e : List ℕ × List ℕ) → Contains (package_files w p) e → e.0 ≡ before.path → e ≡ entry
      same_entry p e has same =
          let there = (passes (λ x. is_of_package p x.0) (entries w) e has).1 in
          let paths : e.0 ≡ entry.0 = same ∙ own.of_path in
          let texts : e.1 ≡ entry.1 =
          same_Some e.1 entry.1 (sym (get_entry w e there) ∙ ap (get w) paths ∙ get_entry w entry among) in
          λ m. (paths m, texts m)

      pub imports_to : (p q : List ℕ) → PackageImports w p q → PackageImports (edited s w) p q
      imports_to p q i =
          let there : Contains (package_files (edited s w) p) (new_entry s i.entry) =
          subst (λ es. Contains es (new_entry s i.entry)) (sym (files_then p)) (is_mapped (new_entry s) (package_files w p) i.entry i.of_package) in
          elim (cases_bytes i.entry.0 before.path) [
            | inr other ↦ record {
              entry = new_entry s i.entry;
              of_package = there;
              file = i.file;
              parsed = subst (λ (x : List ℕ × List ℕ). IsParsed x.0 x.1 i.file) (sym (stays i.entry other)) i.parsed;
              imports = i.imports;
            }
            | inl same ↦
                let e = same_entry p i.entry i.of_package same in
                let was : IsParsed i.entry.0 i.entry.1 (source_of before) = subst (λ (x : List ℕ × List ℕ). IsParsed x.0 x.1 (source_of before)) (sym e) own in
                let file : i.file ≡ source_of before = one_file i.entry.0 i.entry.1 i.file (source_of before) i.parsed was in
                record {
                  entry = new_entry s i.entry;
                  of_package = there;
                  file = source_of after;
                  parsed = changes i.entry was;
                  imports = to q (subst (λ x. ImportsPath x q) file i.imports);
                }
          ]

      pub imports_from : (p q : List ℕ) → PackageImports (edited s w) p q → PackageImports w p q
      imports_from p q i =
          let old = mapped_from (new_entry s) (package_files w p) i.entry (subst (λ es. Contains es i.entry) (files_then p) i.of_package) in
          let parsed : IsParsed (new_entry s old.0).0 (new_entry s old.0).1 i.file =
          subst (λ (x : List ℕ × List ℕ). IsParsed x.0 x.1 i.file) (sym old.2) i.parsed in
          elim (cases_bytes old.0.0 before.path) [
            | inr other ↦ record {
              entry = old.0;
              of_package = old.1;
              file = i.file;
              parsed = subst (λ (x : List ℕ × List ℕ). IsParsed x.0 x.1 i.file) (stays old.0 other) parsed;
              imports = i.imports;
            }
            | inl same ↦
                let e = same_entry p old.0 old.1 same in
                let was : IsParsed old.0.0 old.0.1 (source_of before) = subst (λ (x : List ℕ × List ℕ). IsParsed x.0 x.1 (source_of before)) (sym e) own in
                let file : i.file ≡ source_of after =
                one_file (new_entry s old.0).0 (new_entry s old.0).1 i.file (source_of after) parsed (changes old.0 was) in
                record {
                  entry = old.0;
                  of_package = old.1;
                  file = source_of before;
                  parsed = was;
                  imports = from q (subst (λ x. ImportsPath x q) file i.imports);
                }
          ]

      pub same_imports : HaveSameImports w (edited s w)
      same_imports = record {
        paths = sym paths_then;
        imports = λ p q has. (imports_to p q, imports_from p q);
      }

      seen_then : (known : Verdicts) (p q : List ℕ) (n : Option (List ℕ)) (x : ExportData) → IsSeenAs w known p q n x → IsSeenAs (edited s w) known p q n x
      seen_then known p q _ _ (seen on sound) = seen (builds_by w (edited s w) same_imports p q on) sound
      seen_then known p q _ _ (unseen faulty) =
          unseen (λ on. faulty (builds_by (edited s w) w (imports_back w (edited s w) same_imports) p q on))

      pub all_seen : (known : Verdicts) (p : List ℕ) (name_of : List ℕ → Option (List ℕ)) (export_data_of : List ℕ → ExportData) →
          AreSeen w known p name_of export_data_of → AreSeen (edited s w) known p name_of export_data_of
      all_seen known p name_of export_data_of are q = seen_then known p q (name_of q) (export_data_of q) (are q)

-- the imports of the file

literal_of_path : (f : SourceFile) (q : List ℕ) (i : ImportsPath f q) → HasLiteral f i.token q
literal_of_path f q i =
    let token : token_at f.cut i.token ≡ i.piece = get_or_from_slice_get (tokens_in f.cut) i.token i.piece (semicolon 0) i.at in
    record {
      is_string = subst (λ (x : Piece). IsStringClass x.class) (sym token) i.is_string;
      stands_for = subst (λ (x : Piece). HasStringValue (bytes_of f.cut.text x) q) (sym token) i.value;
    }

module _ (number : ℕ) (before after : FileParts) (g : ImportGainsName number before after) where
  literals_then : import_literals (source_of after).tree ≡ map (from_on number) (import_literals (source_of before).tree)
  literals_then =
      ap import_literals g.new_tree ∙ literals_around number g.around ∙ ap (λ t. map (from_on number) (import_literals t)) (sym g.old_tree)

  same_values : (n : ℕ) (q : List ℕ) → HasLiteral (source_of before) n q ↔ HasLiteral (source_of after) (from_on number n) q
  same_values n q = values g.put number g.may g.literal (source_of before) (source_of after) g.old_cut g.new_cut n q

  pub paths_to : (q : List ℕ) → ImportsPath (source_of before) q → ImportsPath (source_of after) q
  paths_to q i =
      literal_path (source_of after) (from_on number i.token) q
      (subst (λ ns. Contains ns (from_on number i.token)) (sym literals_then)
      (is_mapped (from_on number) (import_literals (source_of before).tree) i.token i.literal))
      ((same_values i.token q).0 (literal_of_path (source_of before) q i))

  pub paths_from : (q : List ℕ) → ImportsPath (source_of after) q → ImportsPath (source_of before) q
  paths_from q i =
      let old = mapped_from (from_on number) (import_literals (source_of before).tree) i.token (subst (λ ns. Contains ns i.token) literals_then i.literal) in
      literal_path (source_of before) old.0 q old.1
      ((same_values old.0 q).1 (subst (λ n. HasLiteral (source_of after) n q) (sym old.2) (literal_of_path (source_of after) q i)))
