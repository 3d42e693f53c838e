-- In a workspace without faults an import without a name can get the name that it declares already.
use Rattle.std.proofs.Common.{ℕ, ◌≡◌, ◌++◌, List, [], ◌∷◌, Some, None, map, refl, sym, ap, ◌∙◌, subst}
use Rattle.std.specs.Prelude.{Contains, slice_get}
use Rattle.std.specs.FinMap.{entries}
use Rattle.std.specs.List.Sorted.{IsStrictlySortedBy}
use Rattle.base_files.specs.Packages.{is_of_package, package_files}
use Rattle.base_files.specs.Path.{folder}
use Rattle.base_files.specs.Workspace.{Workspace, path_cmp}
use Rattle.base_edits.specs.Edits.{edited_text}
use Rattle.base_edits.specs.EditSet.{FileChanges, edited}
use Rattle.base_edits.specs.declared.edit.Edit.{Edit}
use Rattle.go_ast.specs.SourceFile.{FileParts, IsSourceFile, SourceFile, offset_of, source_of}
use Rattle.go_ast.specs.Tree.{ImportTree}
use Rattle.go_scope.specs.declared.model.Position.{Position}
use Rattle.law_tokens.specs.Covered.{AreSourceFiles}
use Rattle.law_tokens.proofs.HeldBytes.{source_file_at}
use Rattle.law_tokens.proofs.OwnPaths.{package_sources}
use Rattle.types_declared.specs.Files.{HasLiteral, imports_in}
use Rattle.types_declared.specs.Package.{Package}
use Rattle.types_info.specs.PackageOf.{IsPackageOf}
use Rattle.workspace_graph.specs.Packages.{ImportsPath, IsParsed}
use Rattle.workspace_graph.specs.Parsed.{AreParsed}
use Rattle.workspace_check.specs.FaultLists.{ListsFaults}
use Rattle.workspace_check.specs.Verdicts.{IsPackageIn, Verdicts}
use Rattle.workspace_check.proofs.Members.{passes}
use Rattle.workspace_check.proofs.PackageFiles.{entry_at}
use Rattle.refs_binding.specs.Uses.{IsCheckedPackage}
use Rattle.refactor_rename.specs.Replacements.{IsNameBefore}
use Rattle.refactor_rename.proofs.Sources.{path_of, trees_in_order}
use Rattle.law_rename.specs.MayGain.{inserted}
use Rattle.law_rename.specs.Named.{put_bytes}
use Rattle.law_gained_names.specs.NamedFiles.{NamedFilesExist}
use Rattle.law_gained_names.proofs.Named.{named_files_exist}
use Rattle.law_gained_names.specs.GainedName.{GainsOwnName, ImportGainsName}
use Rattle.law_gained_names.specs.NamedWorkspace.{HasGainedName}
use Rattle.law_gained_names.specs.FilesInTwoSteps.{EditsOneFile}
use Rattle.law_gained_names.specs.OwnName.{HasGainedBy, OwnNamesAreGained, PutsOwnName}
use Rattle.law_gained_names.proofs.OwnFile.{own_name}
use Rattle.law_gained_names.proofs.OwnImport.{import_spec, named, part, part_is, part_ranked, path}
use Rattle.law_gained_names.specs.BareImports.{IsIdentifierText}
use Rattle.law_gained_names.proofs.OwnName.{seen_text}
use Rattle.law_gained_names.proofs.OwnPackage.{new_package}
use Rattle.law_gained_names.proofs.OwnWorkspace.{all_parsed, all_seen, files_then, imports_to, of_folder, other_packages}
use Rattle.law_gained_names.proofs.OwnWorkspace.{paths_from, paths_to, same_imports, split_at}

-- The package and its workspace, after the file `t` became `after`.
module _ (w : Workspace) (known : Verdicts) (p : Package) (is : IsCheckedPackage w known p) (number : ℕ) (t after : FileParts) (edits : List Edit)
    (s : FileChanges) (one : EditsOneFile s t.path edits) (same_path : after.path ≡ t.path) (file : IsSourceFile (source_of after))
    (text : edited_text edits t.cut.text ≡ after.cut.text) (g : ImportGainsName number t after) (first rest : List FileParts)
    (parts : is.is_checked.files ≡ first ++ t ∷ rest) (entry : List ℕ × List ℕ) (of_package : Contains (package_files w p.path) entry)
    (own : IsParsed entry.0 entry.1 (source_of t)) where
  abbrev pub h : IsPackageIn w known p.path p
  h = is.is_checked

  sources : AreSourceFiles h.files
  sources = package_sources w p.path h.files h.parsed

  was_package : IsPackageOf p.path (first ++ t ∷ rest) h.name_of h.export_data_of p
  was_package = subst (λ ts. IsPackageOf p.path ts h.name_of h.export_data_of p) parts h.is_package

  new : (q : Package) × IsPackageOf p.path (first ++ after ∷ rest) h.name_of h.export_data_of q
  new =
      new_package number first rest t after g (subst AreSourceFiles parts sources) h.name_of was_package.is_laid.names
      was_package.is_laid.are_names p.path h.export_data_of

  among : Contains (entries w) entry
  among = (passes (λ x. is_of_package p.path x.0) (entries w) entry of_package).1

  its_folder : folder t.path ≡ p.path
  its_folder = ap folder own.of_path ∙ of_folder t after edits s one same_path file text w p.path entry of_package

  parsed : AreParsed (package_files (edited s w) p.path) (first ++ after ∷ rest) []
  parsed =
      subst (λ es. AreParsed es (first ++ after ∷ rest) [])
      (sym (files_then t after edits s one same_path file text w p.path))
      (all_parsed t after edits s one same_path file text first rest
      (subst (λ ts. AreParsed (package_files w p.path) ts []) parts h.parsed)
      (subst (λ ts. IsStrictlySortedBy path_cmp (map path_of ts)) parts (trees_in_order w p.path h.files h.parsed)))

  to : (q : List ℕ) → ImportsPath (source_of t) q → ImportsPath (source_of after) q
  to = paths_to number t after g

  from : (q : List ℕ) → ImportsPath (source_of after) q → ImportsPath (source_of t) q
  from = paths_from number t after g

  is_there : (q : Package) → IsPackageOf p.path (first ++ after ∷ rest) h.name_of h.export_data_of q → IsPackageIn (edited s w) known p.path q
  is_there q is_package = record {
    files = first ++ after ∷ rest;
    parsed = parsed;
    name_of = h.name_of;
    export_data_of = h.export_data_of;
    are_seen = all_seen t after edits s one same_path file text w entry among own to from known p.path h.name_of h.export_data_of h.are_seen;
    is_package = is_package;
  }

  module _ (q : Package) (is_package : IsPackageOf p.path (first ++ after ∷ rest) h.name_of h.export_data_of q) (path : List ℕ)
      (imports : HasLiteral (source_of t) number path) (declares : h.name_of path ≡ Some g.put.name) where
    gains : GainsOwnName number p q
    gains = record {
      parsed = record {
        path = p.path;
        files = h.files;
        sources = sources;
        name_of = h.name_of;
        export_data_of = h.export_data_of;
        is_package = h.is_package;
      };
      first = first;
      before = t;
      after = after;
      rest = rest;
      files = parts;
      gains = g;
      is_package = is_package;
      path = path;
      imports = imports;
      declares = declares;
    }

    has_gained : HasGainedName w (edited s w) known number p q
    has_gained = record {
      imports = same_imports t after edits s one same_path file text w entry among own to from;
      paths = imports_to t after edits s one same_path file text w entry among own to from p.path;
      was = is;
      is = is_there q is_package;
      gains = gains;
      others = λ o other. other_packages t after edits s one same_path file text w o (λ same. other (sym same ∙ its_folder));
    }

    by_bytes : (put : List ℕ) → EditsOneFile s t.path (inserted (offset_of (source_of t) number) put ∷ []) → put_bytes g.put ≡ put →
        HasGainedBy w known s (source_of t) number put p q
    unfolding has_gained gains
    by_bytes put edits bytes = record { edits = edits; gained = has_gained; before = refl; path = same_path; bytes = bytes }

  pub gained_by_bytes : (path : List ℕ) → HasLiteral (source_of t) number path → h.name_of path ≡ Some g.put.name → (put : List ℕ) →
      EditsOneFile s t.path (inserted (offset_of (source_of t) number) put ∷ []) → put_bytes g.put ≡ put →
      (q : Package) × HasGainedBy w known s (source_of t) number put p q
  gained_by_bytes path imports declares put edits bytes = (new.0, by_bytes new.0 new.1 path imports declares put edits bytes)

module _ (exist : NamedFilesExist) (w : Workspace) (sound : ListsFaults w []) (p : Package) (is : IsCheckedPackage w sound.known p) (d : ℕ) (f : SourceFile)
    (put : List ℕ) (own : PutsOwnName p d f put) (s : FileChanges)
    (one : EditsOneFile s f.path (inserted (offset_of f (p.layout.place d).index) put ∷ [])) where
  abbrev checked : IsPackageIn w sound.known p.path p
  checked = is.is_checked

  abbrev at : Position
  at = p.layout.place d

  its_path : (q : List ℕ) × HasLiteral f at.index q
  its_path = path w sound p is d own.within own.unnamed f own.of_rank

  text : IsIdentifierText (p.names d)
  unfolding its_path
  text =
      seen_text w sound p.path its_path.0 (checked.name_of its_path.0) (checked.export_data_of its_path.0) (checked.are_seen its_path.0) (p.names d)
      (named w sound p is d own.within own.unnamed f own.of_rank)

  its_name : checked.name_of its_path.0 ≡ Some (p.names d)
  unfolding its_path
  its_name = named w sound p is d own.within own.unnamed f own.of_rank

  by_file : (t : FileParts) → source_of t ≡ f → slice_get checked.files at.file ≡ Some t → (i : ImportTree) → Contains (imports_in f.tree) i → i.name ≡ None →
      i.path ≡ at.index → (q : Package) × HasGainedBy w sound.known s f at.index put p q
  by_file t is_f ranked i among bare number =
      let source = source_file_at checked.files (package_sources w p.path checked.files checked.parsed) at.file t ranked in
      let before : IsNameBefore (source_of t) i.path (p.names d) put =
      subst (λ n. IsNameBefore (source_of t) n (p.names d) put) (sym number)
      (subst (λ x. IsNameBefore x at.index (p.names d) put) (sym is_f) own.is_put) in
      let edits : EditsOneFile s t.path (inserted (offset_of (source_of t) i.path) put ∷ []) =
      subst (λ n. EditsOneFile s t.path (inserted (offset_of (source_of t) n) put ∷ [])) (sym number)
      (subst (λ (x : SourceFile). EditsOneFile s x.path (inserted (offset_of x at.index) put ∷ [])) (sym is_f) one) in
      let literal : HasLiteral (source_of t) i.path its_path.0 =
      subst (λ n. HasLiteral (source_of t) n its_path.0) (sym number)
      (subst (λ x. HasLiteral x at.index its_path.0) (sym is_f) its_path.1) in
      let then = own_name exist t source i (subst (λ (x : SourceFile). Contains (imports_in x.tree) i) (sym is_f) among) bare (p.names d) text put before in
      let parts = split_at checked.files at.file t ranked in
      let entry = entry_at checked.parsed at.file t ranked in
      let x = gained_by_bytes w sound.known p is i.path t then.after (inserted (offset_of (source_of t) i.path) put ∷ []) s edits then.path then.is_file
      then.new_text then.gained parts.0 parts.1.0 parts.1.1.0 entry.0 entry.1.0 entry.1.1 its_path.0 literal (its_name ∙ ap Some (sym then.named)) put edits
      then.bytes in
      subst (λ n. (q : Package) × HasGainedBy w sound.known s f n put p q) number
      (subst (λ z. (q : Package) × HasGainedBy w sound.known s z i.path put p q) is_f x)

  gained : (q : Package) × HasGainedBy w sound.known s f at.index put p q
  gained =
      let spec = import_spec w sound p is d own.within own.unnamed f own.of_rank in
      by_file (part w sound p is d own.within own.unnamed f own.of_rank) (part_is w sound p is d own.within own.unnamed f own.of_rank)
      (part_ranked w sound p is d own.within own.unnamed f own.of_rank) spec.0 spec.1.0 spec.1.1.0 spec.1.1.1

by_law : NamedFilesExist → OwnNamesAreGained
by_law exist w sound p is d f put own s one = gained exist w sound p is d f put own s one

pub own_names_are_gained : OwnNamesAreGained
own_names_are_gained = by_law named_files_exist
