-- A package is checked as at most one `Package`, and has at most one export data.
use Rattle.std.proofs.Common.{ℕ, zero, suc, ◌≡◌, List, [], ◌∷◌, length, map, refl, sym, ap, subst, ◌∙◌}
use Rattle.std.specs.Prelude.{Option, Some, None, slice_get, MatchOption}
use Rattle.std.proofs.Math.Path.{ap₂, fun_ext}
use Rattle.std.proofs.lemmas.List.Elements.{All-nil, All-cons}
use Rattle.std.proofs.lemmas.Option.{same_Some, none-some}
use Rattle.base_files.specs.Workspace.{Workspace}
use Rattle.go_ast.specs.Flatten.{flatten}
use Rattle.go_ast.specs.SourceFile.{SourceFile, FileParts, source_of, spelling_of}
use Rattle.workspace_graph.specs.FaultyFiles.{FaultyParts}
use Rattle.workspace_graph.specs.Parsed.{AreParsed, none, tree, fault}
use Rattle.workspace_graph.proofs.OneFile.{one_file, file_or_fault}
use Rattle.go_scope.specs.FileSites.{SpelledFile, package_sites}
use Rattle.go_scope.specs.Named.{named_sites}
use Rattle.go_scope.specs.SpelledFiles.{spelled_file}
use Rattle.go_scope.specs.Packages.{ScopedPackage, layout_in}
use Rattle.go_scope.specs.Site.{Site, sites_layout, sites_names}
use Rattle.go_scope.specs.Trees.{AreRising, IsNumbered, AreNumbered}
use Rattle.go_scope.specs.WellFormed.{WellFormed}
use Rattle.go_scope.proofs.Declared.{file_numbered}
use Rattle.go_scope.proofs.NamedSites.{named_well_formed, package_level}
use Rattle.go_scope.proofs.PackageRegions.{package_well_formed}
use Rattle.types_declared.specs.PackageNames.{ArePackageNames}
use Rattle.types_declared.specs.Laid.{Laid}
use Rattle.types_declared.specs.Package.{Package, ExportData, Export, PlacedType, package_types}
use Rattle.types_check.specs.Exports.{IsExport, IsExported, IsExportData}
use Rattle.types_info.specs.Uniqueness.{TokensRise}
use Rattle.types_info.specs.PackageOf.{IsPackageOf, package_in}
use Rattle.types_check.proofs.ExportParts.{one_export}
use Rattle.types_check.proofs.OneLaid.{one_package}
use Rattle.types_info.proofs.OneMeaning.{has_one_meaning, one_found}
use Rattle.types_info.proofs.OneWorld.{one_definition}
use Rattle.workspace_check.specs.Verdicts.{Verdicts, IsPackageIn}
use Rattle.workspace_check.proofs.OneSeen.{one_names, one_export_table}

-- the files of a package

pub one_sources : {es : List (List ℕ × List ℕ)} {ts us : List FileParts} → AreParsed es ts [] → AreParsed es us [] → map source_of ts ≡ map source_of us
one_sources none none = refl
one_sources (tree {e = e} {t = t} is rest) (tree {t = u} so others) =
    ap₂ (λ s ss. s ∷ ss) (one_file e.0 e.1 (source_of t) (source_of u) is so) (one_sources rest others)

-- where all of them have trees, none is without
pub all_read : {es : List (List ℕ × List ℕ)} {ts us : List FileParts} {fs : List FaultyParts} → AreParsed es ts fs → AreParsed es us [] → fs ≡ []
all_read none none = refl
all_read (tree is rest) (tree so others) = all_read rest others
all_read (fault {e = e} {f = f} is rest) (tree {t = u} so others) = absurd (file_or_fault e.0 e.1 (source_of u) f.fault so is.is_fault)

numbered : {es : List (List ℕ × List ℕ)} {ts : List FileParts} → AreParsed es ts [] → AreNumbered (map spelled_file ts)
numbered none = All-nil IsNumbered
numbered (tree {t = t} {ts = ts} is rest) = All-cons IsNumbered (spelled_file t) (map spelled_file ts) (file_numbered t is.is_file) (numbered rest)

in_order : {es : List (List ℕ × List ℕ)} {ts : List FileParts} → AreParsed es ts [] → (file : ℕ) (s : SourceFile) →
    slice_get (map source_of ts) file ≡ Some s → AreRising 0 (flatten s.tree)
in_order none file s at = absurd (none-some s at)
in_order (tree {t = t} is rest) zero s at = subst (λ (z : SourceFile). AreRising 0 (flatten z.tree)) (same_Some (source_of t) s at)
    (file_numbered t is.is_file).rising
in_order (tree is rest) (suc k) s at = in_order rest k s at

-- which of the files' trees a package is made of does not matter, but only what they stand for

abbrev pub spelled : SourceFile → SpelledFile
spelled s = record { tree = s.tree; spell = spelling_of s }

pub spelled_as : (ts : List FileParts) → map spelled_file ts ≡ map spelled (map source_of ts)
spelled_as [] = refl
spelled_as (t ∷ ts) = ap (λ ss. spelled_file t ∷ ss) (spelled_as ts)

pub same_sites : (ts us : List FileParts) → map source_of ts ≡ map source_of us → package_sites (map spelled_file ts) ≡ package_sites (map spelled_file us)
same_sites ts us e = ap package_sites (spelled_as ts ∙ ap (map spelled) e ∙ sym (spelled_as us))

abbrev pub laid_by : List Site → Laid
laid_by sites = record { layout = sites_layout sites; names = sites_names sites; size = length sites }

pub package_from : (p : List ℕ) (ts us : List FileParts) (name_of : List ℕ → Option (List ℕ)) (export_data_of : List ℕ → ExportData) (c : Package) →
    map source_of ts ≡ map source_of us → IsPackageOf p ts name_of export_data_of c → IsPackageOf p us name_of export_data_of c
package_from p ts us name_of export_data_of c e h =
    let sites = same_sites ts us e in
    let names = h.is_laid.names in
    record {
      laid = record { files = us; sites = h.laid.sites };
      is_laid = record {
        names = names;
        are_names =
            subst (λ s. ArePackageNames (map source_of us) name_of (laid_by s) names) sites
            (subst (λ ss. ArePackageNames ss name_of (laid_by (package_sites (map spelled_file ts))) names) e h.is_laid.are_names);
        is_named =
            ap (λ (l : ScopedPackage). record { files = us; sites = l.sites }) h.is_laid.is_named
            ∙ ap (λ s. record { files = us; sites = named_sites names s }) sites;
      };
      is_package = h.is_package ∙ ap (λ ss. package_in p ss (record { files = us; sites = h.laid.sites }) export_data_of) e;
    }

-- one package

pub one_checked : (w : Workspace) (known : Verdicts) (p : List ℕ) (c d : Package) → IsPackageIn w known p c → IsPackageIn w known p d → c ≡ d
one_checked w known p c d a b =
    let names = one_names w known p b.name_of a.name_of b.export_data_of a.export_data_of b.are_seen a.are_seen in
    let export_table = one_export_table w known p b.name_of a.name_of b.export_data_of a.export_data_of b.are_seen a.are_seen in
    let by_names : IsPackageOf p b.files a.name_of b.export_data_of d = subst (λ n. IsPackageOf p b.files n b.export_data_of d) names b.is_package in
    let by_both : IsPackageOf p b.files a.name_of a.export_data_of d = subst (λ i. IsPackageOf p b.files a.name_of i d) export_table by_names in
    one_package p a.files a.name_of a.export_data_of c d a.is_package
    (package_from p b.files a.files a.name_of a.export_data_of d (one_sources b.parsed a.parsed) by_both)

-- its layout is well-formed, and the tokens of its files are in order

pub layout_formed : (w : Workspace) (known : Verdicts) (p : List ℕ) (c : Package) → IsPackageIn w known p c → WellFormed c.layout
layout_formed w known p c h =
    let own = h.is_package in
    let names = own.is_laid.names in
    let sites = package_sites (map spelled_file h.files) in
    let plain : WellFormed (sites_layout sites) = package_well_formed (map spelled_file h.files) (numbered h.parsed) in
    let laid : WellFormed (sites_layout (named_sites names sites)) =
    named_well_formed names sites plain (package_level (map spelled_file h.files) (numbered h.parsed)) in
    let is : c.layout ≡ sites_layout (named_sites names sites) = ap (λ (x : Package). x.layout) own.is_package ∙ ap layout_in own.is_laid.is_named in
    subst WellFormed (sym is) laid

pub files_in_order : (w : Workspace) (known : Verdicts) (p : List ℕ) (c : Package) → IsPackageIn w known p c → TokensRise c.files
files_in_order w known p c h =
    let is : c.files ≡ map source_of h.files = ap (λ (x : Package). x.files) h.is_package.is_package in
    subst TokensRise (sym is) (in_order h.parsed)

-- one interface

exported_match : (p : Package) (name : List ℕ) (o : Option Export) → IsExported p name o →
    MatchOption o ((e : Export) → IsExport p name e → ⊥) (λ e. IsExport p name e)
exported_match p name None h = h
exported_match p name (Some e) h = h

one_exported : (p : Package) → WellFormed p.layout → TokensRise p.files → (name : List ℕ) (o u : Option Export) → IsExported p name o →
    IsExported p name u → o ≡ u
one_exported p formed rising name o u a b =
    one_found (IsExport p name) (one_export p (has_one_meaning p formed rising) name) o u (exported_match p name o a) (exported_match p name u b)

one_defined : (p : Package) → WellFormed p.layout → (i j : ExportData) → IsExportData p i → IsExportData p j → (rank : ℕ) (o : Option PlacedType) →
    slice_get (package_types p) rank ≡ o →
    i.definition rank ≡ j.definition rank
one_defined p formed i j a b rank None e = a.beyond rank e ∙ sym (b.beyond rank e)
one_defined p formed i j a b rank (Some d) e = one_definition p formed rank (i.definition rank) (j.definition rank) (a.definitions rank d e)
    (b.definitions rank d e)

pub one_export_data : (p : Package) → WellFormed p.layout → TokensRise p.files → (i j : ExportData) → IsExportData p i → IsExportData p j → i ≡ j
one_export_data p formed rising i j a b =
    ap (λ n. record { name = n; exported = i.exported; definition = i.definition }) (a.name ∙ sym b.name) ∙
    ap (λ x. record { name = j.name; exported = x; definition = i.definition })
    (fun_ext (λ name. one_exported p formed rising name (i.exported name) (j.exported name) (a.exported name) (b.exported name))) ∙
    ap (λ d. record { name = j.name; exported = j.exported; definition = d })
    (fun_ext (λ rank. one_defined p formed i j a b rank (slice_get (package_types p) rank) refl))
