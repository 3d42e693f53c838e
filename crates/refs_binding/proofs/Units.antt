-- The packages of a workspace without faults, read again.
use Rattle.std.proofs.Common.{ℕ, ◌≡◌, ◌<◌, inl, inr, List, [], ◌+◌, length, get_or, ap, sym, subst, refl, ◌∙◌, arith}
use Rattle.std.specs.Prelude.{Option, Some, None, Contains, map, slice_get}
use Rattle.std.specs.List.Sorted.{IsStrictlySortedBy}
use Rattle.std.proofs.lemmas.Bool.{cases_lt}
use Rattle.std.proofs.lemmas.Option.{same_Some, slice_get_within, slice_get_read}
use Rattle.base_lemmas.proofs.Elements.{nothing_in, first_in, later_in}
use Rattle.types_info.proofs.MeaningLists.{slice_get_some}
use Rattle.base_files.specs.Packages.{package_paths, package_files}
use Rattle.base_files.specs.Workspace.{Workspace}
use Rattle.go_ast.specs.SourceFile.{FileParts, source_of}
use Rattle.go_scope.specs.Packages.{ScopedPackage, scoped}
use Rattle.types_declared.specs.PackageNames.{IsLaidOver}
use Rattle.workspace_graph.specs.FaultyFiles.{FaultyParts}
use Rattle.workspace_graph.specs.Graphs.{OfPackage}
use Rattle.workspace_graph.specs.Parsed.{AreParsed, none, tree, fault}
use Rattle.workspace_graph.proofs.ByPath.{number, at_contains}
use Rattle.types_expr.specs.declared.world.Definition.{Definition}
use Rattle.types_expr.specs.WorldView.{definition_or_none, definitions_at, ranked}
use Rattle.types_declared.specs.Package.{Package, symbol_in}
use Rattle.types_info.specs.PackageOf.{package_in}
use Rattle.types_declared.specs.Definitions.{IsDefinition}
use Rattle.types_check.specs.Exports.{IsExportData}
use Rattle.types_declared.specs.ExportTablesView.{name_in, export_data_in}
use Rattle.types_info.specs.MemberUses.{AreMemberUses, uses_in}
use Rattle.types_info.specs.QualifiedIdentifiers.{AreQualified}
use Rattle.types_declared.specs.declared.export_tables.ExportTable.{ExportTable}
use Rattle.workspace_check.specs.declared.fault.FileFault.{FileFault}
use Rattle.workspace_check.specs.declared.finding.Finding.{Finding}
use Rattle.workspace_check.specs.declared.findings.Findings.{Findings}
use Rattle.workspace_check.specs.Faults.{placed, fault_cmp}
use Rattle.workspace_check.specs.FaultLists.{AreListedFaults, ListsFaults}
use Rattle.workspace_check.specs.Found.{AreFindings}
use Rattle.workspace_check.specs.KnownFindings.{IsFinding, verdicts_by}
use Rattle.workspace_check.specs.Verdicts.{Verdicts, AreSeen, IsPackageIn, IsFaultBy}
use Rattle.workspace_check.proofs.Alike.{fault_as}
use Rattle.workspace_check.proofs.Members.{empty_by}
use Rattle.workspace_check.proofs.OnePackage.{one_checked}
use Rattle.workspace_check.proofs.OneVerdict.{right_alike, right_below, verdict_by, without_faults}
use Rattle.refs_binding.specs.Members.{AreOwnDefinitions, definitions_or_none}
use Rattle.refs_binding.specs.Uses.{IsCheckedPackage}
use Rattle.refs_binding.specs.Packages.{IsSeenBy, IsTableAs}
use Rattle.refs_binding.specs.Workspaces.{IsFaultless, IsPackageAt}

empty_in_order : IsStrictlySortedBy fault_cmp []
unfolding IsStrictlySortedBy
empty_in_order = tt

-- each file of a package without faults has a tree

first_unread : {es : List (List ℕ × List ℕ)} {ts : List FileParts} {fs : List FaultyParts} → AreParsed es ts fs → (w : Workspace) (p : List ℕ) →
    ((e : List ℕ × List ℕ) → Contains es e → Contains (package_files w p) e) →
    (known : Verdicts) → ((f : FileFault) → IsFaultBy w known p f → ⊥) → fs ≡ []
first_unread none w p within known sound = refl
first_unread (tree {e = e} {es = es} is rest) w p within known sound = first_unread rest w p (λ x h. within x (later_in e es x h)) known sound
first_unread (fault {e = e} {es = es} {f = f} is rest) w p within known sound =
    absurd (sound (placed e.0 f.fault) (inl (record {
      path = e.0;
      text = e.1;
      fault = f.fault;
      of_package = within e (first_in e es);
      is_fault =
          is.is_fault;
      at = refl;
    })))

-- a package whose list of faults is empty
pub none_listed : (P : FileFault → Type 0) (list : List FileFault) → AreListedFaults P list → list ≡ [] → (f : FileFault) → P f → ⊥
none_listed P list listed empty f is = nothing_in f (subst (λ l. Contains l f) empty ((listed.each f).1 is))

pub all_read : (w : Workspace) (known : Verdicts) (p : List ℕ) (ts : List FileParts) (fs : List FaultyParts) → ((f : FileFault) → IsFaultBy w known p f → ⊥) →
    AreParsed (package_files w p) ts fs → AreParsed (package_files w p) ts []
all_read w known p ts fs sound parsed = subst (AreParsed (package_files w p) ts) (first_unread parsed w p (λ e h. h) known sound) parsed

-- what is found of the package of a number

pub finding_at : (w : Workspace) (found : Findings) → AreFindings w found → (n : ℕ) (p : List ℕ) (f : Finding) → slice_get (package_paths w) n ≡ Some p →
    n < length found.packages.items → f ≡ get_or found.packages.items n f →
    IsFinding w (verdicts_by found.export_table) p f
finding_at w found h n p f at lt is = h.each n p f at (slice_get_read found.packages.items (length found.packages.items) n f refl lt is)

pub no_fault_in : (w : Workspace) (found : Findings) → IsFaultless w found → (n : ℕ) (p : List ℕ) → slice_get (package_paths w) n ≡ Some p → (f : FileFault) →
    IsFaultBy w (verdicts_by found.export_table) p f → ⊥
no_fault_in w found h n p at f is =
    let lt : n < length found.packages.items = subst (λ m. n < m) (sym h.findings.size) (slice_get_within (package_paths w) n p at) in
    let x = slice_get_some found.packages.items n lt in
    none_listed (IsFaultBy w (verdicts_by found.export_table) p) x.0.faults.items (h.findings.each n p x.0 at x.1).listed (h.sound n x.0 x.1) f is

-- where the list of faults is empty, nothing found has a fault
pub sound_by_list : (w : Workspace) (found : Findings) → AreFindings w found → ListsFaults w [] → IsFaultless w found
sound_by_list w found h list = record {
  findings = h;
  sound = λ n f at.
      let known = verdicts_by found.export_table in
      let p = slice_get_some (package_paths w) n (subst (λ m. n < m) h.size (slice_get_within found.packages.items n f at)) in
      let finding = h.each n p.0 f p.1 at in
      empty_by f.faults.items (λ x is.
      let here : IsFaultBy w known p.0 x = (finding.listed.each x).0 is in
      let there : IsFaultBy w list.known p.0 x = fault_as w p.0 known list.known
      (right_alike w p.0 known list.known (right_below w known h.right p.0) (right_below w list.known list.right p.0)) x here in
      nothing_in x ((list.listed.each x).1 (record { path = p.0; is_package = at_contains w n p.0 p.1; is_fault = there })));
}

-- where nothing found has a fault, the list is empty
pub list_of_sound : (w : Workspace) (found : Findings) → IsFaultless w found → ListsFaults w []
list_of_sound w found h = record {
  known = verdicts_by found.export_table;
  right = h.findings.right;
  listed = record {
    in_order = empty_in_order;
    each = λ f. (
      (λ no. absurd (nothing_in f no)),
      (λ is. let n = number w is.path is.is_package in
          absurd (no_fault_in w found h n.0 is.path n.1 f is.is_fault)),
    );
  };
}

-- one more finding without faults
pub sound_next : (xs : List Finding) (k n : ℕ) (x f : Finding) → k < length xs → x ≡ get_or xs k x → x.faults.items ≡ [] →
    ((m : ℕ) (g : Finding) → m < k → slice_get xs m ≡ Some g → g.faults.items ≡ []) →
    n < k + 1 → slice_get xs n ≡ Some f → f.faults.items ≡ []
sound_next xs k n x f lt is empty h below at = elim (cases_lt n k) [
  | inl less ↦ h n f less at
  | inr ge ↦ (
      let same : n ≡ k = omega arith in
      let here : x ≡ f = same_Some x f (sym (slice_get_read xs (length xs) k x refl lt is) ∙ ap (slice_get xs) (sym same) ∙ at) in
      subst (λ (g : Finding). g.faults.items ≡ []) here empty)
]

-- the package of a number

pub package_at : (w : Workspace) (known : Verdicts) (n : ℕ) (path : List ℕ) (ts : List FileParts) (seen : ExportTable) (name_of : List ℕ → Option (List ℕ))
    (laid : ScopedPackage) → slice_get (package_paths w) n ≡ Some path →
    AreParsed (package_files w path) ts [] → AreSeen w known path name_of (export_data_in seen) → IsLaidOver (map source_of ts) name_of (scoped ts) laid →
    IsPackageAt w known n (package_in path (map source_of ts) laid (export_data_in seen))
package_at w known n path ts seen name_of laid at parsed are is = record {
  has_number = at;
  is_package = record {
    of_workspace = at_contains w n path at;
    is_checked = record {
      files = ts;
      parsed = parsed;
      name_of = name_of;
      export_data_of = export_data_in seen;
      are_seen = are;
      is_package =
          record { laid = laid; is_laid = is; is_package = refl };
    };
  };
}

pub unit_at : (w : Workspace) (known : Verdicts) (n : ℕ) (path : List ℕ) (ts : List FileParts) (seen : ExportTable) (laid : ScopedPackage) →
    n < length (package_paths w) → OfPackage w n (λ p. path ≡ p) →
    OfPackage w n (λ p. AreParsed (package_files w p) ts []) → OfPackage w n (λ p. AreSeen w known p (name_in seen) (export_data_in seen)) →
    IsLaidOver (map source_of ts) (name_in seen) (scoped ts) laid →
    IsPackageAt w known n (package_in path (map source_of ts) laid (export_data_in seen))
unit_at w known n path ts seen laid lt of_path parsed are is =
    let x = slice_get_some (package_paths w) n lt in
    let e = sym (of_path x.0 x.1) in
    package_at w known n path ts seen (name_in seen) laid (x.1 ∙ ap Some e) (subst (λ q. AreParsed (package_files w q) ts []) e (parsed x.0 x.1))
    (subst (λ q. AreSeen w known q (name_in seen) (export_data_in seen)) e (are x.0 x.1)) is

-- its table has its files
pub table_at : (w : Workspace) (known : Verdicts) (n : ℕ) (ts : List FileParts) (seen : ExportTable) (laid : ScopedPackage) →
    OfPackage w n (λ p. AreParsed (package_files w p) ts []) → IsSeenBy w known n seen → IsLaidOver (map source_of ts) (name_in seen) (scoped ts) laid →
    IsTableAs w known n laid seen
table_at w known n ts seen laid parsed are is = λ path at.
    let files : ts ≡ laid.files = ap (λ (p : ScopedPackage). p.files) (sym is.is_named) in
    subst (λ fs. IsPackageAt w known n (package_in path (map source_of fs) laid (export_data_in seen))) files
    (package_at w known n path ts seen (name_in seen) laid at (parsed path at) (are path at) is)

-- a package is checked as one thing

pub one_package : (w : Workspace) (known : Verdicts) (p q : Package) → IsCheckedPackage w known p → IsCheckedPackage w known q → p.path ≡ q.path → p ≡ q
one_package w known p q h k e = one_checked w known q.path p q (subst (λ x. IsPackageIn w known x p) e h.is_checked) k.is_checked

pub one_at : (w : Workspace) (known : Verdicts) (n : ℕ) (p q : Package) → IsPackageAt w known n p → IsPackageAt w known n q → p ≡ q
one_at w known n p q h k = one_package w known p q h.is_package k.is_package (same_Some p.path q.path (sym h.has_number ∙ k.has_number))

-- each package of the workspace has a number
pub numbered : (w : Workspace) (known : Verdicts) (p : Package) → IsCheckedPackage w known p → (n : ℕ) × (IsPackageAt w known n p)
numbered w known p h = let n = number w p.path h.of_workspace in (n.0, record { has_number = n.1; is_package = h })

pub number_within : (w : Workspace) (known : Verdicts) (n : ℕ) (p : Package) → IsPackageAt w known n p → n < length (package_paths w)
number_within w known n p h = slice_get_within (package_paths w) n p.path h.has_number

-- its own definitions

own_rank : (o : Option (List Definition)) (rank : ℕ) → slice_get (definitions_or_none o) rank ≡ ranked o rank
own_rank None rank = refl
own_rank (Some ds) rank = refl

pub own_known : (all : ExportTable) (p : Package) (own : List Definition) → IsExportData p (export_data_in all p.path) →
    own ≡ definitions_or_none (definitions_at all.definitions p.path) → AreOwnDefinitions p own
own_known all p own is e =
    let at : (rank : ℕ) → (export_data_in all p.path).definition rank ≡ definition_or_none (symbol_in p rank) (slice_get own rank) = λ rank.
    ap (definition_or_none (symbol_in p rank)) (sym (own_rank (definitions_at all.definitions p.path) rank) ∙ ap (λ l. slice_get l rank) (sym e))
    in
    record {
      each = λ rank d has. subst (IsDefinition p rank) (at rank) (is.definitions rank d has);
      beyond = λ rank none. sym (at rank) ∙ is.beyond rank none;
    }

-- what others see of a package without faults

pub export_data_at : (w : Workspace) (found : Findings) → IsFaultless w found → (n : ℕ) (p : Package) → IsPackageAt w (verdicts_by found.export_table) n p →
    IsExportData p (export_data_in found.export_table p.path)
export_data_at w found h n p is =
    let known = verdicts_by found.export_table in
    let by = verdict_by w p.path known (known p.path) (right_below w known h.findings.right p.path) (h.findings.right p.path is.is_package.of_workspace) in
    let has = by.has_export_data (without_faults w known p.path (known p.path) by (no_fault_in w found h n p.path is.has_number) (known p.path).faulty refl) in
    subst (λ c. IsExportData c (export_data_in found.export_table p.path)) (one_checked w known p.path has.checked p has.is_package is.is_package.is_checked)
    has.is_export_data

-- its uses of members
pub members_at : (w : Workspace) (found : Findings) → IsFaultless w found → (n : ℕ) (f : Finding) → slice_get found.packages.items n ≡ Some f → (p : Package) →
    IsPackageAt w (verdicts_by found.export_table) n p →
    AreMemberUses p (map uses_in f.members.items)
members_at w found h n f at p is =
    let known = verdicts_by found.export_table in
    let uses = (h.findings.each n p.path f is.has_number at).members (h.sound n f at) in
    subst (λ c. AreMemberUses c (map uses_in f.members.items)) (one_checked w known p.path uses.checked p uses.is_package is.is_package.is_checked)
    uses.are_uses

-- its qualified identifiers
pub qualified_at : (w : Workspace) (found : Findings) → IsFaultless w found → (n : ℕ) (f : Finding) → slice_get found.packages.items n ≡ Some f →
    (p : Package) → IsPackageAt w (verdicts_by found.export_table) n p → AreQualified p f.qualified.items
qualified_at w found h n f at p is =
    let known = verdicts_by found.export_table in
    let has = (h.findings.each n p.path f is.has_number at).qualified (h.sound n f at) in
    subst (λ c. AreQualified c f.qualified.items) (one_checked w known p.path has.checked p has.is_package is.is_package.is_checked) has.are_qualified

-- the package of a number
pub package_there : (w : Workspace) (found : Findings) → IsFaultless w found → (n : ℕ) → n < length (package_paths w) →
    (p : Package) × IsPackageAt w (verdicts_by found.export_table) n p
package_there w found h n lt =
    let path = slice_get_some (package_paths w) n lt in
    let f = slice_get_some found.packages.items n (subst (λ m. n < m) (sym h.findings.size) lt) in
    let has = (h.findings.each n path.0 f.0 path.1 f.1).qualified (h.sound n f.0 f.1) in
    let same : has.checked.path ≡ path.0 = ap (λ (c : Package). c.path) has.is_package.is_package.is_package in (
      has.checked,
      record {
        has_number = path.1 ∙ ap Some (sym same);
        is_package = record {
          of_workspace = subst (Contains (package_paths w)) (sym same) (at_contains w n path.0 path.1);
          is_checked = subst (λ q. IsPackageIn w (verdicts_by found.export_table) q has.checked) (sym same) has.is_package;
        };
      },
    )
