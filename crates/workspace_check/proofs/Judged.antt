-- The faults of a package each of whose files has a tree.
use Rattle.std.proofs.Common.{ℕ, ◌≡◌, ◌<◌, ◌↔◌, inl, inr, List, [], length, map, refl, sym, ap, subst, ◌∙◌, MatchOption}
use Rattle.std.specs.Prelude.{Contains, Option, Some, None, slice_get}
use Rattle.std.specs.Global.{Vec}
use Rattle.std.specs.List.Sorted.{IsStrictlySortedBy}
use Rattle.base_lemmas.proofs.Elements.{nothing_in}
use Rattle.base_files.specs.Workspace.{Workspace}
use Rattle.base_files.specs.Packages.{package_paths, package_files}
use Rattle.types_declared.specs.declared.fault.Fault.{Fault}
use Rattle.types_declared.specs.Listing.{HoldsExactly}
use Rattle.types_declared.specs.Stage.{HasNoFault, FirstOf}
use Rattle.go_ast.specs.SourceFile.{FileParts, source_of}
use Rattle.workspace_graph.specs.Parsed.{AreParsed}
use Rattle.types_declared.specs.declared.states.ImportState.{ImportState}
use Rattle.types_resolve.specs.Stages.{IsOuterFault}
use Rattle.types_check.specs.declared.checking.Checked.{Checked}
use Rattle.types_expr.specs.declared.exports.ExportData.{ExportData as FoundExportData}
use Rattle.types_declared.specs.Package.{Package, ExportData}
use Rattle.types_check.specs.Exports.{IsExportData}
use Rattle.types_declared.specs.ExportTablesView.{export_data_of}
use Rattle.types_expr.specs.declared.found.MemberUse.{MemberUse}
use Rattle.types_expr.specs.declared.found.Entering.{Entering}
use Rattle.types_info.specs.MemberUses.{AreEnterings, AreMemberUses, enterings_in, uses_in}
use Rattle.types_info.specs.PackageOf.{IsPackageOf}
use Rattle.types_info.specs.declared.lists.Qualified.{Qualified}
use Rattle.types_info.specs.QualifiedIdentifiers.{AreQualified}
use Rattle.types_check.specs.Check.{IsFindingBy, IsLaterFault, IsFindingIn, outside, inside}
use Rattle.workspace_check.specs.declared.fault.FileFault.{FileFault}
use Rattle.workspace_check.specs.declared.judging.JudgedPackage.{JudgedPackage}
use Rattle.workspace_check.specs.Faults.{placed_in, fault_cmp}
use Rattle.workspace_check.specs.Verdicts.{Verdicts, AreStates, AreSeen, IsPackageIn, IsFaultBehindOuter, IsReadFault, IsFaultBy, HasExportData}
use Rattle.workspace_check.specs.Steps.{IsPlacedFault, IsSomePlacedFault, IsJudged}
use Rattle.workspace_check.proofs.FaultFiles.{in_outer, in_later, identifiers_stand, some_source}
use Rattle.workspace_check.proofs.Importing.{outer_as}
use Rattle.workspace_check.proofs.Members.{some_in, empty_by, not_empty_by}
use Rattle.workspace_check.proofs.OnePackage.{one_sources, one_checked}
use Rattle.workspace_check.proofs.PackageFiles.{package_file, some_tree}
use Rattle.workspace_check.proofs.Unread.{none_unread}

-- Placed faults are equal for two lists of parsed files with equal sources.
pub placed_as : (ts us : List FileParts) (faults : List Fault) (y : FileFault) → map source_of ts ≡ map source_of us → IsSomePlacedFault ts faults y →
    IsSomePlacedFault us faults y
placed_as ts us faults y e h = record {
  fault = h.fault;
  among = h.among;
  is_placed = record {
    source = h.is_placed.source;
    in_file = subst (λ ss. slice_get ss h.fault.file ≡ Some h.is_placed.source) e h.is_placed.in_file;
    at = h.is_placed.at;
  };
}

module _ (w : Workspace) (known : Verdicts) (p : List ℕ) (own : Contains (package_paths w) p) (files : List FileParts)
    (parsed : AreParsed (package_files w p) files []) (state : List ℕ → ImportState) (are_states : AreStates w known p state) where
  abbrev Outer : Fault → Type 0
  Outer = IsOuterFault state (map source_of files)

  has_file : 0 < length files
  has_file = let e = package_file w p own in some_tree parsed e.0 e.1

  -- a fault of the package, with its place, is among those that are placed

  in_some_file : (f : Fault) → f.file < length (map source_of files) → (y : FileFault) × IsPlacedFault files f y
  in_some_file f lt = let s = some_source (map source_of files) f lt in (placed_in s.0 f, record { source = s.0; in_file = s.1; at = refl })

  placed_some : (faults : List Fault) (found : List FileFault) → ((y : FileFault) → Contains found y ↔ IsSomePlacedFault files faults y) → (f : Fault) →
      Contains faults f → f.file < length (map source_of files) → found ≡ [] → ⊥
  placed_some faults found each f c lt =
      let y = in_some_file f lt in
      not_empty_by found y.0 ((each y.0).1 (record { fault = f; among = c; is_placed = y.1 }))

  -- The faults of a package don't depend on which trees and states its fault was found with.

  outer_here : (h : FileFault) (r : IsReadFault w known p h) → (f : Fault) → IsOuterFault r.state (map source_of r.files) f → Outer f
  outer_here h r f is =
      subst (λ ss. IsOuterFault state ss f) (one_sources r.parsed parsed) (outer_as w known p r.files r.parsed r.state state r.are_states are_states f is)

  outer_there : (h : FileFault) (r : IsReadFault w known p h) → (f : Fault) → Outer f → IsOuterFault r.state (map source_of r.files) f
  outer_there h r f is =
      outer_as w known p r.files r.parsed state r.state are_states r.are_states f (subst (λ ss. IsOuterFault state ss f) (sym (one_sources r.parsed parsed)) is)

  placed_here : (h : FileFault) (r : IsReadFault w known p h) → IsPlacedFault files r.fault h
  placed_here h r = record {
    source = r.source;
    in_file =
        subst (λ ss. slice_get ss r.fault.file ≡ Some r.source) (one_sources r.parsed parsed) r.in_file;
    at = r.at;
  }

  read_by : (f : Fault) (y : FileFault) → IsPlacedFault files f y → FirstOf Outer (IsFaultBehindOuter w known p) f → IsReadFault w known p y
  read_by f y a is = record {
    files = files;
    parsed = parsed;
    state = state;
    are_states = are_states;
    fault = f;
    is_fault = is;
    source = a.source;
    in_file = a.in_file;
    at = a.at;
  }

  -- which faults are listed

  listed_by : (P : Fault → Type 0) (faults : List Fault) (found : List FileFault) → HoldsExactly P faults →
      ((y : FileFault) → Contains found y ↔ IsSomePlacedFault files faults y) → ((f : Fault) → P f → FirstOf Outer (IsFaultBehindOuter w known p) f) →
      ((y : FileFault) (r : IsReadFault w known p y) → P r.fault) → (y : FileFault) → Contains found y ↔ IsFaultBy w known p y
  listed_by P faults found lists each there back y = (
    λ c. (let a = (each y).0 c in inr (read_by a.fault y a.is_placed (there a.fault (lists.only a.fault a.among)))),
    λ h. elim h [
      | inl u ↦ absurd (none_unread w p files parsed y u)
      | inr r ↦ (each y).1 (record { fault = r.fault; among = lists.holds r.fault (back y r); is_placed = placed_here y r })
    ],
  )

  -- the faults of clauses or imports

  outside_back : (faults : List Fault) → (faults ≡ [] → ⊥) → HoldsExactly Outer faults → (y : FileFault) (r : IsReadFault w known p y) → Outer r.fault
  outside_back faults some lists y r = elim r.is_fault [
    | inl o ↦ outer_here y r r.fault o
    | inr i ↦ (let x = some_in faults some in absurd (i.0 x.0 (outer_there y r x.0 (lists.only x.0 x.1))))
  ]

  pub judged_outside : (c : Checked) (j : JudgedPackage) → (c.faults.items ≡ [] → ⊥) → HoldsExactly Outer c.faults.items → c.export_data ≡ None →
      j.export_data ≡ c.export_data → IsStrictlySortedBy fault_cmp j.faults.items →
      ((y : FileFault) → Contains j.faults.items y ↔ IsSomePlacedFault files c.faults.items y) → IsJudged w known p j
  judged_outside c j some lists gone same sorted each =
      let x = some_in c.faults.items some in
      let filled : j.faults.items ≡ [] → ⊥ = placed_some c.faults.items j.faults.items each x.0 x.1
      (in_outer state (map source_of files) x.0 (lists.only x.0 x.1)) in
      record {
        listed = record {
          in_order = sorted;
          each = listed_by Outer c.faults.items j.faults.items lists each (λ f o. inl o) (outside_back c.faults.items some lists);
        };
        has_export_data = subst (λ o. MatchOption o (j.faults.items ≡ [] → ⊥) (λ i. (j.faults.items ≡ []) × HasExportData w known p (export_data_of p i)))
            (sym (same ∙ gone)) filled;
        uses = λ e. absurd (filled e);
        enterings = λ e. absurd (filled e);
        qualified = λ e. absurd (filled e);
      }

  module _ (name_of : List ℕ → Option (List ℕ)) (export_data_at : List ℕ → ExportData) (are_seen : AreSeen w known p name_of export_data_at) where
    abbrev is_checked : (c : Package) → IsPackageOf p files name_of export_data_at c → IsPackageIn w known p c
    is_checked c h = record { files = files; parsed = parsed; name_of = name_of; export_data_of = export_data_at; are_seen = are_seen; is_package = h }

    later_in_file : (c : Package) → IsPackageOf p files name_of export_data_at c → (f : Fault) → IsLaterFault c f → f.file < length (map source_of files)
    later_in_file c h f is =
        let at : f.file < length c.files = in_later c (identifiers_stand w known p c (is_checked c h) has_file) f is in
        subst (λ k. f.file < k) (ap (λ (x : Package). length x.files) h.is_package) at

    -- those of the later stages, or none

    inside_back : (c : Package) → IsPackageOf p files name_of export_data_at c → HasNoFault Outer → (y : FileFault) (r : IsReadFault w known p y) →
        IsLaterFault c r.fault
    inside_back c h sound y r = elim r.is_fault [
      | inl o ↦ absurd (sound r.fault (outer_here y r r.fault o))
      | inr i ↦ subst (λ (d : Package). IsLaterFault d r.fault) (one_checked w known p i.1.checked c i.1.is_package (is_checked c h)) i.1.is_fault
    ]

    export_data_by : (c : Package) (faults : List Fault) (found : List FileFault) (o : Option FoundExportData) → IsPackageOf p files name_of export_data_at c →
        (found ≡ [] → faults ≡ []) → (faults ≡ [] → found ≡ []) →
        MatchOption o (faults ≡ [] → ⊥) (λ i. (faults ≡ []) × IsExportData c (export_data_of c.path i)) →
        MatchOption o (found ≡ [] → ⊥) (λ i. (found ≡ []) × HasExportData w known p (export_data_of p i))
    export_data_by c faults found None h to from m = λ e. m (to e)
    export_data_by c faults found (Some i) h to from m =
        let path : c.path ≡ p = ap (λ (x : Package). x.path) h.is_package in
        (from m.0, record { checked = c; is_package = is_checked c h; is_export_data = subst (λ q. IsExportData c (export_data_of q i)) path m.1 })

    pub judged_inside : (c : Package) (x : Checked) (j : JudgedPackage) → HasNoFault Outer → IsPackageOf p files name_of export_data_at c →
        IsFindingBy (IsLaterFault c) c x → j.export_data ≡ x.export_data → j.members ≡ x.members → j.enterings ≡ x.enterings →
        j.qualified ≡ x.qualified → IsStrictlySortedBy fault_cmp j.faults.items →
        ((y : FileFault) → Contains j.faults.items y ↔ IsSomePlacedFault files x.faults.items y) → IsJudged w known p j
    judged_inside c x j sound h checked same_export_data same_members same_enterings same_qualified sorted each =
        let to : j.faults.items ≡ [] → x.faults.items ≡ [] = λ e.
        empty_by x.faults.items (λ f k. placed_some x.faults.items j.faults.items each f k (later_in_file c h f (checked.faults.only f k)) e) in
        let from : x.faults.items ≡ [] → j.faults.items ≡ [] = λ e.
        empty_by j.faults.items (λ y k. let a = (each y).0 k in nothing_in a.fault (subst (λ l. Contains l a.fault) e a.among)) in
        record {
          listed = record {
            in_order = sorted;
            each = listed_by (IsLaterFault c) x.faults.items j.faults.items checked.faults each
                (λ f l. inr (sound, record { checked = c; is_package = is_checked c h; is_fault = l })) (inside_back c h sound);
          };
          has_export_data = subst (λ o. MatchOption o (j.faults.items ≡ [] → ⊥) (λ i. (j.faults.items ≡ []) × HasExportData w known p (export_data_of p i)))
              (sym same_export_data)
              (export_data_by c x.faults.items j.faults.items x.export_data h to from checked.export_data);
          uses = λ e. record {
            checked = c;
            is_package = is_checked c h;
            are_uses = subst (λ (ms : Vec (Vec MemberUse)). AreMemberUses c (map uses_in ms.items)) (sym same_members) (checked.members (to e));
          };
          enterings = λ e. record {
            checked = c;
            is_package = is_checked c h;
            are_enterings = subst (λ (es : Vec (Vec Entering)). AreEnterings c (map enterings_in es.items)) (sym same_enterings) (checked.enterings (to e));
          };
          qualified = λ e. record {
            checked = c;
            is_package = is_checked c h;
            are_qualified = subst (λ (qs : Vec Qualified). AreQualified c qs.items) (sym same_qualified) (checked.qualified (to e));
          };
        }

    pub judged_by : (x : Checked) (j : JudgedPackage) → IsFindingIn p files state name_of export_data_at x → j.export_data ≡ x.export_data →
        j.members ≡ x.members →
        j.enterings ≡ x.enterings → j.qualified ≡ x.qualified → IsStrictlySortedBy fault_cmp j.faults.items →
        ((y : FileFault) → Contains j.faults.items y ↔ IsSomePlacedFault files x.faults.items y) → IsJudged w known p j
    judged_by x j (outside some lists gone) same_export_data same_members same_enterings same_qualified sorted each =
        judged_outside x j some lists gone same_export_data sorted each
    judged_by x j (inside {p = c} sound h checked) same_export_data same_members same_enterings same_qualified sorted each =
        judged_inside c x j sound h checked same_export_data same_members same_enterings same_qualified sorted each
