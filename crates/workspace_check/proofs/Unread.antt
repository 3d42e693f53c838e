-- The faults of files that have no tree, and a package of which some file has none.
use Rattle.std.proofs.Common.{ℕ, ◌≡◌, ◌↔◌, inl, inr, List, [], ◌∷◌, refl, sym, ap, subst, ◌∙◌, MatchOption}
use Rattle.std.specs.Prelude.{Contains, None}
use Rattle.std.specs.List.Sorted.{IsStrictlySortedBy}
use Rattle.base_lemmas.proofs.Elements.{nothing_in, first_in, later_in, first_or_later}
use Rattle.base_files.specs.Workspace.{Workspace}
use Rattle.base_files.specs.Packages.{package_files}
use Rattle.go_scanner.specs.declared.refusal.TextFault.{TextFault as TextFault}
use Rattle.go_scanner.specs.Cuts.{IsCut}
use Rattle.go_scanner.specs.CutText.{CutText}
use Rattle.go_scanner.proofs.OneCutLemmas.{cut_or_fault}
use Rattle.go_scanner.proofs.OneFaultLemmas.{one_fault}
use Rattle.go_ast.specs.Faults.{IsFaultOf, IsFaultOfTokens, IsParseFault, kind_for}
use Rattle.go_ast.specs.Kinds.{kinds_of, place_of}
use Rattle.go_ast.specs.SourceFile.{FileParts, source_of}
use Rattle.go_ast.specs.Verdict.{Faulty}
use Rattle.go_ast.specs.declared.syntax.TokenFaultKind.{TokenFaultKind as TokenFault}
use Rattle.go_ast.proofs.OneVerdict.{one_verdict}
use Rattle.workspace_graph.specs.FaultyFiles.{FaultyParts}
use Rattle.workspace_graph.specs.Parsed.{AreParsed, none, tree, fault}
use Rattle.workspace_graph.proofs.OneFile.{same_cut, file_or_fault}
use Rattle.workspace_check.specs.declared.fault.FileFault.{FileFault}
use Rattle.workspace_check.specs.declared.judging.JudgedPackage.{JudgedPackage}
use Rattle.workspace_check.specs.Faults.{placed, fault_cmp}
use Rattle.types_declared.specs.ExportTablesView.{export_data_of}
use Rattle.workspace_check.specs.Verdicts.{Verdicts, IsUnreadFault, HasExportData}
use Rattle.workspace_check.specs.Steps.{unread_faults, IsJudged}
use Rattle.workspace_check.proofs.Members.{not_empty_by}

-- a text has one first fault

same_fault : (f g : TextFault) → f.offset ≡ g.offset → f.kind ≡ g.kind → f ≡ g
same_fault f g offsets kinds i = record { offset = offsets i; kind = kinds i }

kind_in : (j k : TokenFault) (m n : ℕ) → Faulty j m ≡ Faulty k n → j ≡ k
kind_in j k m n e = cc

left_in : (j k : TokenFault) (m n : ℕ) → Faulty j m ≡ Faulty k n → m ≡ n
left_in j k m n e = cc

one_of_tokens : (c : CutText) (f g : TextFault) → IsParseFault c f → IsParseFault c g → f ≡ g
one_of_tokens c f g a b =
    let same = one_verdict (kinds_of c) (Faulty a.kind a.left) (Faulty b.kind b.left) a.verdict b.verdict in
    same_fault f g (a.offset_is ∙ ap (place_of c) (left_in a.kind b.kind a.left b.left same) ∙ sym b.offset_is)
    (a.kind_is ∙ ap kind_for (kind_in a.kind b.kind a.left b.left same) ∙ sym b.kind_is)

cut_without : (text : List ℕ) (f g : TextFault) → IsFaultOf text f → IsFaultOfTokens text g → f ≡ g
cut_without text f g a b = elim a [
  | inl first ↦ absurd (cut_or_fault text b.cut.pieces f (subst (λ (t : List ℕ). IsCut t b.cut.pieces) b.of_text b.is_cut) first)
  | inr tokens ↦ (
      let cuts : tokens.cut ≡ b.cut = same_cut tokens.cut b.cut (tokens.of_text ∙ sym b.of_text) tokens.is_cut b.is_cut in
      one_of_tokens b.cut f g (subst (λ (c : CutText). IsParseFault c f) cuts tokens.fault_is) b.fault_is)
]

one_text_fault : (text : List ℕ) (f g : TextFault) → IsFaultOf text f → IsFaultOf text g → f ≡ g
one_text_fault text f g a b = elim b [
  | inr tokens ↦ cut_without text f g a tokens
  | inl first ↦ elim a [
    | inl also ↦ one_fault text f g also first
    | inr tokens ↦ sym (cut_without text g f (inl first) tokens)
  ]
]

-- what is listed of files that have no tree

pub record IsFaultAmong (es : List (List ℕ × List ℕ)) (f : FileFault) : Type 0 where
  pub path : List ℕ
  pub text : List ℕ
  pub fault : TextFault
  pub among : Contains es (path, text)
  pub is_fault : IsFaultOf text fault
  pub at : f ≡ placed path fault

further : (e : List ℕ × List ℕ) (es : List (List ℕ × List ℕ)) (f : FileFault) → IsFaultAmong es f → IsFaultAmong (e ∷ es) f
further e es f h = record { path = h.path; text = h.text; fault = h.fault; among = later_in e es (h.path, h.text) h.among; is_fault = h.is_fault; at = h.at }

listed_among : {es : List (List ℕ × List ℕ)} {ts : List FileParts} {fs : List FaultyParts} → AreParsed es ts fs → (f : FileFault) →
    Contains (unread_faults fs) f → IsFaultAmong es f
listed_among none f h = absurd (nothing_in f h)
listed_among (tree {e = e} {es = es} is rest) f h = further e es f (listed_among rest f h)
listed_among (fault {e = e} {es = es} {f = x} {fs = fs} is rest) f h = elim (first_or_later (placed x.path x.fault) (unread_faults fs) f h) [
  | inl same ↦ record {
    path = e.0;
    text = e.1;
    fault = x.fault;
    among = first_in e es;
    is_fault = is.is_fault;
    at = sym same ∙ ap (λ path. placed path x.fault) is.of_path;
  }
  | inr c ↦ further e es f (listed_among rest f c)
]

among_listed : {es : List (List ℕ × List ℕ)} {ts : List FileParts} {fs : List FaultyParts} → AreParsed es ts fs → (path text : List ℕ) (g : TextFault) →
    Contains es (path, text) → IsFaultOf text g → Contains (unread_faults fs) (placed path g)
among_listed none path text g c is_fault = absurd (nothing_in (path, text) c)
among_listed (tree {e = e} {es = es} {t = t} is rest) path text g c is_fault = elim (first_or_later e es (path, text) c) [
  | inl same ↦ absurd (file_or_fault e.0 e.1 (source_of t) g is (subst (λ (x : List ℕ). IsFaultOf x g) (sym (ap (λ (d : List ℕ × List ℕ). d.1) same)) is_fault))
  | inr d ↦ among_listed rest path text g d is_fault
]
among_listed (fault {e = e} {es = es} {f = x} {fs = fs} is rest) path text g c is_fault = elim (first_or_later e es (path, text) c) [
  | inl same ↦ (
      let paths : x.path ≡ path = is.of_path ∙ ap (λ (d : List ℕ × List ℕ). d.0) same in
      let texts : e.1 ≡ text = ap (λ (d : List ℕ × List ℕ). d.1) same in
      let faults : x.fault ≡ g = one_text_fault text x.fault g (subst (λ (t : List ℕ). IsFaultOf t x.fault) texts is.is_fault) is_fault in
      subst (Contains (unread_faults (x ∷ fs))) (ap (λ p. placed p x.fault) paths ∙ ap (placed path) faults)
      (first_in (placed x.path x.fault) (unread_faults fs)))
  | inr d ↦ later_in (placed x.path x.fault) (unread_faults fs) (placed path g) (among_listed rest path text g d is_fault)
]

-- files of which one has no tree are not all parsed
not_all : {es : List (List ℕ × List ℕ)} {ts us : List FileParts} {fs : List FaultyParts} → AreParsed es ts fs → (fs ≡ [] → ⊥) → AreParsed es us [] → ⊥
not_all none some all = some refl
not_all (tree is rest) some (tree so others) = not_all rest some others
not_all (fault {e = e} {f = f} is rest) some (tree {t = u} so others) = file_or_fault e.0 e.1 (source_of u) f.fault so is.is_fault

pub none_unread : (w : Workspace) (p : List ℕ) (ts : List FileParts) → AreParsed (package_files w p) ts [] → (f : FileFault) → IsUnreadFault w p f → ⊥
none_unread w p ts parsed f h = nothing_in (placed h.path h.fault) (among_listed parsed h.path h.text h.fault h.of_package h.is_fault)

-- what is found of such a package
pub unread_judged : (w : Workspace) (known : Verdicts) (p : List ℕ) (ts : List FileParts) (fs : List FaultyParts) → AreParsed (package_files w p) ts fs →
    (fs ≡ [] → ⊥) → (j : JudgedPackage) → IsStrictlySortedBy fault_cmp j.faults.items →
    ((f : FileFault) → Contains j.faults.items f ↔ Contains (unread_faults fs) f) → j.export_data ≡ None → IsJudged w known p j
unread_judged w known p ts fs parsed some j sorted same gone =
    let filled : j.faults.items ≡ [] → ⊥ = filled_by fs some (λ f c. (same f).1 c) in
    record {
      listed = record {
        in_order = sorted;
        each = λ f. (
          λ c. (let a = listed_among parsed f ((same f).0 c) in
              inl (record { path = a.path; text = a.text; fault = a.fault; of_package = a.among; is_fault = a.is_fault; at = a.at })),
          λ h. elim h [
            | inl u ↦ (same f).1 (subst (Contains (unread_faults fs)) (sym u.at) (among_listed parsed u.path u.text u.fault u.of_package u.is_fault))
            | inr r ↦ absurd (not_all parsed some r.parsed)
          ],
        );
      };
      has_export_data = subst (λ o. MatchOption o (j.faults.items ≡ [] → ⊥) (λ i. (j.faults.items ≡ []) × HasExportData w known p (export_data_of p i)))
          (sym gone) filled;
      uses = λ e. absurd (filled e);
      enterings = λ e. absurd (filled e);
      qualified = λ e. absurd (filled e);
    }
  where
    filled_by : (fs : List FaultyParts) → (fs ≡ [] → ⊥) → ((f : FileFault) → Contains (unread_faults fs) f → Contains j.faults.items f) →
        j.faults.items ≡ [] → ⊥
    filled_by [] some has = absurd (some refl)
    filled_by (x ∷ xs) some has = not_empty_by j.faults.items (placed x.path x.fault)
        (has (placed x.path x.fault) (first_in (placed x.path x.fault) (unread_faults xs)))
