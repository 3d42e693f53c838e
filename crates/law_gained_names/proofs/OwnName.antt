-- The name of a package is an identifier.
use Rattle.std.proofs.Common.{ℕ, ◌≡◌, ◌<◌, ◌==◌, inl, inr, Bool, true, false, cond, List, [], ◌∷◌, Option, Some, length, map, refl, sym, ap, ◌∙◌, subst, arith}
use Rattle.std.specs.Cmp.Lexicographic.{bytes_decides, pointwise}
use Rattle.std.proofs.lemmas.Option.{none-some, same_Some}
use Rattle.base_files.specs.Workspace.{Workspace}
use Rattle.go_ast.specs.declared.syntax.Kind.TheVariants as kind
use Rattle.go_ast.specs.Kinds.{kind_of, kind_of_keyword, kind_of_name, kind_of_operator}
use Rattle.go_ast.specs.SourceFile.{FileParts, IsSourceFile, SourceFile, source_of, spelling_at, spelling_of}
use Rattle.go_scanner.specs.declared.keywords.Keyword.{Keyword}
use Rattle.go_scanner.specs.declared.keywords.Keyword.TheVariants as word
use Rattle.go_scanner.specs.declared.operators.Operator.{Operator}
use Rattle.go_scanner.specs.declared.operators.Operator.TheVariants as signs
use Rattle.go_scanner.specs.declared.piece.Class.{Class}
use Rattle.go_scanner.specs.declared.piece.Class.TheVariants as class
use Rattle.go_scanner.specs.declared.piece.Piece.{Piece}
use Rattle.go_scanner.specs.Cuts.{bytes_of}
use Rattle.go_scanner.specs.CutText.{tokens_in}
use Rattle.go_scanner.specs.Pieces.{IsPiece}
use Rattle.go_scanner.specs.Spans.{IsTokenText}
use Rattle.go_scanner.proofs.SpanLemmas.{cut_tokens}
use Rattle.law_tokens.specs.Covered.{AreSourceFiles}
use Rattle.law_tokens.specs.Roles.{IsOfKind}
use Rattle.law_tokens.proofs.Elements.{all_got}
use Rattle.law_tokens.proofs.HeldBytes.{source_file_at}
use Rattle.law_tokens.proofs.OwnPaths.{package_sources}
use Rattle.types_declared.specs.Files.{package_name}
use Rattle.types_declared.specs.Package.{ExportData}
use Rattle.workspace_check.specs.FaultLists.{ListsFaults}
use Rattle.workspace_check.specs.Verdicts.{IsSeenAs, seen, unseen}
use Rattle.workspace_check.proofs.Closed.{to_package}
use Rattle.workspace_check.proofs.OneList.{checked_package}
use Rattle.workspace_check.proofs.PackageFiles.{package_file, some_tree}
use Rattle.refs_lookup.proofs.OnePlace.{same_files}
use Rattle.law_faultless.proofs.Numbers.{clause_named}
use Rattle.law_faultless.proofs.Spellings.{name_spelled}
use Rattle.law_rename.proofs.Finding.{token_of}
use Rattle.law_gained_names.specs.BareImports.{IsIdentifierText}

-- a token of the kind of names is a name

no_word : {A : Type 0} (k : Keyword) → kind_of_keyword k ≡ kind.Name → A
no_word word.Break e = cc
no_word _ e = cc

no_sign : {A : Type 0} (o : Operator) → kind_of_operator o ≡ kind.Name → A
no_sign signs.LeftParen e = cc
no_sign _ e = cc

name_class : (c : Class) (bytes : List ℕ) → kind_of c bytes ≡ kind.Name → c ≡ class.Name
name_class class.Name bytes e = refl
name_class (class.Keyword k) bytes e = no_word k e
name_class class.Integer bytes e = cc
name_class class.InterpretedString bytes e = cc
name_class class.RawString bytes e = cc
name_class (class.Operator o) bytes e = no_sign o e
name_class _ bytes e = cc

kind_by : (name : List ℕ) → (name ≡ 95 ∷ [] → ⊥) → kind_of_name name ≡ kind.Name
kind_by name other = by_test (pointwise ◌==◌ name (95 ∷ [])) refl
  where
    by_test : (b : Bool) → pointwise ◌==◌ name (95 ∷ []) ≡ b → cond b kind.Blank kind.Name ≡ kind.Name
    by_test true e = absurd (other ((bytes_decides name (95 ∷ [])).0 e))
    by_test false e = refl

token_text : (s : SourceFile) → IsSourceFile s → (i : ℕ) → IsOfKind s.cut i kind.Name → IsIdentifierText (spelling_of s i)
token_text s is i h =
    let x = token_of 0 s.cut.text (tokens_in s.cut) i h.0 h.1.0 in
    let bytes = bytes_of s.cut.text x.piece in
    let spelled : spelling_of s i ≡ bytes = ap (spelling_at s.cut.text) x.at in
    let text : IsTokenText x.piece.class bytes =
    all_got (λ (t : Piece). IsTokenText t.class (bytes_of s.cut.text t)) (tokens_in s.cut) i x.piece (cut_tokens s.cut.text s.cut.pieces is.is_cut) x.at in
    let is_name : x.piece.class ≡ class.Name = name_class x.piece.class bytes (x.is ∙ h.1.1) in
    let piece : IsPiece class.Name bytes = elim text [
      | inl own ↦ subst (λ c. IsPiece c bytes) is_name own
      | inr sign ↦
          let wrong : class.Name ≡ class.Operator signs.Semicolon = sym is_name ∙ sign.0 in
          absurd (let z : ⊥ = cc in z)
    ] in
    record {
      piece = subst (IsPiece class.Name) (sym spelled) piece;
      named = kind_by (spelling_of s i) (name_spelled s i h);
    }

first_text : (files : List FileParts) → AreSourceFiles files → 0 < length files → IsIdentifierText (package_name (map source_of files))
first_text [] all some = absurd (omega arith)
first_text (t ∷ ts) all some =
    let is : IsSourceFile (source_of t) = source_file_at (t ∷ ts) all 0 t refl in
    token_text (source_of t) is (source_of t).tree.name (clause_named (source_of t) is)

-- the name under which a package sees another
pub seen_text : (w : Workspace) (sound : ListsFaults w []) (r q : List ℕ) (n : Option (List ℕ)) (i : ExportData) → IsSeenAs w sound.known r q n i →
    (name : List ℕ) → n ≡ Some name → IsIdentifierText name
seen_text w sound r q _ _ (seen on sees) name e =
    let there = to_package w r q on.imported in
    let x = checked_package w sound q there in
    let files = same_files w sound.known q x.checked x.is_package in
    let entry = package_file w q there in
    let own : IsIdentifierText (package_name (map source_of x.is_package.files)) =
    first_text x.is_package.files (package_sources w q x.is_package.files x.is_package.parsed) (some_tree x.is_package.parsed entry.0 entry.1) in
    let same : package_name (map source_of x.is_package.files) ≡ name =
    ap package_name (sym files) ∙ sym x.is_export_data.name ∙ same_Some (sound.known q).export_data.name name e in
    subst IsIdentifierText same own
seen_text w sound r q _ _ (unseen none) name e = absurd (none-some name e)
