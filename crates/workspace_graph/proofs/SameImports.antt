-- Files whose import literals are the same import the same paths.
use Rattle.std.proofs.Common.{◌≡◌, ℕ, List, Some, slice_get, sym, ap, subst, ◌∙◌}
use Rattle.std.specs.List.{All, Contains}
use Rattle.std.proofs.lemmas.List.Elements.{All-contains}
use Rattle.std.proofs.lemmas.Option.{same_Some}
use Rattle.go_scanner.specs.StringValues.{HasStringValue}
use Rattle.go_scanner.specs.TokenValues.{IsStringClass}
use Rattle.go_scanner.specs.declared.piece.Piece.{Piece}
use Rattle.go_scanner.specs.Cuts.{bytes_of}
use Rattle.go_scanner.specs.CutText.{tokens_in}
use Rattle.go_ast.specs.SourceFile.{SourceFile, spelling_at, spelling_of}
use Rattle.workspace_graph.specs.FileImports.{import_literals}
use Rattle.workspace_graph.specs.Packages.{ImportsPath}
use Rattle.workspace_graph.specs.SameImports.{AreAlikeAt, ImportSamePaths}

-- two string literals that are spelled alike
pub alike : (one other : SourceFile) (token : ℕ) (first second : Piece) → slice_get (tokens_in one.cut) token ≡ Some first →
    slice_get (tokens_in other.cut) token ≡ Some second → IsStringClass first.class → IsStringClass second.class →
    spelling_of one token ≡ spelling_of other token → AreAlikeAt one other token
alike one other token first second here there one_string other_string same = record {
  first = first;
  second = second;
  first_at = here;
  second_at = there;
  first_string = one_string;
  second_string = other_string;
  bytes = sym (ap (spelling_at one.cut.text) here) ∙ same ∙ ap (spelling_at other.cut.text) there;
}

-- the other file has the literal too
over : (one other : SourceFile) → import_literals one.tree ≡ import_literals other.tree → (q : List ℕ) → (i : ImportsPath one q) →
    AreAlikeAt one other i.token → ImportsPath other q
over one other same q i like =
    let first : i.piece ≡ like.first = same_Some i.piece like.first (sym i.at ∙ like.first_at) in
    let value : HasStringValue (bytes_of one.cut.text like.first) q = subst (λ (p : Piece). HasStringValue (bytes_of one.cut.text p) q) first i.value in
    record {
      token = i.token;
      literal = subst (λ (ts : List ℕ). Contains ts i.token) same i.literal;
      piece = like.second;
      at = like.second_at;
      is_string = like.second_string;
      value = subst (λ (bytes : List ℕ). HasStringValue bytes q) like.bytes value;
    }

turned : (one other : SourceFile) (token : ℕ) → AreAlikeAt one other token → AreAlikeAt other one token
turned one other token like = record {
  first = like.second;
  second = like.first;
  first_at = like.second_at;
  second_at = like.first_at;
  first_string = like.second_string;
  second_string = like.first_string;
  bytes = sym like.bytes;
}

pub same_literals : (one other : SourceFile) → import_literals one.tree ≡ import_literals other.tree →
    All (AreAlikeAt one other) (import_literals one.tree) → ImportSamePaths one other
same_literals one other same alike q = (
  λ i. over one other same q i (All-contains (AreAlikeAt one other) (import_literals one.tree) i.token alike i.literal),
  λ i.
      let has : Contains (import_literals one.tree) i.token = subst (λ (ts : List ℕ). Contains ts i.token) (sym same) i.literal in
      over other one (sym same) q i (turned one other i.token (All-contains (AreAlikeAt one other) (import_literals one.tree) i.token alike has)),
)
