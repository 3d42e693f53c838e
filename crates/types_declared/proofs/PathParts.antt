-- The path of an import, by its file and its string literal.
use Rattle.std.proofs.Common.{ℕ, ◌≡◌, ◌<◌, List, length, get_or, map, Option, Some, None, ap, sym, ◌∙◌, subst, MatchOption}
use Rattle.std.specs.Prelude.{slice_get}
use Rattle.std.specs.Option.{option_map}
use Rattle.std.specs.declared.vec.Vec.{Vec}
use Rattle.std.specs.declared.alloc.Global.{Global}
use Rattle.std.proofs.lemmas.List.{length-map}
use Rattle.std.proofs.lemmas.Option.{slice_get-map, slice_get-get_or, slice_get_within}
use Rattle.go_scanner.specs.Cuts.{bytes_of}
use Rattle.go_scanner.specs.CutText.{token_at}
use Rattle.go_scanner.specs.StringValues.{HasStringValue}
use Rattle.go_ast.specs.SourceFile.{FileParts, SourceFile, source_of}
use Rattle.types_declared.specs.Files.{HasLiteral}
use Rattle.types_declared.specs.Laid.{Laid, literal_of, IsPathOf}

same_file : (s t : SourceFile) → Some s ≡ Some t → s ≡ t
same_file s t e = cc

pub source_at : (files : List FileParts) (i : ℕ) (x : FileParts) → i < length files → x ≡ get_or files i x →
    slice_get (map source_of files) i ≡ Some (source_of x)
source_at files i x lt e = slice_get-map source_of files i ∙ ap (option_map source_of) (slice_get-get_or files i x lt ∙ ap Some (sym e))

pub no_source : (files : List FileParts) (i : ℕ) (s : SourceFile) → slice_get (map source_of files) i ≡ Some s → i < length files
no_source files i s e = rw length-map at (slice_get_within (map source_of files) i s e)

-- the value of the string literal is the import's path
pub path_at : (files : List SourceFile) (p : Laid) (d : ℕ) (s : SourceFile) (o : Option (Vec ℕ Global)) → slice_get files (p.layout.place d).file ≡ Some s →
    (let token = (p.layout.place (literal_of p.layout d)).index in MatchOption o ((v : List ℕ) → HasLiteral s token v → ⊥) (λ v. HasLiteral s token v.items)) →
    MatchOption o ((v : List ℕ) → IsPathOf files p d v → ⊥) (λ v. IsPathOf files p d v.items)
path_at files p d s None e h = λ v path.
    let token = (p.layout.place (literal_of p.layout d)).index in
    h v (subst (λ t. HasLiteral t token v) (same_file path.source s (sym path.is_file ∙ e)) path.has_literal)
path_at files p d s (Some v) e h = record { source = s; is_file = e; has_literal = h }

pub one_path : ((bytes v w : List ℕ) → HasStringValue bytes v → HasStringValue bytes w → v ≡ w) → (files : List SourceFile) (p : Laid) (d : ℕ) (v w : List ℕ) →
    IsPathOf files p d v → IsPathOf files p d w → v ≡ w
one_path one files p d v w a b =
    let token = (p.layout.place (literal_of p.layout d)).index in
    let other : HasLiteral a.source token w = subst (λ t. HasLiteral t token w) (same_file b.source a.source (sym b.is_file ∙ a.is_file)) b.has_literal in
    one (bytes_of a.source.cut.text (token_at a.source.cut token)) v w a.has_literal.stands_for other.stands_for
