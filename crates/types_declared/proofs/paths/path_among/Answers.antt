-- The answers to the goals of `paths::path_among`.
use Rattle.std.proofs.Common.{ℕ, ◌≡◌, ◌<◌, ◌∙◌, List, length, map, ap, subst, arith, MatchOption}
use Rattle.std.specs.Prelude.{Some, slice_get}
use Rattle.std.proofs.lemmas.Result.{IfOk-weaker}
use Rattle.go_ast.specs.SourceFile.{source_of}
use Rattle.types_declared.specs.Files.{HasLiteral}
use Rattle.types_declared.specs.Laid.{laid_in, literal_of, IsPathOf}
use Rattle.types_declared.proofs.PathParts.{source_at, no_source, path_at}
use Rattle.types_declared.proofs.paths.path_among.Goals as goal

pub returns-then-file-files : goal.returns-then-file-files
returns-then-file-files c =
    let p = laid_in c.args.identifiers.now in
    let files = map source_of c.args.files.now in
    let s = source_of c.index-files-file.result in
    let at : c.place-file.result.file ≡ (p.layout.place c.args.d).file = ap (λ x. x.file) c.place-file.ensures in
    let is_file : slice_get files (p.layout.place c.args.d).file ≡ Some s =
    subst (λ i. slice_get files i ≡ Some s) at (source_at c.args.files.now c.place-file.result.file c.index-files-file.result (omega arith)
    c.index-files-file.is) in
    let token : c.place.result.index ≡ (p.layout.place (literal_of p.layout c.args.d)).index =
    ap (λ x. x.index) c.place.ensures ∙ ap (λ u. (p.layout.place u).index) c.literal_among.ensures.literal in
    IfOk-weaker c.literal.result
    (λ o. MatchOption o ((v : List ℕ) → HasLiteral s c.place.result.index v → ⊥) (λ v. HasLiteral s c.place.result.index v.items))
    (λ o. MatchOption o ((v : List ℕ) → IsPathOf files p c.args.d v → ⊥) (λ v. IsPathOf files p c.args.d v.items))
    (λ o h. path_at files p c.args.d s o is_file (subst (λ t. MatchOption o ((v : List ℕ) → HasLiteral s t v → ⊥) (λ v. HasLiteral s t v.items)) token h))
    c.literal.ensures

pub returns-else-file-files : goal.returns-else-file-files
returns-else-file-files c = λ v path.
    let p = laid_in c.args.identifiers.now in
    let at : c.place-file.result.file ≡ (p.layout.place c.args.d).file = ap (λ x. x.file) c.place-file.ensures in
    let lt : (p.layout.place c.args.d).file < length c.args.files.now = no_source c.args.files.now (p.layout.place c.args.d).file path.source path.is_file in
    absurd (omega arith)
