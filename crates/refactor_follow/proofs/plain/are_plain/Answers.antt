-- The answers to the goals of `plain::are_plain`.
use Rattle.std.proofs.Common.{◌≡◌, below_more, sym, subst, ◌∙◌, arith}
use Rattle.std.specs.Prelude.{Some, map, slice_get}
use Rattle.std.proofs.lemmas.List.{length-map}
use Rattle.std.proofs.lemmas.Option.{same_Some, slice_get_within}
use Rattle.go_ast.specs.SourceFile.{SourceFile, source_of}
use Rattle.types_declared.proofs.PathParts.{source_at}
use Rattle.refactor_follow.specs.PlainPackages.{IsPlainFile}
use Rattle.refactor_follow.proofs.plain.are_plain.Goals as goal

pub loop-rank-preserved : goal.loop-rank-preserved
loop-rank-preserved c =
    let files = c.args.files.now in
    let of = c.args.of.now in
    let rank = c.loop-rank.rank in
    let file = c.index-files-rank.result in
    let at : slice_get (map source_of files) rank ≡ Some (source_of file) = source_at files rank file c.loop-rank-test.true c.index-files-rank.is in
    below_more _ _ c.loop-rank.invariant
    (λ f is. subst (λ (g : SourceFile). IsPlainFile g of.name.now of.old.now rank of.rows.now) (same_Some (source_of file) f (sym at ∙ is))
    (c.is_plain_file.ensures c.if-not-is_plain_file.false))

pub returns : goal.returns
returns c = λ t rank f is.
    let size = length-map c.args.files.now source_of in
    let within = slice_get_within (map source_of c.args.files.now) rank f is in
    c.loop-rank.invariant rank (omega (arith, size, within)) f is
