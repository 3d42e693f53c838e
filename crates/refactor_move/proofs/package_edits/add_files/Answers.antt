-- The answers to the goals of `package_edits::add_files`.
use Rattle.std.proofs.Common.{◌≡◌, length, ap, ◌∙◌, arith}
use Rattle.std.specs.Prelude.{map}
use Rattle.std.proofs.lemmas.List.{length-map}
use Rattle.go_ast.specs.SourceFile.{source_of}
use Rattle.refactor_move.specs.Steps.{AreEditsIn, HasFileIn}
use Rattle.refactor_move.proofs.EditMaps.{IsFileBelow, adds_as, next_file, all_below}
use Rattle.refactor_move.proofs.package_edits.add_files.Goals as goal

pub loop-rank-preserved : goal.loop-rank-preserved
loop-rank-preserved c = λ p is.
    next_file p c.args.of.now.moved.now c.loop-rank.rank c.args.edits.now c.loop-rank.edits c.add_file.new.edits (c.loop-rank.invariant p is)
    (c.in_ok-add_file.ensures p is)

pub returns : goal.returns
returns c = λ p is.
    let m = c.args.of.now.moved.now in
    let size = length-map c.args.of.now.files.now source_of in
    let files = ap length is.files in
    let end : c.loop-rank.rank ≡ length p.files = omega (arith, size, files) in
    adds_as c.args.edits.now c.loop-rank.edits (AreEditsIn p m) (AreEditsIn p m) (IsFileBelow p c.loop-rank.rank) (HasFileIn p) (λ q es k. k)
    (λ q h. all_below p c.loop-rank.rank end q h) (c.loop-rank.invariant p is)
