-- One more file, and all of them at the end.
use Rattle.std.proofs.Common.{◌≡◌, ◌+◌, ◌++◌, ◌∷◌, [], Bor, Global, List, Vec, ℕ, take, arith, sym, subst, ◌∙◌}
use Rattle.std.proofs.lemmas.Bool.{true≢false}
use Rattle.std.proofs.lemmas.List.{take_all}
use Rattle.workspace_graph.specs.Borrows.{names}
use Rattle.workspace_graph.proofs.ChangedFiles.{names_more}
use Rattle.build_carry.specs.Named.{AddsFolder}
use Rattle.build_carry.proofs.ChangedFiles.{AreNoted, all_noted, noted_changed, noted_kept}
use Rattle.build_carry.proofs.change_marks.changed_among.Goals.{then-not-keeps_file+in_ok-add_folder, else-not-keeps_file}
use Rattle.build_carry.proofs.change_marks.changed_among.Goals as goal

pub loop-path-preserved : goal.loop-path-preserved
loop-path-preserved c =
    let v = c.args.before.now in
    let w = c.args.after.now in
    let all = c.args.paths.now in
    let k = c.loop-path.path-index in
    let path = c.path-item.result.now in
    let passed = names (take k all) in
    let found = names c.loop-path.changed.items in
    let more : names (take (k + 1) all) ≡ passed ++ path ∷ [] = names_more all k c.path-item.result c.loop-path-test.true c.path-item.is in
    let holds : Vec (Bor (List ℕ)) Global → Type 0 = λ folders. AreNoted v w (passed ++ path ∷ []) (names folders.items) in
    subst (λ ps. AreNoted v w ps (names c.if-not-keeps_file.changed.items)) (sym more)
    (elim c.if-not-keeps_file.branch [
      | then-not-keeps_file+in_ok-add_folder b ↦ subst holds (sym b.changed-is)
          (noted_changed v w passed found path c.loop-path.invariant (names b.add_folder.new.folders.items)
          (λ keeps. true≢false (sym (c.keeps_file.ensures.1 keeps) ∙ b.if-not-keeps_file.true))
          (subst (λ f. AddsFolder f found (names b.add_folder.new.folders.items)) b.folder.ensures b.in_ok-add_folder.ensures))
      | else-not-keeps_file b ↦ subst holds (sym b.changed-is)
          (noted_kept v w passed found path c.loop-path.invariant (c.keeps_file.ensures.0 b.if-not-keeps_file.false))
    ])

pub returns : goal.returns
returns c =
    let v = c.args.before.now in
    let w = c.args.after.now in
    let all = c.args.paths.now in
    let found = names c.loop-path.changed.items in
    all_noted v w (names all) found c.requires
    (subst (λ (ps : List (Bor (List ℕ))). AreNoted v w (names ps) found) (take_all c.loop-path.path-index all (omega (arith, c.loop-path-test.false)))
    c.loop-path.invariant)
