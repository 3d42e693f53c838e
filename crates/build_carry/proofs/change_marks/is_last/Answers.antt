-- The last folder is one of them.
use Rattle.std.proofs.Common.{◌-◌, ℕ, List, Bor, length, sym, subst, ◌∙◌}
use Rattle.std.specs.Cmp.Lexicographic.{bytes_decides}
use Rattle.std.specs.List.{Contains}
use Rattle.base_lemmas.proofs.Elements.{is_mapped}
use Rattle.workspace_graph.specs.Borrows.{names}
use Rattle.workspace_check.proofs.PackageFiles.{at_rank}
use Rattle.build_carry.proofs.change_marks.is_last.Goals as goal

pub returns-in-Some : goal.returns-in-Some
returns-in-Some c = λ t.
    let fs = c.args.folders.now in
    let last = c.in-Some.last.now in
    let there = is_mapped (λ (f : Bor (List ℕ)). f.now) fs last (at_rank fs (length fs - 1) last (sym c.in-Some.ensures.value)) in
    subst (Contains (names fs)) ((bytes_decides last.now c.args.folder.now).0 (sym c.eq.ensures ∙ t)) there
