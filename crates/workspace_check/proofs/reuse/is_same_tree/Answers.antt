-- The answers to the goals of `reuse::is_same_tree`.
use Rattle.std.proofs.Common.{◌≡◌, List, ℕ, sym, ap, ◌∙◌}
use Rattle.std.proofs.Math.Path.{ap₂}
use Rattle.std.specs.Cmp.Lexicographic.{bytes_decides}
use Rattle.go_scanner.specs.CutText.{CutText}
use Rattle.workspace_check.proofs.reuse.is_same_tree.Goals as goal

pub returns-then-eq : goal.returns-then-eq
returns-then-eq c = λ t.
    let paths : c.path.result.now ≡ c.path-2.result.now = (bytes_decides _ _).0 (sym c.eq.ensures ∙ c.if-eq.true) in
    let texts : c.file.result.now ≡ c.file-then-eq.result.now = (bytes_decides _ _).0 (sym c.eq-then-eq.ensures ∙ t) in
    ap₂ (λ (path text : List ℕ). (path, text)) (sym c.path.ensures ∙ paths ∙ c.path-2.ensures)
    (ap (λ (x : CutText). x.text) (sym c.pieces.ensures) ∙ sym c.file.ensures.text ∙ texts ∙ c.file-then-eq.ensures.text ∙
    ap (λ (x : CutText). x.text) c.pieces-then-eq.ensures)
