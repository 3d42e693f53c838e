-- The answers to the goals of `reuse::is_same_path`.
use Rattle.std.proofs.Common.{◌≡◌, Some, sym, ap, ◌∙◌}
use Rattle.std.specs.Cmp.Lexicographic.{bytes_decides}
use Rattle.workspace_check.proofs.reuse.is_same_path.Goals as goal

pub returns : goal.returns
returns c = λ t.
    let same : c.as_slice.result.now ≡ c.as_slice-2.result.now = (bytes_decides _ _).0 (sym c.eq.ensures ∙ t) in
    c.package.ensures.path ∙ ap Some (sym c.as_slice.ensures.value ∙ same ∙ c.as_slice-2.ensures.value) ∙ sym c.package-2.ensures.path
