-- Packed changes with equal files and equal edits are equal, and no others.
use Rattle.std.proofs.Common.{sym, ◌∙◌}
use Rattle.std.proofs.lemmas.Bool.{false≢true}
use Rattle.base_packed.proofs.SameChanges.{changes_equal, parts_equal, same_kinded}
use Rattle.base_packed.proofs.packed.PackedChanges.same.Goals as goal

pub returns-then-not-all_same : goal.returns-then-not-all_same
returns-then-not-all_same c =
    let one = c.self.inside in
    let other = c.other.inside in (
      λ t. absurd (false≢true t),
      λ same.
          let parts = parts_equal one.kinds.items other.kinds.items one.files.items other.files.items one.edits.items other.edits.items c.self.invariant
          c.other.invariant (c.self.view_is ∙ same ∙ sym c.other.view_is) in
          absurd (false≢true (sym c.if-not-all_same.true ∙ c.all_same.ensures.1 (c.deref.ensures.value ∙ parts.0 ∙ sym c.deref-2.ensures.value))),
    )

pub returns : goal.returns
returns c =
    let one = c.self.inside in
    let other = c.other.inside in
    let mine = same_kinded c.deref-3.result.now one.kinds.items c.deref-4.result.now one.edits.items c.deref-3.ensures.value c.deref-4.ensures.value in
    let theirs = same_kinded c.deref-5.result.now other.kinds.items c.deref-6.result.now other.edits.items c.deref-5.ensures.value c.deref-6.ensures.value in
    let files = sym c.deref.ensures.value ∙ c.all_same.ensures.0 c.if-not-all_same.false ∙ c.deref-2.ensures.value in (
      λ t. sym c.self.view_is ∙ changes_equal one.kinds.items other.kinds.items one.files.items other.files.items one.edits.items other.edits.items files
          (sym mine ∙ c.same_edits.ensures.0 t ∙ theirs) ∙ c.other.view_is,
      λ same.
          let parts = parts_equal one.kinds.items other.kinds.items one.files.items other.files.items one.edits.items other.edits.items c.self.invariant
          c.other.invariant (c.self.view_is ∙ same ∙ sym c.other.view_is) in
          c.same_edits.ensures.1 (mine ∙ parts.1 ∙ sym theirs),
    )
