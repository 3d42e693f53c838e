-- The answers to the goals of `written::mentioned`.
use Rattle.std.proofs.Common.{ap, sym, subst, ◌∙◌}
use Rattle.std.specs.Prelude.{None}
use Rattle.go_ast.specs.Tree.{Pointer, Slice}
use Rattle.go_ast.specs.View.{type_view}
use Rattle.types_declared.specs.PackageView.{package_of}
use Rattle.types_declared.specs.WrittenView.{IsMentionedBy}
use Rattle.types_declared.proofs.WrittenTypes.{mentions_no_import, mentioned_pointer, mentioned_slice}
use Rattle.types_declared.proofs.written.+mentioned.Goals as goal

pub returns-in-Local : goal.returns-in-Local
unfolding type_view
returns-in-Local t c = subst (λ w. IsMentionedBy (package_of c.args.pkg) c.args.file w c.local_definition.result) (sym (ap type_view c.in-Local.is))
    c.local_definition.ensures

pub returns-in-Imported : goal.returns-in-Imported
unfolding type_view
returns-in-Imported t c =
    subst (λ w. IsMentionedBy (package_of c.args.pkg) c.args.file w None) (sym (ap type_view c.in-Imported.is))
    (mentions_no_import (package_of c.args.pkg) c.args.file c.in-Imported.«package» c.in-Imported.dot c.in-Imported.name)

pub returns-in-Pointer : goal.returns-in-Pointer
unfolding type_view
returns-in-Pointer t c =
    subst (λ w. IsMentionedBy (package_of c.args.pkg) c.args.file w c.mentioned.result)
    (ap (λ x. Pointer c.in-Pointer.star (type_view x)) c.deref.ensures ∙ sym (ap type_view c.in-Pointer.is))
    (mentioned_pointer (package_of c.args.pkg) c.args.file c.in-Pointer.star (type_view c.deref.result.now) c.mentioned.result c.mentioned.ensures)

pub returns-in-Slice : goal.returns-in-Slice
unfolding type_view
returns-in-Slice t c =
    subst (λ w. IsMentionedBy (package_of c.args.pkg) c.args.file w c.mentioned-in-Slice.result)
    (ap (λ x. Slice c.in-Slice.«open» c.in-Slice.close (type_view x)) c.deref-in-Slice.ensures ∙ sym (ap type_view c.in-Slice.is))
    (mentioned_slice (package_of c.args.pkg) c.args.file c.in-Slice.«open» c.in-Slice.close (type_view c.deref-in-Slice.result.now)
    c.mentioned-in-Slice.result c.mentioned-in-Slice.ensures)
