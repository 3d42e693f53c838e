-- The answers to the goals of `underlying::step_from`.
use Rattle.std.proofs.Common.{◌≡◌, ap, sym, subst, ◌∙◌}
use Rattle.types_expr.specs.Types.{Pointer, Slice, Plain, PointerTo, SliceOf}
use Rattle.types_expr.specs.View.{type_of}
use Rattle.types_expr.specs.WorldView.{underlying_of}
use Rattle.types_declared.specs.Definitions.{HasUnderlying, basic, pointer, slice}
use Rattle.types_declared.specs.PackageView.{package_of}
use Rattle.types_members.proofs.underlying.step_from.Goals as goal

pub returns-in-Basic : goal.returns-in-Basic
unfolding type_of underlying_of
returns-in-Basic c = subst (λ t. HasUnderlying (package_of c.args.pkg) t (Plain c.in-Basic.basic)) (sym (ap type_of c.in-Basic.is))
    (basic {b = c.in-Basic.basic})

pub returns-in_ok-copy-in-Pointer : goal.returns-in_ok-copy-in-Pointer
unfolding type_of underlying_of
returns-in_ok-copy-in-Pointer c =
    let p = package_of c.args.pkg in
    let own = type_of c.in_ok-copy-in-Pointer.field-0 in
    let e : Pointer (type_of c.deref.result.now) ≡ type_of c.args.named.now = ap (λ x. Pointer (type_of x)) c.deref.ensures ∙
    sym (ap type_of c.in-Pointer.is) in
    subst (λ t. HasUnderlying p t (PointerTo own)) e (subst (λ t. HasUnderlying p (Pointer t) (PointerTo own)) c.in_ok-copy-in-Pointer.ensures
    (pointer {t = own}))

pub returns-in_ok-copy-in-Slice : goal.returns-in_ok-copy-in-Slice
unfolding type_of underlying_of
returns-in_ok-copy-in-Slice c =
    let p = package_of c.args.pkg in
    let own = type_of c.in_ok-copy-in-Slice.field-0 in
    let e : Slice (type_of c.deref-in-Slice.result.now) ≡ type_of c.args.named.now = ap (λ x. Slice (type_of x)) c.deref-in-Slice.ensures ∙
    sym (ap type_of c.in-Slice.is) in
    subst (λ t. HasUnderlying p t (SliceOf own)) e (subst (λ t. HasUnderlying p (Slice t) (SliceOf own)) c.in_ok-copy-in-Slice.ensures (slice {t = own}))
