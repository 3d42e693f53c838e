-- The closures have the same texts just where the package is marked neither before nor after.
use Rattle.std.proofs.Common.{Bool, List, refl, sym, subst, ◌∙◌}
use Rattle.std.proofs.lemmas.Bool.{false≢true}
use Rattle.workspace_graph.specs.Search.{IsMarked}
use Rattle.build_carry.proofs.Carrying.{same_by_marks, before_unmarked, after_unmarked}
use Rattle.build_carry.proofs.carried.keeps_closure.Goals as goal

pub returns-then-is_marked : goal.returns-then-is_marked
returns-then-is_marked c = λ v w a b p at then.
    let before = c.args.marks.now.before.items in
    let after = c.args.marks.now.after.items in
    let marked = subst (λ (ms : List Bool). IsMarked ms c.args.old) c.deref.ensures.value (c.is_marked.ensures.0 c.if-is_marked.true) in (
      λ t. absurd (false≢true t),
      λ same. absurd (before_unmarked v w p before after c.args.old c.args.new a b at then same marked),
    )

pub returns-then-is_marked-2 : goal.returns-then-is_marked-2
returns-then-is_marked-2 c = λ v w a b p at then.
    let before = c.args.marks.now.before.items in
    let after = c.args.marks.now.after.items in
    let marked = subst (λ (ms : List Bool). IsMarked ms c.args.new) c.deref-2.ensures.value (c.is_marked-2.ensures.0 c.if-is_marked-2.true) in (
      λ t. absurd (false≢true t),
      λ same. absurd (after_unmarked v w p before after c.args.old c.args.new a b at then same marked),
    )

pub returns : goal.returns
returns c = λ v w a b p at then.
    let before = c.args.marks.now.before.items in
    let after = c.args.marks.now.after.items in (
      λ t. same_by_marks v w p before after c.args.old c.args.new a b at then
          (λ m. false≢true (sym c.if-is_marked.false ∙ c.is_marked.ensures.1 (rw c.deref.ensures.value m)))
          (λ m. false≢true (sym c.if-is_marked-2.false ∙ c.is_marked-2.ensures.1 (rw c.deref-2.ensures.value m))),
      λ same. refl,
    )
