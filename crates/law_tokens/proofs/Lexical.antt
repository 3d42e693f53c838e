-- No scope binds an identifier whose role is not lexical.
use Rattle.std.proofs.Common.{ℕ, ◌≡◌, inl, inr, ap, sym, ◌∙◌, subst}
use Rattle.std.proofs.lemmas.Bool.{true≢false}
use Rattle.go_scope.specs.declared.model.Purpose.{Purpose}
use Rattle.go_scope.specs.declared.model.Role.TheVariants.{NotLexical}
use Rattle.go_scope.specs.Bindings.{Layout, Names, MayDeclare, IsBoundTo, use_bound, own, is_use, is_left_name, may_declare}

pub never_bound : (l : Layout) (names : Names) (u d : ℕ) (p : Purpose) → l.role u ≡ NotLexical p → IsBoundTo l names u d → ⊥
never_bound l names u d p e (use_bound (inl i) b) = true≢false (sym i ∙ ap is_use e)
never_bound l names u d p e (use_bound (inr i) b) = true≢false (sym i.0 ∙ ap is_left_name e)
never_bound l names u d p e (own same c) =
    let may : MayDeclare l u = subst (λ v. MayDeclare l v) (sym same) c.declares.may in
    true≢false (sym may ∙ ap may_declare e)
