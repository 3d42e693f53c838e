-- Locals as a function of the token that declares them.
use Rattle.std.proofs.Common.{ℕ, ◌≡◌, ◌==◌, Bool, true, false, Option, option_map, cond, if◌then◌else◌, ap, ◌∙◌, refl, [], arith}
use Rattle.std.proofs.Math.Path.{fun_ext}
use Rattle.std.specs.BTreeMap.{get, is_at, Updates}
use Rattle.std.specs.Map.{lookup}
use Rattle.std.specs.Ordering.{nat_cmp}
use Rattle.types_expr.specs.declared.locals.Locals.{Locals}
use Rattle.types_expr.specs.declared.types.GoType.{GoType}
use Rattle.types_expr.specs.World.{no_locals, declared}
use Rattle.types_expr.specs.Found.{locals_of}
use Rattle.types_expr.specs.View.{type_of}

pub none_there : (l : Locals) → l.types.entries ≡ [] → locals_of l ≡ no_locals
unfolding locals_of
none_there l e = fun_ext (λ place. ap (λ es. option_map type_of (lookup (is_at (nat_cmp place)) es)) e)

pub same_key : (p q : ℕ) → is_at (nat_cmp p) q ≡ (q == p)
same_key p q = grind (arith)

by_case : (b : Bool) (t : Option GoType) (old : Option GoType) →
    option_map type_of (cond b t old) ≡ (if b then option_map type_of t else option_map type_of old)
by_case true t old = refl
by_case false t old = refl

pub one_put : (old new : Locals) (place : ℕ) (t : Option GoType) → Updates nat_cmp old.types new.types place t →
    locals_of new ≡ declared (locals_of old) place (option_map type_of t)
unfolding locals_of
one_put old new place t u = fun_ext (λ q. ap (option_map type_of) (u.0 q) ∙ (by_case (is_at (nat_cmp place) q) t (get nat_cmp old.types q)
    ∙ ap (λ b. if b then option_map type_of t else option_map type_of (get nat_cmp old.types q)) (same_key place q)))
