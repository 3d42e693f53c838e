-- The fields that keys named, as a function of their ranks.
use Rattle.std.proofs.Common.{ℕ, ◌≡◌, ◌==◌, ◌||◌, Bool, true, false, ap, ◌∙◌, refl, [], cond}
use Rattle.std.proofs.Math.Path.{fun_ext}
use Rattle.std.specs.BTreeSet.{contains, Updates}
use Rattle.std.specs.BTreeMap.{is_at}
use Rattle.std.specs.List.{list_any}
use Rattle.std.specs.Ordering.{nat_cmp}
use Rattle.types_expr.specs.declared.keys.SeenFields.{SeenFields}
use Rattle.types_expr.specs.Judge.{none_seen}
use Rattle.types_expr.specs.Found.{seen_of}
use Rattle.types_expr.proofs.LocalTypes.{same_key}

pub none_there : (s : SeenFields) → s.ranks.keys ≡ [] → seen_of s ≡ none_seen
unfolding seen_of
none_there s e = fun_ext (λ rank. ap (list_any (is_at (nat_cmp rank))) e)

by_case : (b c : Bool) → cond b true c ≡ (b || c)
by_case true c = refl
by_case false c = refl

pub one_more : (old new : SeenFields) (rank : ℕ) → Updates nat_cmp old.ranks new.ranks rank true → seen_of new ≡ (λ other. other == rank || seen_of old other)
unfolding seen_of
one_more old new rank u = fun_ext (λ other. u.0 other ∙
    (by_case (is_at (nat_cmp rank) other) (contains nat_cmp old.ranks other) ∙ ap (λ b. b || contains nat_cmp old.ranks other) (same_key rank other)))
