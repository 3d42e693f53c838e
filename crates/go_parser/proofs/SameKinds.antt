-- Token lists that the program compares and finds equal.
use Rattle.std.proofs.Common.{rules, ◌≡◌, Bool, true, false, List, [], ◌∷◌, ap, sym, refl, ◌∙◌}
use Rattle.std.specs.Prelude.{◌&&◌}
use Rattle.std.proofs.lemmas.Bool.{true≢false, eqb-true, and_parts}
use Rattle.std.specs.Cmp.Lexicographic.{pointwise}
use denote.Enum.Bare.{same_true, sameb}
use Rattle.std.specs.Bool.{nat_eq}
use Rattle.go_ast.specs.contracts.syntax.Kind.{the_type}
use Rattle.go_ast.specs.contracts.syntax.TokenPartialEq.TheImpl as equal
use Rattle.go_ast.specs.declared.syntax.Token.{Token}

equal_parts : (x y : Token) → equal.ghosts.eq x y ≡ true → (x.kind ≡ y.kind) × (x.place ≡ y.place)
equal_parts x y e =
    let parts = and_parts (sameb the_type x.kind y.kind) (nat_eq x.place y.place) e in
    (same_true the_type (search rules) x.kind y.kind parts.0, eqb-true x.place y.place parts.1)

same_token : (x y : Token) → equal.ghosts.eq x y ≡ true → x ≡ y
same_token x y e = let h = equal_parts x y e in λ i. record { kind = h.0 i; place = h.1 i }

pub same_tokens : (xs ys : List Token) → pointwise equal.ghosts.eq xs ys ≡ true → xs ≡ ys
same_tokens [] [] e = refl
same_tokens [] (y ∷ ys) e = absurd (true≢false (sym e))
same_tokens (x ∷ xs) [] e = absurd (true≢false (sym e))
same_tokens (x ∷ xs) (y ∷ ys) e =
    let parts = and_parts (equal.ghosts.eq x y) (pointwise equal.ghosts.eq xs ys) e in
    ap (λ z. z ∷ xs) (same_token x y parts.0) ∙ ap (λ zs. y ∷ zs) (same_tokens xs ys parts.1)
