-- All derivations of a text build one value.
use Rattle.std.proofs.Common.{◌≡◌, true, false, List, [], ◌∷◌, ◌++◌, refl, ap, subst}
use Rattle.std.specs.Prelude.{◌&&◌}
use Rattle.go_ast.specs.declared.syntax.Kind.{Kind}
use Rattle.go_ast.specs.declared.syntax.Token.{Token}
use Rattle.go_ast.specs.Grammar.{GrammarSymbol, One, Opening, Close, A, Part, Rule, Begins, Otherwise, rules}
use Rattle.go_ast.specs.Language.{Among, tested, untested, below, Derives, ends, token, opening, closing, by_rule}
use Rattle.go_parser.proofs.Tables.{nullables, implies, looks, rules_fit, none_looks, decides}
use Rattle.go_parser.proofs.Predictive.{and_left, and_right, implied, none_at, sound_at, begins_so, looks_append, Good, good_rule, followed_at}
use Rattle.go_parser.proofs.EndOfText.{ends_decided, end_checked, none_empty_at, not_empty, nullables_append, derives_empty}
use Rattle.go_parser.proofs.Values.{Value, Takes, Makers, makers}

-- the value of a derivation

abbrev pub Values : List GrammarSymbol → Type 0
Values [] = Unit {0}
Values (One c ∷ ss) = Token × Values ss
Values (Opening c ∷ ss) = Token × Values ss
Values (Close ∷ ss) = Values ss
Values (A p ∷ ss) = Value p × Values ss

abbrev pub apply : {V : Type 0} (then ss : List GrammarSymbol) → Takes then V → Values (then ++ ss) → V × Values ss
apply [] ss f vs = (f, vs)
apply (One c ∷ then) ss f vs = apply then ss (f vs.0) vs.1
apply (Opening c ∷ then) ss f vs = apply then ss (f vs.0) vs.1
apply (Close ∷ then) ss f vs = apply then ss f vs
apply (A p ∷ then) ss f vs = apply then ss (f vs.0) vs.1

abbrev pub maker : (V : Type 0) (rs : List Rule) → Makers V rs → (then : List GrammarSymbol) → Among rs then → Takes then V
maker V [] ms then a = elim a [ ]
maker V (Begins c x ∷ rs) ms then tested = ms.0
maker V (Otherwise x ∷ rs) ms then untested = ms.0
maker V (r ∷ rs) ms then (below a) = maker V rs ms.1 then a

abbrev pub built : (p : Part) (then ss : List GrammarSymbol) → Among (rules p) then → Values (then ++ ss) → Values (A p ∷ ss)
built p then ss a vs = apply then ss (maker (Value p) (rules p) (makers p) then a) vs

abbrev pub value : {ss : List GrammarSymbol} {ts : List Token} → Derives ss ts → Values ss
value ends = tt
value (token {t = t} e x) = (t, value x)
value (opening {t = t} e x) = (t, value x)
value (closing x) = value x
value (by_rule {p = p} {then = then} {ss = ss} a x) = built p then ss a (value x)

-- at most one rule of a part is applied: before a token, and at the end

abbrev Chosen : List Rule → Type 0
Chosen rs = (then : List GrammarSymbol) × Among rs then

abbrev further : (r : Rule) (rs : List Rule) → Chosen rs → Chosen (r ∷ rs)
further r rs x = (x.0, below x.1)

one_rule : (p : Part) (rs : List Rule) (k : Kind) (x y : List GrammarSymbol) (a : Among rs x) (b : Among rs y) → decides p rs k ≡ true →
    looks p x k ≡ true → looks p y k ≡ true → let m : Chosen rs = (x, a) in let n : Chosen rs = (y, b) in m ≡ n
one_rule p [] k x y a b e l m = elim a [ ]
one_rule p (Begins c t ∷ rs) k x y tested tested e l m = refl
one_rule p (Begins c t ∷ rs) k x y tested (below b) e l m =
    absurd (none_at p rs k y b (implied (c k) (none_looks p rs k)
    (and_left (implies (c k) (none_looks p rs k)) (decides p rs k)
    (and_right (implies (looks p t k) (c k)) (implies (c k) (none_looks p rs k) && decides p rs k) e))
    (implied (looks p t k) (c k) (and_left (implies (looks p t k) (c k)) (implies (c k) (none_looks p rs k) && decides p rs k) e) l)) m)
one_rule p (Begins c t ∷ rs) k x y (below a) tested e l m =
    absurd (none_at p rs k x a (implied (c k) (none_looks p rs k)
    (and_left (implies (c k) (none_looks p rs k)) (decides p rs k)
    (and_right (implies (looks p t k) (c k)) (implies (c k) (none_looks p rs k) && decides p rs k) e))
    (implied (looks p t k) (c k) (and_left (implies (looks p t k) (c k)) (implies (c k) (none_looks p rs k) && decides p rs k) e) m)) l)
one_rule p (Begins c t ∷ rs) k x y (below a) (below b) e l m =
    ap (further (Begins c t) rs) (one_rule p rs k x y a b
    (and_right (implies (c k) (none_looks p rs k)) (decides p rs k)
    (and_right (implies (looks p t k) (c k)) (implies (c k) (none_looks p rs k) && decides p rs k) e)) l m)
one_rule p (Otherwise t ∷ rs) k x y untested untested e l m = refl
one_rule p (Otherwise t ∷ rs) k x y untested (below b) e l m = absurd (none_at p rs k y b e m)
one_rule p (Otherwise t ∷ rs) k x y (below a) b e l m = absurd (none_at p rs k x a e l)

one_empty : (rs : List Rule) (x y : List GrammarSymbol) (a : Among rs x) (b : Among rs y) → ends_decided rs ≡ true →
    nullables x ≡ true → nullables y ≡ true → let m : Chosen rs = (x, a) in let n : Chosen rs = (y, b) in m ≡ n
one_empty [] x y a b e l m = elim a [ ]
one_empty (Begins c t ∷ rs) x y tested b e l m = absurd (not_empty x rs e l)
one_empty (Begins c t ∷ rs) x y (below a) tested e l m = absurd (not_empty y rs e m)
one_empty (Begins c t ∷ rs) x y (below a) (below b) e l m =
    ap (further (Begins c t) rs) (one_empty rs x y a b (and_right (implies (nullables t) false) (ends_decided rs) e) l m)
one_empty (Otherwise t ∷ rs) x y untested untested e l m = refl
one_empty (Otherwise t ∷ rs) x y untested (below b) e l m = absurd (none_empty_at rs y b e m)
one_empty (Otherwise t ∷ rs) x y (below a) b e l m = absurd (none_empty_at rs x a e l)

one_chosen : (p : Part) (ss : List GrammarSymbol) (ts : List Token) (x y : List GrammarSymbol) (a : Among (rules p) x) (b : Among (rules p) y) →
    Derives (x ++ ss) ts → Derives (y ++ ss) ts → Good (A p ∷ ss) →
    let m : Chosen (rules p) = (x, a) in let n : Chosen (rules p) = (y, b) in m ≡ n
one_chosen p ss [] x y a b d e g =
    one_empty (rules p) x y a b (end_checked p) (nullables_append x ss (derives_empty d)).0 (nullables_append y ss (derives_empty e)).0
one_chosen p ss (t ∷ ts) x y a b d e g =
    one_rule p (rules p) t.kind x y a b (and_right (rules_fit p (rules p) t.kind) (decides p (rules p) t.kind) (sound_at p t.kind))
    (looks_append p x ss t.kind g.0 (begins_so d)) (looks_append p y ss t.kind g.0 (begins_so e))

built_same : (p : Part) (ss : List GrammarSymbol) (ts : List Token) (m n : Chosen (rules p)) → m ≡ n → (x : Derives (m.0 ++ ss) ts) (y : Derives (n.0 ++ ss)
    ts) →
    ((z : Derives (m.0 ++ ss) ts) → value x ≡ value z) → built p m.0 ss m.1 (value x) ≡ built p n.0 ss n.1 (value y)
built_same p ss ts m n e x y f =
    let P : Chosen (rules p) → Type 0 = λ n. (y : Derives (n.0 ++ ss) ts) → built p m.0 ss m.1 (value x) ≡ built p n.0 ss n.1 (value y) in
    subst P e (λ y. ap (built p m.0 ss m.1) (f y)) y

pub one_value : {ss : List GrammarSymbol} {ts : List Token} (x y : Derives ss ts) → Good ss → value x ≡ value y
one_value ends ends g = refl
one_value (token {t = t} e x) (token f y) g = ap (λ v. (t, v)) (one_value x y g)
one_value (opening {t = t} e x) (opening f y) g = ap (λ v. (t, v)) (one_value x y g)
one_value (closing x) (closing y) g = one_value x y g
one_value {ts = ts} (by_rule {p = p} {then = then} {ss = ss} a x) (by_rule {then = other} b y) g =
    built_same p ss ts (then, a) (other, b) (one_chosen p ss ts then other a b x y g) x y
    (λ z. one_value x z (good_rule p ss g.0 g.1 then (followed_at p then a)))
