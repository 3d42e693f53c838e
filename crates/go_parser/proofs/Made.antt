-- Derivations with the values that they build, put together from the end of a text to its beginning.
use Rattle.std.proofs.Common.{◌≡◌, Bool, true, List, ◌∷◌, ◌++◌, refl, ap, sym, ◌∙◌, subst}
use Rattle.go_ast.specs.declared.syntax.Kind.{Kind}
use Rattle.go_ast.specs.declared.syntax.Token.{Token}
use Rattle.go_ast.specs.Grammar.{GrammarSymbol, One, Opening, Close, A, Part, rules, TypeUse}
use Rattle.go_ast.specs.Language.{Among, tested, untested, below, Derives, token, opening, closing, by_rule}
use Rattle.go_ast.specs.Tree.{TypeTree, Local, Imported, Pointer, Slice}
use Rattle.go_ast.specs.Flatten.{type_tokens}
use Rattle.go_parser.proofs.OneValue.{Values, built, value}

pub record Made (ss : List GrammarSymbol) (vs : Values ss) (ts : List Token) : Type 0 where
  pub by : Derives ss ts
  pub gives : value by ≡ vs

pub one : {c : Kind → Bool} {t : Token} {ss : List GrammarSymbol} {vs : Values ss} {ts : List Token} → c t.kind ≡ true → Made ss vs ts →
    Made (One c ∷ ss) (t, vs) (t ∷ ts)
one {t = t} e m = record { by = token e m.by; gives = ap (λ v. (t, v)) m.gives }

pub opens : {c : Kind → Bool} {t : Token} {ss : List GrammarSymbol} {vs : Values ss} {ts : List Token} → c t.kind ≡ true → Made ss vs ts →
    Made (Opening c ∷ ss) (t, vs) (t ∷ ts)
opens {t = t} e m = record { by = opening e m.by; gives = ap (λ v. (t, v)) m.gives }

pub closes : {ss : List GrammarSymbol} {vs : Values ss} {ts : List Token} → Made ss vs ts → Made (Close ∷ ss) vs ts
closes m = record { by = closing m.by; gives = m.gives }

pub rule : {p : Part} {then ss : List GrammarSymbol} {vs : Values (then ++ ss)} {ws : Values (A p ∷ ss)} {ts : List Token} (a : Among (rules p) then) →
    Made (then ++ ss) vs ts → built p then ss a vs ≡ ws → Made (A p ∷ ss) ws ts
rule {p = p} {then = then} {ss = ss} a m e = record { by = by_rule a m.by; gives = ap (built p then ss a) m.gives ∙ e }

pub along : {ss : List GrammarSymbol} {vs : Values ss} {ts us : List Token} → ts ≡ us → Made ss vs us → Made ss vs ts
along {ss = ss} {vs = vs} e m = subst (λ x. Made ss vs x) (sym e) m

pub made_type : (t : TypeTree) {ss : List GrammarSymbol} {vs : Values ss} {ts : List Token} → Made ss vs ts →
    Made (A TypeUse ∷ ss) (t, vs) (type_tokens t ++ ts)
unfolding type_tokens
made_type (Local n) m = rule (below (below untested)) (one refl (rule (below untested) m refl)) refl
made_type (Imported p d n) m = rule (below (below untested)) (one refl (rule tested (one refl (one refl m)) refl)) refl
made_type (Pointer s t) m = rule tested (opens refl (made_type t (closes m))) refl
made_type (Slice o c t) m = rule (below tested) (opens refl (one refl (made_type t (closes m)))) refl
