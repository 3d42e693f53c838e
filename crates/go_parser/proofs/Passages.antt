-- From a run of some parts to a run of others, by the tokens that the parser has looked ahead at.
use Rattle.std.proofs.Common.{ℕ, ◌≡◌, ap, sym, ◌∙◌, subst, Bool, true, false, List, [], ◌∷◌, refl, cond, ◌&&◌, ◌||◌}
use Rattle.go_ast.specs.declared.syntax.Kind.{Kind}
use Rattle.go_ast.specs.declared.syntax.Kind.TheVariants as kind
use Rattle.go_ast.specs.declared.syntax.Token.{Token}
use Rattle.go_ast.specs.Grammar.{GrammarSymbol, One, A, rules, is, Links, AfterName, AfterSelector, AfterTypeName, AfterLiteralName, Address, Elements, Element}
use Rattle.go_ast.specs.Grammar.{Expression, Unary, slice_type}
use Rattle.go_parser.specs.Machine.{ParserRun, take, refused, expand, Selects, first, later, last, at, Outcome}
use Rattle.go_parser.specs.Lookahead.{the_rest, names_literal, begins_key}
use Rattle.go_parser.specs.Parsing.{Leads}
use Rattle.go_parser.proofs.KindTests.{is_only}

clash : {X : Type 0} → false ≡ true → X
clash e = absurd (let f : ⊥ = cc in f)

pub and_left : (a b : Bool) → (a && b) ≡ true → a ≡ true
and_left true b e = refl
and_left false b e = e

pub and_right : (a b : Bool) → (a && b) ≡ true → b ≡ true
and_right true b e = e
and_right false b e = clash e

pub and_off : (a b : Bool) → (a && b) ≡ false → a ≡ true → b ≡ false
and_off true b e h = e
and_off false b e h = clash h

pub or_off_left : (a b : Bool) → (a || b) ≡ false → a ≡ false
or_off_left true b e = e
or_off_left false b e = refl

pub or_off_right : (a b : Bool) → (a || b) ≡ false → b ≡ false
or_off_right true b e = clash (sym e)
or_off_right false b e = e

or_other : (a b : Bool) → (a || b) ≡ true → a ≡ false → b ≡ true
or_other true b e h = clash (sym h)
or_other false b e h = e

or_other_left : (a b : Bool) → (a || b) ≡ true → b ≡ false → a ≡ true
or_other_left true b e h = refl
or_other_left false b e h = clash (sym h ∙ e)

pub under_one : {c : Kind → Bool} {x y : List GrammarSymbol} {d : ℕ} {ts : List Token} {o : Outcome} →
    ((t : Token) (rest : List Token) → ts ≡ t ∷ rest → c t.kind ≡ true → ParserRun d x rest o → ParserRun d y rest o) →
    ParserRun d (One c ∷ x) ts o → ParserRun d (One c ∷ y) ts o
under_one h (take {t = t} {ts = ts} e r) = take e (h t ts refl e r)
under_one h (refused e) = refused e

not_at : (j k : Kind) (ts : List Token) → is k j ≡ false → at (is j) ts ≡ true → at (is k) ts ≡ false
not_at j k [] d e = refl
not_at j k (t ∷ ts) d e = subst (λ i. is k i ≡ false) (sym (is_only j t.kind e)) d

-- a test of the tokens after the first
behind_is : (t : Token) (ts rest : List Token) (c : Kind → Bool) (b : Bool) → ts ≡ t ∷ rest → at c (the_rest ts) ≡ b → at c rest ≡ b
behind_is t ts rest c b e h = sym (ap (λ x. at c (the_rest x)) e) ∙ h

-- names and literals

literal_behind : {d : ℕ} {ss : List GrammarSymbol} {ts : List Token} {o : Outcome} →
    (at (is kind.LeftBrace) ts || (at (is kind.Dot) ts && (at (is kind.Name) (the_rest ts) && at (is kind.LeftBrace) (the_rest (the_rest ts))))) ≡ true →
    ParserRun d (A AfterTypeName ∷ A Elements ∷ A (Links false) ∷ ss) ts o → ParserRun d (A (AfterName false) ∷ ss) ts o
literal_behind {ts = ts} h (expand (first e) r) =
    let brace : at (is kind.LeftBrace) ts ≡ false = not_at kind.Dot kind.LeftBrace ts refl e in
    let g = and_right (at (is kind.Name) (the_rest ts)) (at (is kind.LeftBrace) (the_rest (the_rest ts)))
    (and_right (at (is kind.Dot) ts) (at (is kind.Name) (the_rest ts) && at (is kind.LeftBrace) (the_rest (the_rest ts)))
    (or_other (at (is kind.LeftBrace) ts) (at (is kind.Dot) ts && (at (is kind.Name) (the_rest ts) && at (is kind.LeftBrace) (the_rest (the_rest ts)))) h
    brace)) in
    expand (later brace (first e)) (under_one (λ t rest f m r.
    under_one (λ u more g' n r. expand
    (first (sym (ap (λ x. at (is kind.LeftBrace) (the_rest (the_rest x))) f ∙ ap (λ x. at (is kind.LeftBrace) (the_rest x)) g') ∙ g)) r) r) r)
literal_behind {ts = ts} h (expand (later e last) r) =
    expand (first (or_other_left (at (is kind.LeftBrace) ts)
    (at (is kind.Dot) ts && (at (is kind.Name) (the_rest ts) && at (is kind.LeftBrace) (the_rest (the_rest ts)))) h
    (ap (λ b. b && (at (is kind.Name) (the_rest ts) && at (is kind.LeftBrace) (the_rest (the_rest ts)))) e))) r

pub unary_literal : (h : Bool) (d : ℕ) (ts : List Token) → at (is kind.Name) ts ≡ true → cond h false (names_literal ts) ≡ true →
    Leads (A (Unary h) ∷ []) (One (is kind.Name) ∷ A AfterTypeName ∷ A Elements ∷ A (Links h) ∷ []) [] d ts d ts
unary_literal true d ts e g = clash g
unary_literal false d ts e g = record {
  text = refl;
  leads = λ after o r. expand (first e) (under_one (λ t rest f m r. literal_behind (sym (ap names_literal f) ∙ g) r) r);
}

same_links : (h : Bool) {d : ℕ} {ss : List GrammarSymbol} {ts : List Token} {o : Outcome} → (h ≡ false → at (is kind.LeftBrace) ts ≡ false) →
    ParserRun d (A (Links h) ∷ ss) ts o → ParserRun d (A (AfterSelector h) ∷ ss) ts o
same_links true g (expand s r) = expand s r
same_links false g (expand s r) = expand (later (g refl) s) r

links_behind : (h : Bool) {d : ℕ} {ss : List GrammarSymbol} {ts : List Token} {o : Outcome} →
    (h ≡ false → (at (is kind.LeftBrace) ts || (at (is kind.Dot) ts && (at (is kind.Name) (the_rest ts) && at (is kind.LeftBrace) (the_rest (the_rest ts))))) ≡
    false) →
    ParserRun d (A (Links h) ∷ ss) ts o → ParserRun d (A (AfterName h) ∷ ss) ts o
links_behind true {ts = ts} g (expand (first e) r) =
    expand (first e) (under_one (λ t rest f m r. under_one (λ u more f' n r. same_links true (λ x. clash (sym x)) r) r) r)
links_behind true g (expand (later e s) r) = expand (later e s) r
links_behind false {ts = ts} g (expand (first e) r) =
    expand (later (not_at kind.Dot kind.LeftBrace ts refl e) (first e)) (under_one (λ t rest f m r. under_one (λ u more f' n r. same_links false (λ x.
    sym (ap (λ y. at (is kind.LeftBrace) (the_rest (the_rest y))) f ∙ ap (λ y. at (is kind.LeftBrace) (the_rest y)) f')
    ∙ and_off (at (is kind.Name) (the_rest ts)) (at (is kind.LeftBrace) (the_rest (the_rest ts)))
    (and_off (at (is kind.Dot) ts) (at (is kind.Name) (the_rest ts) && at (is kind.LeftBrace) (the_rest (the_rest ts)))
    (or_off_right (at (is kind.LeftBrace) ts) (at (is kind.Dot) ts && (at (is kind.Name) (the_rest ts) && at (is kind.LeftBrace) (the_rest (the_rest ts))))
    (g refl)) e)
    (ap (λ y. at (is kind.Name) (the_rest y)) f ∙ (ap (at (is kind.Name)) f' ∙ n))) r) r) r)
links_behind false {ts = ts} g (expand (later e s) r) =
    expand (later (or_off_left (at (is kind.LeftBrace) ts)
    (at (is kind.Dot) ts && (at (is kind.Name) (the_rest ts) && at (is kind.LeftBrace) (the_rest (the_rest ts)))) (g refl)) (later e s)) r

cond_off : (h b : Bool) → cond h false b ≡ false → h ≡ false → b ≡ false
cond_off true b e f = clash (sym f)
cond_off false b e f = e

pub unary_name : (h : Bool) (d : ℕ) (ts : List Token) → at (is kind.Name) ts ≡ true → cond h false (names_literal ts) ≡ false →
    Leads (A (Unary h) ∷ []) (One (is kind.Name) ∷ A (Links h) ∷ []) [] d ts d ts
unary_name h d ts e g = record {
  text = refl;
  leads = λ after o r. expand (first e) (under_one (λ t rest f m r. links_behind h (λ x. sym (ap names_literal f) ∙ cond_off h (names_literal ts) g x) r) r);
}

-- composite literals after `&`

literal_name : {d : ℕ} {ss : List GrammarSymbol} {ts : List Token} {o : Outcome} →
    ParserRun d (A AfterTypeName ∷ A Elements ∷ ss) ts o → ParserRun d (A AfterLiteralName ∷ ss) ts o
literal_name (expand (first e) r) = expand (first e) r
literal_name (expand (later e last) r) = expand (later e last) r

pub address_name : (h : Bool) (d : ℕ) (ts : List Token) → cond h false (at (is kind.Name) ts) ≡ true →
    Leads (A (Address h) ∷ []) (One (is kind.Name) ∷ A AfterTypeName ∷ A Elements ∷ []) [] d ts d ts
address_name true d ts e = clash e
address_name false d ts e = record { text = refl; leads = λ after o r. expand (first e) (under_one (λ t rest f m r. literal_name r) r) }

pub address_slice : (h : Bool) (ts : List Token) → cond h false (at (is kind.Name) ts) ≡ false → Selects (rules (Address h)) ts (slice_type (A Elements ∷ []))
address_slice true ts e = last
address_slice false ts e = later e last

-- elements

pub element_key : (d : ℕ) (ts : List Token) → begins_key ts ≡ true →
    Leads (A Element ∷ []) (One (is kind.Name) ∷ One (is kind.Colon) ∷ A (Expression false) ∷ []) [] d ts d ts
element_key d ts e = record {
  text = refl;
  leads = λ after o r. expand (first (and_left (at (is kind.Name) ts) (at (is kind.Colon) (the_rest ts)) e))
      (under_one (λ t rest f m r. expand (first (behind_is t ts rest (is kind.Colon) true f
      (and_right (at (is kind.Name) ts) (at (is kind.Colon) (the_rest ts)) e))) r) r);
}

element_run : {d : ℕ} {ss : List GrammarSymbol} {ts : List Token} {o : Outcome} → begins_key ts ≡ false →
    ParserRun d (A (Expression false) ∷ ss) ts o → ParserRun d (A Element ∷ ss) ts o
element_run {ts = ts} e (expand last (expand (first n) r)) =
    expand (first n) (under_one (λ t rest f m r. expand
    (later (behind_is t ts rest (is kind.Colon) false f (and_off (at (is kind.Name) ts) (at (is kind.Colon) (the_rest ts)) e n)) last) r) r)
element_run e (expand last (expand (later n last) r)) = expand (later n last) r

pub element_value : (d : ℕ) (ts : List Token) → begins_key ts ≡ false → Leads (A Element ∷ []) (A (Expression false) ∷ []) [] d ts d ts
element_value d ts e = record { text = refl; leads = λ after o r. element_run e r }
