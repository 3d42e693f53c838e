-- A text at which the machine stops for syntax is no whole text: a derivation goes by the selected rule also at the end of the text.
use Rattle.std.proofs.Common.{ℕ, ◌≡◌, Bool, true, false, List, [], ◌∷◌, ◌++◌, refl, sym, ◌∙◌, subst}
use Rattle.std.specs.Prelude.{◌&&◌}
use Rattle.std.proofs.lemmas.Bool.{and_from}
use Rattle.go_ast.specs.declared.syntax.Kind.TheVariants as kind
use Rattle.go_ast.specs.declared.syntax.Token.{Token}
use Rattle.go_ast.specs.declared.syntax.TokenFaultKind.TheVariants.{Syntax}
use Rattle.go_ast.specs.Grammar.{GrammarSymbol, One, Opening, Close, A, Part, Rule}
use Rattle.go_ast.specs.Grammar.{Begins, Otherwise, rules, Single, ImportItem, GlobalItem, TypeItem, LocalItem}
use Rattle.go_ast.specs.Grammar.{AfterName, AfterSelector, Address, File}
use Rattle.go_ast.specs.Language.{Among, tested, untested, below, Derives, ends, token, opening, closing, by_rule, IsSyntaxFault}
use Rattle.go_parser.specs.Machine.{ParserRun, take, opens, closes, expand, refused}
use Rattle.go_parser.specs.Machine.{refused_opening, left_over, Stopped, Selects, first as selects_first, later, last}
use Rattle.go_parser.proofs.Tables.{first, firsts, followed, nullable, nullables, implies, symbols_of}
use Rattle.go_parser.proofs.Predictive.{and_left, and_right, rule_at, implied, no, Good, good_rule, followed_at, selected, goes_by, after_token}
use Rattle.go_parser.proofs.Predictive.{after_opening, after_closing, stops_at}

-- at the end only the last rule may be applied

abbrev none_empty : List Rule → Bool
none_empty [] = true
none_empty (r ∷ rs) = implies (nullables (symbols_of r)) false && none_empty rs

abbrev pub ends_decided : List Rule → Bool
ends_decided [] = true
ends_decided (Begins c then ∷ rs) = implies (nullables then) false && ends_decided rs
ends_decided (Otherwise then ∷ rs) = none_empty rs

pub end_checked : (p : Part) → ends_decided (rules p) ≡ true
end_checked File = refl
end_checked (Single ImportItem) = refl
end_checked (Single GlobalItem) = refl
end_checked (Single TypeItem) = refl
end_checked (Single LocalItem) = refl
end_checked (AfterName true) = refl
end_checked (AfterName false) = refl
end_checked (AfterSelector true) = refl
end_checked (AfterSelector false) = refl
end_checked (Address true) = refl
end_checked (Address false) = refl
end_checked _ = refl

pub none_empty_at : (rs : List Rule) (x : List GrammarSymbol) → Among rs x → none_empty rs ≡ true → nullables x ≡ true → ⊥
none_empty_at [] x a e n = elim a [ ]
none_empty_at (Begins c t ∷ rs) x tested e n = no (implied (nullables x) false (and_left (implies (nullables x) false) (none_empty rs) e) n)
none_empty_at (Otherwise t ∷ rs) x untested e n = no (implied (nullables x) false (and_left (implies (nullables x) false) (none_empty rs) e) n)
none_empty_at (r ∷ rs) x (below a) e n = none_empty_at rs x a (and_right (implies (nullables (symbols_of r)) false) (none_empty rs) e) n

-- a rule that begins with a test is not empty
pub not_empty : (t : List GrammarSymbol) (rs : List Rule) → (implies (nullables t) false && ends_decided rs) ≡ true → nullables t ≡ true → ⊥
not_empty t rs e n = no (implied (nullables t) false (and_left (implies (nullables t) false) (ends_decided rs) e) n)

pub nullables_append : (a b : List GrammarSymbol) → nullables (a ++ b) ≡ true → (nullables a ≡ true) × (nullables b ≡ true)
nullables_append [] b e = (refl, e)
nullables_append (One c ∷ a) b e = absurd (no e)
nullables_append (Opening c ∷ a) b e = absurd (no e)
nullables_append (Close ∷ a) b e = nullables_append a b e
nullables_append (A p ∷ a) b e =
    let r = nullables_append a b (and_right (nullable p) (nullables (a ++ b)) e) in
    (and_from (nullable p) (nullables a) (and_left (nullable p) (nullables (a ++ b)) e) r.0, r.1)

pub derives_empty : {ss : List GrammarSymbol} → Derives ss [] → nullables ss ≡ true
derives_empty ends = refl
derives_empty (closing x) = derives_empty x
derives_empty (by_rule {p = p} {then = then} {ss = ss} a x) =
    let r = nullables_append then ss (derives_empty x) in
    and_from (nullable p) (nullables ss)
    (implied (nullables then) (nullable p) (and_left (implies (nullables then) (nullable p)) (followed p then kind.Name)
    (and_right (implies (firsts then kind.Name) (first p kind.Name)) (implies (nullables then) (nullable p) && followed p then kind.Name)
    (rule_at p then kind.Name a))) r.0)
    r.1

forced_at_end : (rs : List Rule) (then other : List GrammarSymbol) → Selects rs [] then → Among rs other → ends_decided rs ≡ true → nullables other ≡ true →
    other ≡ then
forced_at_end [] then other s a e n = elim a [ ]
forced_at_end (Begins c x ∷ rs) then other (selects_first h) a e n = absurd (no h)
forced_at_end (Begins c x ∷ rs) then other (later h s) tested e n = absurd (not_empty other rs e n)
forced_at_end (Begins c x ∷ rs) then other (later h s) (below a) e n =
    forced_at_end rs then other s a (and_right (implies (nullables x) false) (ends_decided rs) e) n
forced_at_end (Otherwise x ∷ rs) then other last untested e n = refl
forced_at_end (Otherwise x ∷ rs) then other last (below a) e n = absurd (none_empty_at rs other a e n)

goes_at_end : {p : Part} {ss then : List GrammarSymbol} → Selects (rules p) [] then → Derives (A p ∷ ss) [] → Derives (then ++ ss) []
goes_at_end {then = then} s (by_rule {p = p} {then = other} {ss = ss} a x) =
    subst (λ z. Derives (z ++ ss) []) (forced_at_end (rules p) then other s a (end_checked p) (nullables_append other ss (derives_empty x)).0) x

goes : (p : Part) (ss then : List GrammarSymbol) (ts : List Token) → Selects (rules p) ts then → Good (A p ∷ ss) → Derives (A p ∷ ss) ts →
    Derives (then ++ ss) ts
goes p ss then [] s g x = goes_at_end s x
goes p ss then (t ∷ ts) s g x = goes_by g s x

-- where the machine stops for syntax, the grammar does not derive the text
stops_short : {d : ℕ} {ss : List GrammarSymbol} {ts : List Token} {n : ℕ} → ParserRun d ss ts (Stopped Syntax n) → Good ss → Derives ss ts → ⊥
stops_short (take e r) g x = stops_short r g (after_token x)
stops_short (opens e b r) g x = stops_short r g (after_opening x)
stops_short (closes r) g x = stops_short r g (after_closing x)
stops_short (expand {p = p} {then = then} {ss = ss} {ts = ts} s r) g x =
    stops_short r (good_rule p ss g.0 g.1 then (followed_at p then (selected s))) (goes p ss then ts s g x)
stops_short (refused e) g (token h x) = no (sym e ∙ h)
stops_short (refused_opening e) g (opening h x) = no (sym e ∙ h)
stops_short left_over g x = elim x [ ]

pub file_stops : {ts : List Token} {n : ℕ} → ParserRun 0 (A File ∷ []) ts (Stopped Syntax n) → IsSyntaxFault (A File ∷ []) 200 0 ts n
file_stops r =
    let f = stops_at r ((λ k e. cc), tt) refl in
    record {
      before = f.before;
      rest = f.rest;
      split = f.split;
      left_is = f.left_is;
      viable = f.viable;
      dead = f.dead;
      shallow = f.shallow;
      not_whole = stops_short r ((λ k e. cc), tt);
    }
