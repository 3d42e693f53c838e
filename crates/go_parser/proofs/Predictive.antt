-- The machine stops at the first fault: some text of the grammar begins with the tokens taken, and none with these and the token at which
-- it stops.
use Rattle.std.proofs.Common.{◌≤◌, ◌<◌, arith, ℕ, ◌≡◌, ◌⊎◌, inl, inr, Bool, true, false, List, [], ◌∷◌, ◌++◌, length, refl, ap, sym, ◌∙◌, subst, get_or}
use Rattle.std.proofs.Common.{zero, suc, append_assoc, drop}
use Rattle.std.specs.Prelude.{◌&&◌, ◌||◌}
use Rattle.std.proofs.lemmas.Bool.{and_from, or_cases, or_left, or_right}
use Rattle.go_ast.specs.declared.syntax.Kind.{Kind}
use Rattle.go_ast.specs.declared.syntax.Kind.TheVariants as kind
use Rattle.go_ast.specs.declared.syntax.Token.{Token}
use Rattle.go_ast.specs.declared.syntax.TokenFaultKind.TheVariants.{Syntax, Nesting}
use Rattle.go_ast.specs.Grammar.{number_of, GrammarSymbol, One, Opening, Close, A, Part, Rule, Begins, Otherwise, rules, is, Item, ImportItem, GlobalItem}
use Rattle.go_ast.specs.Grammar.{TypeItem, LocalItem, Plain, Head, Post, File, Imports, Tops, GroupOf, Items, MoreItems, Single, MoreNames, GlobalValues}
use Rattle.go_ast.specs.Grammar.{MoreLiterals, TypeBody, Fields, MoreFields, Methods, MoreMethods}
use Rattle.go_ast.specs.Grammar.{MoreIdents, LocalRest, LocalValues, FuncHead, ReceiverStar, ReceiverEnd}
use Rattle.go_ast.specs.Grammar.{Signature, Params, MoreParams, Result, Types, MoreTypes, Block, MoreStatements, Statement, ReturnValues, Expressions}
use Rattle.go_ast.specs.Grammar.{MoreExpressions, SimpleRest, IfHead, IfAfter, IfBody, ElsePart, ElseBody, ForHead, ForAfter, ForRest, ForCondition}
use Rattle.go_ast.specs.Grammar.{ForPost, TypeUse, AfterTypeName, Expression, Binaries, Unary, Operand, AfterName, AfterSelector, Links, Arguments}
use Rattle.go_ast.specs.Grammar.{MoreArguments, Address, AfterLiteralName, Elements, ElementList, MoreElements, Element, AfterKey}
use Rattle.go_ast.specs.Language.{levels, IsTooDeep, Among, tested, untested, below, Derives, ends, token, opening, closing, by_rule}
use Rattle.go_parser.specs.Machine.{ParserRun, take, opens, closes, expand, refused, refused_opening, left_over, too_deep, Stopped, Accepted, accept, Selects}
use Rattle.go_parser.specs.Machine.{first as selects_first, later, last, at}
use Rattle.go_parser.proofs.KindTests.{kinds, at_number}
use Rattle.go_parser.proofs.Tables.{nullable, first, follow, firsts, nullables, implies, looks, followed, symbols_of, rule_fits, rules_fit, none_looks}
use Rattle.go_parser.proofs.Tables.{decides, every, sound, checked}

-- tests

pub and_left : (a b : Bool) → (a && b) ≡ true → a ≡ true
and_left true b e = refl
and_left false b e = cc

pub and_right : (a b : Bool) → (a && b) ≡ true → b ≡ true
and_right true b e = e
and_right false b e = cc

pub implied : (a b : Bool) → implies a b ≡ true → a ≡ true → b ≡ true
implied true b e f = e
implied false b e f = cc

pub no : false ≡ true → ⊥
no e = cc

every_at : (f : Kind → Bool) (xs : List Kind) (n : ℕ) (d : Kind) → every f xs ≡ true → f d ≡ true → f (get_or xs n d) ≡ true
every_at f [] n d e h = h
every_at f (x ∷ xs) zero d e h = and_left (f x) (every f xs) e
every_at f (x ∷ xs) (suc n) d e h = every_at f xs n d (and_right (f x) (every f xs) e) h

-- firsts

firsts_append : (a b : List GrammarSymbol) (k : Kind) → firsts (a ++ b) k ≡ true →
    (firsts a k ≡ true) ⊎ ((nullables a ≡ true) × (firsts b k ≡ true))
firsts_append [] b k e = inr (refl, e)
firsts_append (One c ∷ a) b k e = inl e
firsts_append (Opening c ∷ a) b k e = inl e
firsts_append (Close ∷ a) b k e = firsts_append a b k e
firsts_append (A p ∷ a) b k e = elim (or_cases (first p k) (nullable p && firsts (a ++ b) k) e) [
  | inl h ↦ inl (or_left (first p k) (nullable p && firsts a k) h)
  | inr h ↦ elim (firsts_append a b k (and_right (nullable p) (firsts (a ++ b) k) h)) [
    | inl g ↦ inl (or_right (first p k) (nullable p && firsts a k) (and_from (nullable p) (firsts a k) (and_left (nullable p) (firsts (a ++ b) k) h) g))
    | inr g ↦ inr (and_from (nullable p) (nullables a) (and_left (nullable p) (firsts (a ++ b) k) h) g.0, g.1)
  ]
]

pub looks_append : (p : Part) (a b : List GrammarSymbol) (k : Kind) → ((k : Kind) → firsts b k ≡ true → follow p k ≡ true) →
    firsts (a ++ b) k ≡ true → looks p a k ≡ true
looks_append p a b k good e = elim (firsts_append a b k e) [
  | inl h ↦ or_left (firsts a k) (nullables a && follow p k) h
  | inr h ↦ or_right (firsts a k) (nullables a && follow p k) (and_from (nullables a) (follow p k) h.0 (good k h.1))
]

-- the checks, at a rule

pub sound_at : (p : Part) (k : Kind) → sound p k ≡ true
sound_at p k = subst (λ j. sound p j ≡ true) (at_number k)
    (every_at (sound p) kinds (number_of k) kind.Name (checked p) (and_left (sound p kind.Name) (every (sound p) (drop 1 kinds)) (checked p)))

fits_at : (p : Part) (rs : List Rule) (k : Kind) (then : List GrammarSymbol) → Among rs then → rules_fit p rs k ≡ true → rule_fits p then k ≡ true
fits_at p [] k then a e = elim a [ ]
fits_at p (Begins c t ∷ rs) k then tested e = and_left (rule_fits p then k) (rules_fit p rs k) e
fits_at p (Otherwise t ∷ rs) k then untested e = and_left (rule_fits p then k) (rules_fit p rs k) e
fits_at p (r ∷ rs) k then (below a) e = fits_at p rs k then a (and_right (rule_fits p (symbols_of r) k) (rules_fit p rs k) e)

pub rule_at : (p : Part) (then : List GrammarSymbol) (k : Kind) → Among (rules p) then → rule_fits p then k ≡ true
rule_at p then k a = fits_at p (rules p) k then a (and_left (rules_fit p (rules p) k) (decides p (rules p) k) (sound_at p k))

firsts_rule : (p : Part) (then ss : List GrammarSymbol) (k : Kind) → rule_fits p then k ≡ true → firsts (then ++ ss) k ≡ true → firsts (A p ∷ ss) k ≡ true
firsts_rule p then ss k fits e = elim (firsts_append then ss k e) [
  | inl h ↦ or_left (first p k) (nullable p && firsts ss k)
      (implied (firsts then k) (first p k) (and_left (implies (firsts then k) (first p k)) (implies (nullables then) (nullable p) && followed p then k) fits) h)
  | inr h ↦ or_right (first p k) (nullable p && firsts ss k) (and_from (nullable p) (firsts ss k)
      (implied (nullables then) (nullable p) (and_left (implies (nullables then) (nullable p)) (followed p then k)
      (and_right (implies (firsts then k) (first p k)) (implies (nullables then) (nullable p) && followed p then k) fits)) h.0)
      h.1)
]

pub begins_so : {ss : List GrammarSymbol} {t : Token} {ts : List Token} → Derives ss (t ∷ ts) → firsts ss t.kind ≡ true
begins_so (token e d) = e
begins_so (opening e d) = e
begins_so (closing d) = begins_so d
begins_so {t = t} (by_rule {p = p} {then = then} {ss = ss} a d) = firsts_rule p then ss t.kind (rule_at p then t.kind a) (begins_so d)

-- each part of a stack may be followed by the rest of the stack

abbrev pub Good : List GrammarSymbol → Type 0
Good [] = Unit {0}
Good (One c ∷ ss) = Good ss
Good (Opening c ∷ ss) = Good ss
Good (Close ∷ ss) = Good ss
Good (A p ∷ ss) = ((k : Kind) → firsts ss k ≡ true → follow p k ≡ true) × Good ss

pub good_rule : (p : Part) (ss : List GrammarSymbol) → ((k : Kind) → firsts ss k ≡ true → follow p k ≡ true) → Good ss →
    (then : List GrammarSymbol) → ((k : Kind) → followed p then k ≡ true) → Good (then ++ ss)
good_rule p ss f g [] h = g
good_rule p ss f g (One c ∷ then) h = good_rule p ss f g then h
good_rule p ss f g (Opening c ∷ then) h = good_rule p ss f g then h
good_rule p ss f g (Close ∷ then) h = good_rule p ss f g then h
good_rule p ss f g (A q ∷ then) h = (
  (λ k e. implied (looks p then k) (follow q k) (and_left (implies (looks p then k) (follow q k)) (followed p then k) (h k)) (looks_append p then ss k f e)),
  good_rule p ss f g then (λ k. and_right (implies (looks p then k) (follow q k)) (followed p then k) (h k)),
)

pub followed_at : (p : Part) (then : List GrammarSymbol) → Among (rules p) then → (k : Kind) → followed p then k ≡ true
followed_at p then a k = and_right (implies (nullables then) (nullable p)) (followed p then k)
    (and_right (implies (firsts then k) (first p k)) (implies (nullables then) (nullable p) && followed p then k) (rule_at p then k a))

pub selected : {rs : List Rule} {ts : List Token} {then : List GrammarSymbol} → Selects rs ts then → Among rs then
selected (selects_first e) = tested
selected (later e s) = below (selected s)
selected last = untested

selects_same : {rs : List Rule} {t : Token} {us vs : List Token} {then : List GrammarSymbol} → Selects rs (t ∷ us) then → Selects rs (t ∷ vs) then
selects_same (selects_first e) = selects_first e
selects_same (later e s) = later e (selects_same s)
selects_same last = last

pub none_at : (p : Part) (rs : List Rule) (k : Kind) (other : List GrammarSymbol) → Among rs other → none_looks p rs k ≡ true → looks p other k ≡ true → ⊥
none_at p [] k other a e l = elim a [ ]
none_at p (Begins c t ∷ rs) k other tested e l = no (implied (looks p other k) false (and_left (implies (looks p other k) false) (none_looks p rs k) e) l)
none_at p (Otherwise t ∷ rs) k other untested e l = no (implied (looks p other k) false (and_left (implies (looks p other k) false) (none_looks p rs k) e) l)
none_at p (r ∷ rs) k other (below a) e l = none_at p rs k other a (and_right (implies (looks p (symbols_of r) k) false) (none_looks p rs k) e) l

forced : (p : Part) (rs : List Rule) (u : Token) (us : List Token) (then other : List GrammarSymbol) → Selects rs (u ∷ us) then → Among rs other →
    decides p rs u.kind ≡ true → looks p other u.kind ≡ true → other ≡ then
forced p [] u us then other s a e l = elim a [ ]
forced p (Begins c x ∷ rs) u us then other (selects_first h) tested e l = refl
forced p (Begins c x ∷ rs) u us then other (selects_first h) (below a) e l =
    absurd (none_at p rs u.kind other a
    (implied (c u.kind) (none_looks p rs u.kind) (and_left (implies (c u.kind) (none_looks p rs u.kind)) (decides p rs u.kind)
    (and_right (implies (looks p x u.kind) (c u.kind)) (implies (c u.kind) (none_looks p rs u.kind) && decides p rs u.kind) e)) h) l)
forced p (Begins c x ∷ rs) u us then other (later h s) tested e l =
    absurd (no (sym h ∙ implied (looks p other u.kind) (c u.kind)
    (and_left (implies (looks p other u.kind) (c u.kind)) (implies (c u.kind) (none_looks p rs u.kind) && decides p rs u.kind) e) l))
forced p (Begins c x ∷ rs) u us then other (later h s) (below a) e l =
    forced p rs u us then other s a (and_right (implies (c u.kind) (none_looks p rs u.kind)) (decides p rs u.kind)
    (and_right (implies (looks p x u.kind) (c u.kind)) (implies (c u.kind) (none_looks p rs u.kind) && decides p rs u.kind) e)) l
forced p (Otherwise x ∷ rs) u us then other last untested e l = refl
forced p (Otherwise x ∷ rs) u us then other last (below a) e l = absurd (none_at p rs u.kind other a e l)

-- a derivation goes by the selected rule
pub goes_by : {p : Part} {ss : List GrammarSymbol} {u : Token} {us vs : List Token} {then : List GrammarSymbol} →
    Good (A p ∷ ss) → Selects (rules p) (u ∷ vs) then → Derives (A p ∷ ss) (u ∷ us) → Derives (then ++ ss) (u ∷ us)
goes_by {u = u} {us = us} {then = then} g s (by_rule {p = p} {then = other} {ss = ss} a d) =
    subst (λ x. Derives (x ++ ss) (u ∷ us))
    (forced p (rules p) u us then other (selects_same s) a (and_right (rules_fit p (rules p) u.kind) (decides p (rules p) u.kind) (sound_at p u.kind))
    (looks_append p other ss u.kind g.0 (begins_so d)))
    d

-- every stack derives a text

abbrev some_kind : (Kind → Bool) → List Kind → Bool
some_kind c [] = false
some_kind c (x ∷ xs) = c x || some_kind c xs

abbrev alive : List GrammarSymbol → Bool
alive [] = true
alive (One c ∷ ss) = some_kind c kinds && alive ss
alive (Opening c ∷ ss) = some_kind c kinds && alive ss
alive (Close ∷ ss) = alive ss
alive (A p ∷ ss) = alive ss

some_of : (c : Kind → Bool) (xs : List Kind) → some_kind c xs ≡ true → (k : Kind) × (c k ≡ true)
some_of c [] e = absurd (no e)
some_of c (x ∷ xs) e = elim (or_cases (c x) (some_kind c xs) e) [ inl h ↦ (x, h) | inr h ↦ some_of c xs h ]

abbrev at_place : Kind → Token
at_place k = record { kind = k; place = 0 }

abbrev Text : List GrammarSymbol → Type 0
Text ss = (ts : List Token) × Derives ss ts

derives_append : {a b : List GrammarSymbol} {x y : List Token} → Derives a x → Derives b y → Derives (a ++ b) (x ++ y)
derives_append ends e = e
derives_append (token h d) e = token h (derives_append d e)
derives_append (opening h d) e = opening h (derives_append d e)
derives_append (closing d) e = closing (derives_append d e)
derives_append {b = b} {x = x} {y = y} (by_rule {then = then} {ss = ss} a d) e =
    by_rule a (subst (λ z. Derives z (x ++ y)) (append_assoc then ss b) (derives_append d e))

nothing_of : {p : Part} → Among (rules p) [] → Derives (A p ∷ []) []
nothing_of a = by_rule a ends

after_name : (h : Bool) → Derives (A (AfterName h) ∷ []) []
after_name true = by_rule (below (below (below untested))) ends
after_name false = by_rule (below (below (below (below untested)))) ends

after_selector : (h : Bool) → Derives (A (AfterSelector h) ∷ []) []
after_selector true = by_rule (below (below (below untested))) ends
after_selector false = by_rule (below (below (below (below untested)))) ends

links : (h : Bool) → Derives (A (Links h) ∷ []) []
links h = by_rule (below (below (below untested))) ends

binaries : (h : Bool) → Derives (A (Binaries h) ∷ []) []
binaries h = by_rule (below untested) ends

operand : (h : Bool) → Derives (A (Operand h) ∷ []) (at_place kind.Number ∷ [])
operand h = by_rule (below (below tested)) (token refl (links h))

unary : (h : Bool) → Derives (A (Unary h) ∷ []) (at_place kind.Number ∷ [])
unary h = by_rule (below untested) (operand h)

expression : (h : Bool) → Derives (A (Expression h) ∷ []) (at_place kind.Number ∷ [])
expression h = by_rule untested (derives_append (unary h) (binaries h))

expressions : (h : Bool) → Derives (A (Expressions h) ∷ []) (at_place kind.Number ∷ [])
expressions h = by_rule untested (derives_append (expression h) (by_rule (below untested) ends))

element_list : Derives (A ElementList ∷ []) (at_place kind.RightBrace ∷ [])
element_list = by_rule tested (token refl ends)

elements : Derives (A Elements ∷ []) (at_place kind.LeftBrace ∷ at_place kind.RightBrace ∷ [])
elements = by_rule untested (opening refl (derives_append element_list (closing ends)))

type_use : Derives (A TypeUse ∷ []) (at_place kind.Name ∷ [])
type_use = by_rule (below (below untested)) (token refl (by_rule (below untested) ends))

slice_literal : Derives (Opening (is kind.LeftBracket) ∷ One (is kind.RightBracket) ∷ A TypeUse ∷ Close ∷ A Elements ∷ [])
    (at_place kind.LeftBracket ∷ at_place kind.RightBracket ∷ at_place kind.Name ∷ at_place kind.LeftBrace ∷ at_place kind.RightBrace ∷ [])
slice_literal = opening refl (token refl (derives_append type_use (closing elements)))

statement : Derives (A Statement ∷ []) []
statement = by_rule (below (below (below (below (below (below (below (below untested)))))))) ends

block : Derives (A Block ∷ []) (at_place kind.LeftBrace ∷ at_place kind.RightBrace ∷ [])
block = by_rule untested (opening refl (derives_append statement
    (derives_append (nothing_of {p = MoreStatements} (below untested)) (token refl (closing ends)))))

tops : Derives (A Tops ∷ []) []
tops = by_rule (below (below (below untested))) ends

imports : Derives (A Imports ∷ []) []
imports = by_rule (below untested) tops

signature : Derives (A Signature ∷ []) (at_place kind.LeftParen ∷ at_place kind.RightParen ∷ at_place kind.LeftBrace ∷ at_place kind.RightBrace ∷ [])
signature = by_rule untested (opening refl (derives_append (by_rule {p = Params} tested (token {t = at_place kind.RightParen} refl ends))
    (closing (derives_append (nothing_of {p = Result} (below (below untested))) block))))

local_rest : Derives (A LocalRest ∷ []) (at_place kind.Name ∷ [])
local_rest = by_rule (below untested) (derives_append type_use (nothing_of {p = LocalValues} (below untested)))

single : (i : Item) → Text (A (Single i) ∷ [])
single ImportItem = (at_place kind.Text ∷ [], by_rule (below untested) (token refl ends))
single GlobalItem = (
  at_place kind.Name ∷ at_place kind.Name ∷ [],
  by_rule untested (token refl (derives_append (nothing_of {p = MoreNames} (below untested))
      (derives_append type_use (nothing_of {p = GlobalValues} (below untested))))),
)
single TypeItem = (at_place kind.Name ∷ at_place kind.Name ∷ [], by_rule untested (token refl (by_rule (below (below untested)) type_use)))
single LocalItem = (
  at_place kind.Name ∷ at_place kind.Name ∷ [],
  by_rule untested (token refl (derives_append (nothing_of {p = MoreIdents} (below untested)) local_rest)),
)

if_body : Derives (A IfBody ∷ []) (at_place kind.LeftBrace ∷ at_place kind.RightBrace ∷ [])
if_body = by_rule untested (derives_append block (nothing_of {p = ElsePart} (below untested)))

for_rest : Derives (A ForRest ∷ []) (at_place kind.Semicolon ∷ at_place kind.Semicolon ∷ at_place kind.LeftBrace ∷ at_place kind.RightBrace ∷ [])
for_rest = by_rule untested (token refl (derives_append (nothing_of {p = ForCondition} (below untested))
    (token refl (derives_append (nothing_of {p = ForPost} (below untested)) block))))

part_text : (p : Part) → Text (A p ∷ [])
part_text File = (at_place kind.Package ∷ at_place kind.Name ∷ at_place kind.Semicolon ∷ [], by_rule untested (token refl (token refl (token refl imports))))
part_text Imports = (_, imports)
part_text Tops = (_, tops)
part_text (GroupOf i) = let s = single i in (s.0, by_rule (below untested) s.1)
part_text (Items i) = (at_place kind.RightParen ∷ [], by_rule tested (token refl ends))
part_text (MoreItems i) = (at_place kind.RightParen ∷ [], by_rule (below untested) (token refl ends))
part_text (Single i) = single i
part_text MoreNames = ([], by_rule (below untested) ends)
part_text GlobalValues = ([], by_rule (below untested) ends)
part_text MoreLiterals = ([], by_rule (below untested) ends)
part_text TypeBody = (_, by_rule (below (below untested)) type_use)
part_text Fields = (at_place kind.RightBrace ∷ [], by_rule tested (token refl ends))
part_text MoreFields = (at_place kind.RightBrace ∷ [], by_rule (below untested) (token refl ends))
part_text Methods = (at_place kind.RightBrace ∷ [], by_rule tested (token refl ends))
part_text MoreMethods = (at_place kind.RightBrace ∷ [], by_rule (below untested) (token refl ends))
part_text MoreIdents = ([], by_rule (below untested) ends)
part_text LocalRest = (_, local_rest)
part_text LocalValues = ([], by_rule (below untested) ends)
part_text FuncHead = (at_place kind.Name ∷ _, by_rule (below untested) (token refl signature))
part_text ReceiverStar = ([], by_rule (below untested) ends)
part_text ReceiverEnd = (at_place kind.RightParen ∷ [], by_rule (below untested) (token refl ends))
part_text Signature = (_, signature)
part_text Params = (at_place kind.RightParen ∷ [], by_rule tested (token refl ends))
part_text MoreParams = (at_place kind.RightParen ∷ [], by_rule (below untested) (token refl ends))
part_text Result = ([], by_rule (below (below untested)) ends)
part_text Types = (at_place kind.RightParen ∷ [], by_rule tested (token refl ends))
part_text MoreTypes = (at_place kind.RightParen ∷ [], by_rule (below untested) (token refl ends))
part_text Block = (_, block)
part_text MoreStatements = ([], by_rule (below untested) ends)
part_text Statement = (_, statement)
part_text ReturnValues = ([], by_rule (below untested) ends)
part_text (Expressions h) = (_, expressions h)
part_text (MoreExpressions h) = ([], by_rule (below untested) ends)
part_text (SimpleRest s) = ([], by_rule (below (below (below (below untested)))) ends)
part_text IfHead = (_, by_rule (below untested) (derives_append (expression true) (by_rule {p = IfAfter} tested if_body)))
part_text IfAfter = (_, by_rule tested if_body)
part_text IfBody = (_, if_body)
part_text ElsePart = ([], by_rule (below untested) ends)
part_text ElseBody = (_, by_rule (below untested) block)
part_text ForHead = (_, by_rule tested block)
part_text ForAfter = (_, by_rule tested block)
part_text ForRest = (_, for_rest)
part_text ForCondition = ([], by_rule (below untested) ends)
part_text ForPost = ([], by_rule (below untested) ends)
part_text TypeUse = (_, type_use)
part_text AfterTypeName = ([], by_rule (below untested) ends)
part_text (Expression h) = (_, expression h)
part_text (Binaries h) = (_, binaries h)
part_text (Unary h) = (_, unary h)
part_text (Operand h) = (_, operand h)
part_text (AfterName h) = (_, after_name h)
part_text (AfterSelector h) = (_, after_selector h)
part_text (Links h) = (_, links h)
part_text Arguments = (at_place kind.RightParen ∷ [], by_rule tested (token refl ends))
part_text MoreArguments = (at_place kind.RightParen ∷ [], by_rule (below untested) (token refl ends))
part_text (Address true) = (_, by_rule untested slice_literal)
part_text (Address false) = (_, by_rule (below untested) slice_literal)
part_text AfterLiteralName = (_, by_rule (below untested) elements)
part_text Elements = (_, elements)
part_text ElementList = (_, element_list)
part_text MoreElements = (at_place kind.RightBrace ∷ [], by_rule (below untested) (token refl ends))
part_text Element = (_, by_rule (below untested) (derives_append (operand false) (binaries false)))
part_text AfterKey = (_, by_rule (below untested) (derives_append (after_name false) (binaries false)))

some_text : (ss : List GrammarSymbol) → alive ss ≡ true → Text ss
some_text [] e = ([], ends)
some_text (One c ∷ ss) e =
    let k = some_of c kinds (and_left (some_kind c kinds) (alive ss) e) in
    let m = some_text ss (and_right (some_kind c kinds) (alive ss) e) in
    (at_place k.0 ∷ m.0, token k.1 m.1)
some_text (Opening c ∷ ss) e =
    let k = some_of c kinds (and_left (some_kind c kinds) (alive ss) e) in
    let m = some_text ss (and_right (some_kind c kinds) (alive ss) e) in
    (at_place k.0 ∷ m.0, opening k.1 m.1)
some_text (Close ∷ ss) e = let m = some_text ss e in (m.0, closing m.1)
some_text (A p ∷ ss) e =
    let w = part_text p in
    let m = some_text ss e in
    (w.0 ++ m.0, derives_append w.1 m.1)

abbrev rules_alive : List Rule → Bool
rules_alive [] = true
rules_alive (r ∷ rs) = alive (symbols_of r) && rules_alive rs

part_alive : (p : Part) → rules_alive (rules p) ≡ true
part_alive File = refl
part_alive Imports = refl
part_alive Tops = refl
part_alive (GroupOf ImportItem) = refl
part_alive (GroupOf GlobalItem) = refl
part_alive (GroupOf TypeItem) = refl
part_alive (GroupOf LocalItem) = refl
part_alive (Items ImportItem) = refl
part_alive (Items GlobalItem) = refl
part_alive (Items TypeItem) = refl
part_alive (Items LocalItem) = refl
part_alive (MoreItems ImportItem) = refl
part_alive (MoreItems GlobalItem) = refl
part_alive (MoreItems TypeItem) = refl
part_alive (MoreItems LocalItem) = refl
part_alive (Single ImportItem) = refl
part_alive (Single GlobalItem) = refl
part_alive (Single TypeItem) = refl
part_alive (Single LocalItem) = refl
part_alive MoreNames = refl
part_alive GlobalValues = refl
part_alive MoreLiterals = refl
part_alive TypeBody = refl
part_alive Fields = refl
part_alive MoreFields = refl
part_alive Methods = refl
part_alive MoreMethods = refl
part_alive MoreIdents = refl
part_alive LocalRest = refl
part_alive LocalValues = refl
part_alive FuncHead = refl
part_alive ReceiverStar = refl
part_alive ReceiverEnd = refl
part_alive Signature = refl
part_alive Params = refl
part_alive MoreParams = refl
part_alive Result = refl
part_alive Types = refl
part_alive MoreTypes = refl
part_alive Block = refl
part_alive MoreStatements = refl
part_alive Statement = refl
part_alive ReturnValues = refl
part_alive (Expressions true) = refl
part_alive (Expressions false) = refl
part_alive (MoreExpressions true) = refl
part_alive (MoreExpressions false) = refl
part_alive (SimpleRest Plain) = refl
part_alive (SimpleRest Head) = refl
part_alive (SimpleRest Post) = refl
part_alive IfHead = refl
part_alive IfAfter = refl
part_alive IfBody = refl
part_alive ElsePart = refl
part_alive ElseBody = refl
part_alive ForHead = refl
part_alive ForAfter = refl
part_alive ForRest = refl
part_alive ForCondition = refl
part_alive ForPost = refl
part_alive TypeUse = refl
part_alive AfterTypeName = refl
part_alive (Expression true) = refl
part_alive (Expression false) = refl
part_alive (Binaries true) = refl
part_alive (Binaries false) = refl
part_alive (Unary true) = refl
part_alive (Unary false) = refl
part_alive (Operand true) = refl
part_alive (Operand false) = refl
part_alive (AfterName true) = refl
part_alive (AfterName false) = refl
part_alive (AfterSelector true) = refl
part_alive (AfterSelector false) = refl
part_alive (Links true) = refl
part_alive (Links false) = refl
part_alive Arguments = refl
part_alive MoreArguments = refl
part_alive (Address true) = refl
part_alive (Address false) = refl
part_alive AfterLiteralName = refl
part_alive Elements = refl
part_alive ElementList = refl
part_alive MoreElements = refl
part_alive Element = refl
part_alive AfterKey = refl

alive_in : (rs : List Rule) (then : List GrammarSymbol) → Among rs then → rules_alive rs ≡ true → alive then ≡ true
alive_in [] then a e = elim a [ ]
alive_in (Begins c x ∷ rs) then tested e = and_left (alive then) (rules_alive rs) e
alive_in (Otherwise x ∷ rs) then untested e = and_left (alive then) (rules_alive rs) e
alive_in (r ∷ rs) then (below a) e = alive_in rs then a (and_right (alive (symbols_of r)) (rules_alive rs) e)

alive_append : (a b : List GrammarSymbol) → alive a ≡ true → alive b ≡ true → alive (a ++ b) ≡ true
alive_append [] b e f = f
alive_append (One c ∷ a) b e f = and_from (some_kind c kinds) (alive (a ++ b)) (and_left (some_kind c kinds) (alive a) e)
    (alive_append a b (and_right (some_kind c kinds) (alive a) e) f)
alive_append (Opening c ∷ a) b e f = and_from (some_kind c kinds) (alive (a ++ b)) (and_left (some_kind c kinds) (alive a) e)
    (alive_append a b (and_right (some_kind c kinds) (alive a) e) f)
alive_append (Close ∷ a) b e f = alive_append a b e f
alive_append (A p ∷ a) b e f = alive_append a b e f

-- the theorem

abbrev pub after_token : {c : Kind → Bool} {u : Token} {ss : List GrammarSymbol} {ts : List Token} → Derives (One c ∷ ss) (u ∷ ts) → Derives ss ts
after_token (token e d) = d

abbrev pub after_opening : {c : Kind → Bool} {u : Token} {ss : List GrammarSymbol} {ts : List Token} → Derives (Opening c ∷ ss) (u ∷ ts) → Derives ss ts
after_opening (opening e d) = d

abbrev pub after_closing : {ss : List GrammarSymbol} {ts : List Token} → Derives (Close ∷ ss) ts → Derives ss ts
after_closing (closing d) = d

pub fits_token : {c : Kind → Bool} {u : Token} {ss : List GrammarSymbol} {ts : List Token} → Derives (One c ∷ ss) (u ∷ ts) → c u.kind ≡ true
fits_token (token e d) = e

fits_opening : {c : Kind → Bool} {u : Token} {ss : List GrammarSymbol} {ts : List Token} → Derives (Opening c ∷ ss) (u ∷ ts) → c u.kind ≡ true
fits_opening (opening e d) = e

-- levels

pub goes_by_levels : {p : Part} {ss : List GrammarSymbol} {u : Token} {us vs : List Token} {then : List GrammarSymbol} →
    Good (A p ∷ ss) → Selects (rules p) (u ∷ vs) then → (x : Derives (A p ∷ ss) (u ∷ us)) →
    (y : Derives (then ++ ss) (u ∷ us)) × ((d : ℕ) → levels d x ≡ levels d y)
goes_by_levels {u = u} {us = us} {then = then} g s (by_rule {p = p} {then = other} {ss = ss} a x) =
    subst (λ z. (y : Derives (z ++ ss) (u ∷ us)) × ((d : ℕ) → levels d x ≡ levels d y))
    (forced p (rules p) u us then other (selects_same s) a (and_right (rules_fit p (rules p) u.kind) (decides p (rules p) u.kind) (sound_at p u.kind))
    (looks_append p other ss u.kind g.0 (begins_so x)))
    (x, λ d. refl)

goes_on_levels : (p : Part) (ss then : List GrammarSymbol) (before : List Token) (u : Token) (others more ts : List Token) → ts ≡ before ++ (u ∷ others) →
    Selects (rules p) ts then → Good (A p ∷ ss) → (x : Derives (A p ∷ ss) (before ++ (u ∷ more))) →
    (y : Derives (then ++ ss) (before ++ (u ∷ more))) × ((d : ℕ) → levels d x ≡ levels d y)
goes_on_levels p ss then [] u others more ts e s g x = goes_by_levels g (subst (λ z. Selects (rules p) z then) e s) x
goes_on_levels p ss then (b ∷ before) u others more ts e s g x = goes_by_levels g (subst (λ z. Selects (rules p) z then) e s) x

pub token_levels : {c : Kind → Bool} {u : Token} {ss : List GrammarSymbol} {ts : List Token} (d : ℕ) (x : Derives (One c ∷ ss) (u ∷ ts)) →
    levels d x ≡ 0 ∷ levels d (after_token x)
token_levels d (token e x) = refl

pub opening_levels : {c : Kind → Bool} {u : Token} {ss : List GrammarSymbol} {ts : List Token} (d : ℕ) (x : Derives (Opening c ∷ ss) (u ∷ ts)) →
    levels d x ≡ suc d ∷ levels (suc d) (after_opening x)
opening_levels d (opening e x) = refl

pub closing_levels : {ss : List GrammarSymbol} {ts : List Token} (d : ℕ) (x : Derives (Close ∷ ss) ts) → levels (suc d) x ≡ levels d (after_closing x)
closing_levels d (closing x) = ap (λ e. levels e x) (omega arith)

first_or_later : (ls ms : List ℕ) (a n : ℕ) → ls ≡ a ∷ ms → a ≤ 200 → ((k : ℕ) → k < n → get_or ms k 0 ≤ 200) → (k : ℕ) → k < suc n → get_or ls k 0 ≤ 200
first_or_later ls ms a n e h f zero less = subst (λ z. get_or z zero 0 ≤ 200) (sym e) h
first_or_later ls ms a n e h f (suc k) less = subst (λ z. get_or z (suc k) 0 ≤ 200) (sym e) (f k (omega (arith, less)))

-- a derivation of the tokens before a fault goes by the selected rules too
before_levels : (p : Part) (ss then : List GrammarSymbol) (d : ℕ) (before rest more ts : List Token) → ts ≡ before ++ rest →
    Selects (rules p) ts then → Good (A p ∷ ss) →
    ((y : Derives (then ++ ss) (before ++ more)) → (k : ℕ) → k < length before → get_or (levels d y) k 0 ≤ 200) →
    (x : Derives (A p ∷ ss) (before ++ more)) → (k : ℕ) → k < length before → get_or (levels d x) k 0 ≤ 200
before_levels p ss then d [] rest more ts e s g f x k h = absurd (omega (arith, h))
before_levels p ss then d (b ∷ before) rest more ts e s g f x k h =
    let y = goes_by_levels g (subst (λ z. Selects (rules p) z then) e s) x in
    subst (λ z. get_or z k 0 ≤ 200) (sym (y.1 d)) (f y.0 k h)

goes_on : (p : Part) (ss then : List GrammarSymbol) (before : List Token) (u : Token) (others more ts : List Token) → ts ≡ before ++ (u ∷ others) →
    Selects (rules p) ts then → Good (A p ∷ ss) → Derives (A p ∷ ss) (before ++ (u ∷ more)) → Derives (then ++ ss) (before ++ (u ∷ more))
goes_on p ss then [] u others more ts e s g d = goes_by g (subst (λ x. Selects (rules p) x then) e s) d
goes_on p ss then (b ∷ before) u others more ts e s g d = goes_by g (subst (λ x. Selects (rules p) x then) e s) d

-- `rest` is where a run halts: some text begins with the tokens before it, and none with these and the first token of `rest`
pub record Halts (symbols : List GrammarSymbol) (limit d : ℕ) (ts : List Token) (left : ℕ) : Type 0 where
  pub before : List Token
  pub rest : List Token
  pub split : ts ≡ before ++ rest
  pub left_is : length rest ≡ left
  pub viable : (more : List Token) × Derives symbols (before ++ more)
  pub dead : (t : Token) → (others more : List Token) → rest ≡ t ∷ others → Derives symbols (before ++ (t ∷ more)) → ⊥
  pub shallow : (more : List Token) → (x : Derives symbols (before ++ more)) → (k : ℕ) → k < length before → get_or (levels d x) k 0 ≤ limit

pub stops_at : {d : ℕ} {ss : List GrammarSymbol} {ts : List Token} {n : ℕ} → ParserRun d ss ts (Stopped Syntax n) → Good ss → alive ss ≡ true →
    Halts ss 200 d ts n
stops_at {d = d} (take {c = c} {t = u} {ss = ss} {ts = ts} e r) g a =
    let f = stops_at r g (and_right (some_kind c kinds) (alive ss) a) in
    record {
      before = u ∷ f.before;
      rest = f.rest;
      split = ap (λ x. u ∷ x) f.split;
      left_is = f.left_is;
      viable = (f.viable.0, token e f.viable.1);
      dead = λ v others more same d. f.dead v others more same (after_token d);
      shallow = λ more x. first_or_later (levels d x) (levels d (after_token x)) 0 (length f.before) (token_levels d x) (omega arith)
          (f.shallow more (after_token x));
    }
stops_at {d = d} (opens {c = c} {t = u} {ss = ss} {ts = ts} e b r) g a =
    let f = stops_at r g (and_right (some_kind c kinds) (alive ss) a) in
    record {
      before = u ∷ f.before;
      rest = f.rest;
      split = ap (λ x. u ∷ x) f.split;
      left_is = f.left_is;
      viable = (f.viable.0, opening e f.viable.1);
      dead = λ v others more same d. f.dead v others more same (after_opening d);
      shallow = λ more x. first_or_later (levels d x) (levels (suc d) (after_opening x)) (suc d) (length f.before) (opening_levels d x) (omega (arith, b))
          (f.shallow more (after_opening x));
    }
stops_at (closes {d = d} r) g a =
    let f = stops_at r g a in
    record {
      before = f.before;
      rest = f.rest;
      split = f.split;
      left_is = f.left_is;
      viable = (f.viable.0, closing f.viable.1);
      dead = λ v others more same d. f.dead v others more same (after_closing d);
      shallow = λ more x k h. subst (λ z. get_or z k 0 ≤ 200) (sym (closing_levels d x)) (f.shallow more (after_closing x) k h);
    }
stops_at {d = d} (expand {p = p} {then = then} {ss = ss} {ts = ts} s r) g a =
    let f = stops_at r (good_rule p ss g.0 g.1 then (followed_at p then (selected s)))
    (alive_append then ss (alive_in (rules p) then (selected s) (part_alive p)) a) in
    record {
      before = f.before;
      rest = f.rest;
      split = f.split;
      left_is = f.left_is;
      viable = (f.viable.0, by_rule (selected s) f.viable.1);
      dead = λ v others more same d. f.dead v others more same (goes_on p ss then f.before v others more ts (f.split ∙ ap (λ x. f.before ++ x) same) s g d);
      shallow = λ more. before_levels p ss then d f.before f.rest more ts f.split s g (f.shallow more);
    }
stops_at (refused {c = c} {ss = ss} {ts = ts} e) g a = record {
  before = [];
  rest = ts;
  split = refl;
  left_is = refl;
  viable = some_text (One c ∷ ss) a;
  dead = λ v others more same d. no (sym e ∙ (ap (at c) same ∙ fits_token d));
  shallow = λ more x k h. absurd (omega (arith, h));
}
stops_at (refused_opening {c = c} {ss = ss} {ts = ts} e) g a = record {
  before = [];
  rest = ts;
  split = refl;
  left_is = refl;
  viable = some_text (Opening c ∷ ss) a;
  dead = λ v others more same d. no (sym e ∙ (ap (at c) same ∙ fits_opening d));
  shallow = λ more x k h. absurd (omega (arith, h));
}
stops_at (left_over {t = u} {ts = ts}) g a = record {
  before = [];
  rest = u ∷ ts;
  split = refl;
  left_is = refl;
  viable = ([], ends);
  dead = λ v others more same d. elim d [ ];
  shallow = λ more x k h. absurd (omega (arith, h));
}

pub accepts : {d : ℕ} {ss : List GrammarSymbol} {ts : List Token} → ParserRun d ss ts Accepted → Derives ss ts
accepts accept = ends
accepts (take e r) = token e (accepts r)
accepts (opens e b r) = opening e (accepts r)
accepts (closes r) = closing (accepts r)
accepts (expand s r) = by_rule (selected s) (accepts r)

pub deep_at : {d : ℕ} {ss : List GrammarSymbol} {ts : List Token} {n : ℕ} → ParserRun d ss ts (Stopped Nesting n) → Good ss → alive ss ≡ true →
    IsTooDeep ss 200 d ts n
deep_at {d = d} (take {c = c} {t = u} {ss = ss} {ts = ts} e r) g a =
    let f = deep_at r g (and_right (some_kind c kinds) (alive ss) a) in
    record {
      before = u ∷ f.before;
      t = f.t;
      others = f.others;
      split = ap (λ x. u ∷ x) f.split;
      left_is = f.left_is;
      viable = (f.viable.0, token e f.viable.1);
      deep = λ more x. subst (λ z. 200 < get_or z (suc (length f.before)) 0) (sym (token_levels d x)) (f.deep more (after_token x));
      first = λ more x. first_or_later (levels d x) (levels d (after_token x)) 0 (length f.before) (token_levels d x) (omega arith)
          (f.first more (after_token x));
    }
deep_at {d = d} (opens {c = c} {t = u} {ss = ss} {ts = ts} e b r) g a =
    let f = deep_at r g (and_right (some_kind c kinds) (alive ss) a) in
    record {
      before = u ∷ f.before;
      t = f.t;
      others = f.others;
      split = ap (λ x. u ∷ x) f.split;
      left_is = f.left_is;
      viable = (f.viable.0, opening e f.viable.1);
      deep = λ more x. subst (λ z. 200 < get_or z (suc (length f.before)) 0) (sym (opening_levels d x)) (f.deep more (after_opening x));
      first = λ more x. first_or_later (levels d x) (levels (suc d) (after_opening x)) (suc d) (length f.before) (opening_levels d x) (omega (arith, b))
          (f.first more (after_opening x));
    }
deep_at (closes {d = d} r) g a =
    let f = deep_at r g a in
    record {
      before = f.before;
      t = f.t;
      others = f.others;
      split = f.split;
      left_is = f.left_is;
      viable = (f.viable.0, closing f.viable.1);
      deep = λ more x. subst (λ z. 200 < get_or z (length f.before) 0) (sym (closing_levels d x)) (f.deep more (after_closing x));
      first = λ more x k h. subst (λ z. get_or z k 0 ≤ 200) (sym (closing_levels d x)) (f.first more (after_closing x) k h);
    }
deep_at {d = d} (expand {p = p} {then = then} {ss = ss} {ts = ts} s r) g a =
    let f = deep_at r (good_rule p ss g.0 g.1 then (followed_at p then (selected s)))
    (alive_append then ss (alive_in (rules p) then (selected s) (part_alive p)) a) in
    record {
      before = f.before;
      t = f.t;
      others = f.others;
      split = f.split;
      left_is = f.left_is;
      viable = (f.viable.0, by_rule (selected s) f.viable.1);
      deep = λ more x. let y = goes_on_levels p ss then f.before f.t f.others more ts f.split s g x in
          subst (λ z. 200 < get_or z (length f.before) 0) (sym (y.1 d)) (f.deep more y.0);
      first = λ more x k h. let y = goes_on_levels p ss then f.before f.t f.others more ts f.split s g x in
          subst (λ z. get_or z k 0 ≤ 200) (sym (y.1 d)) (f.first more y.0 k h);
    }
deep_at {d = d} (too_deep {c = c} {t = u} {ss = ss} {ts = ts} e b) g a =
    let m = some_text ss (and_right (some_kind c kinds) (alive ss) a) in
    record {
      before = [];
      t = u;
      others = ts;
      split = refl;
      left_is = refl;
      viable = (m.0, opening e m.1);
      deep = λ more x. subst (λ z. 200 < get_or z zero 0) (sym (opening_levels d x)) (omega (arith, b));
      first = λ more x k h. absurd (omega (arith, h));
    }

-- at a file

pub file_deep : {ts : List Token} {n : ℕ} → ParserRun 0 (A File ∷ []) ts (Stopped Nesting n) → IsTooDeep (A File ∷ []) 200 0 ts n
file_deep r = deep_at r ((λ k e. cc), tt) refl
