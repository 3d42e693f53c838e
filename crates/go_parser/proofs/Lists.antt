-- Lists of items, with and without brackets, as a parser's loops read them.
use Rattle.std.proofs.Common.{subst, ℕ, ◌≡◌, Bool, true, false, List, [], ◌∷◌, ap, sym, ◌∙◌, refl, Option, Some, None, is_some}
use Rattle.go_ast.specs.declared.syntax.Kind.{Kind}
use Rattle.go_ast.specs.declared.syntax.Token.{Token}
use Rattle.go_ast.specs.Grammar.{is, One, A, GrammarSymbol, Part, rules}
use Rattle.go_parser.specs.Machine.{ParserRun, expand, at, Selects}
use Rattle.go_parser.specs.Parsing.{Leads, Read, Separates, list_rest}
use Rattle.go_ast.specs.Flatten.{sign, sign_if}
use Rattle.go_parser.proofs.KindTests.{is_itself}
use Rattle.go_parser.proofs.MachineSteps.{leads_rule, leads_then, leads_here, passes_one}

-- The rest of a list without brackets: another item and the rest after it, or nothing.
abbrev pub items_rest : List GrammarSymbol → Bool → List GrammarSymbol
items_rest item true = item
items_rest item false = []

-- a separator's token
pub separator_read : (k : Kind) (p : ℕ) (d : ℕ) (ts rest : List Token) → ts ≡ sign k p ∷ rest → Read (One (is k) ∷ []) (sign k p ∷ []) d ts d rest
separator_read k p d ts rest e = record { text = e; passes = passes_one (is k) (sign k p) d ts rest e (is_itself k) }

pub separator_at : (k : Kind) (p : ℕ) (ts rest : List Token) → ts ≡ sign k p ∷ rest → at (is k) ts ≡ true
separator_at k p ts rest e = ap (at (is k)) e ∙ is_itself k

-- After an item of a list in brackets: a separator and more of the list, or the closing bracket.
pub list_separated : (list more : Part) (sep closer : Kind) (s : Option ℕ) (d : ℕ) (ts rest : List Token) →
    ((ts : List Token) → at (is sep) ts ≡ true → Selects (rules more) ts (One (is sep) ∷ A list ∷ [])) →
    ((ts : List Token) → at (is sep) ts ≡ false → Selects (rules more) ts (One (is closer) ∷ [])) →
    Separates sep s ts rest → Leads (A more ∷ []) (list_rest list closer (is_some s)) (sign_if sep s) d ts d rest
list_separated list more sep closer None d ts rest selected unselected h =
    record { text = h.1; leads = λ after o r. expand (unselected ts h.0) (subst (λ x. ParserRun d (One (is closer) ∷ after) x o) (sym h.1) r) }
list_separated list more sep closer (Some p) d ts rest selected unselected h =
    leads_rule (selected ts (separator_at sep p ts rest h)) (leads_then (separator_read sep p d ts rest h) leads_here)

-- the end of a list in brackets
pub list_ends : (list : Part) (closer : Kind) (from : List GrammarSymbol) (more : Bool) (a : List Token) (d : ℕ) (ts rest : List Token) →
    ((ts : List Token) → at (is closer) ts ≡ true → Selects (rules list) ts (One (is closer) ∷ [])) →
    (more ≡ true → at (is closer) rest ≡ true) → Leads from (list_rest list closer more) a d ts d rest → Leads from (One (is closer) ∷ []) a d ts d rest
list_ends list closer from true a d ts rest selected h l = record { text = l.text; leads = λ after o r. l.leads after o (expand (selected rest (h refl)) r) }
list_ends list closer from false a d ts rest selected h l = l

-- the symbols that are left, by whether a separator came
pub leads_rest : (to : Bool → List GrammarSymbol) {from : List GrammarSymbol} {b c : Bool} {a : List Token} {d e : ℕ} {ts rest : List Token} →
    b ≡ c → Leads from (to b) a d ts e rest → Leads from (to c) a d ts e rest
leads_rest to {from = from} {a = a} {d = d} {e = e} {ts = ts} {rest = rest} same l = subst (λ x. Leads from (to x) a d ts e rest) same l
