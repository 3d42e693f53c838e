-- Steps of the machine over several symbols, over lists, and after tokens that have been parsed.
use Rattle.std.proofs.Common.{append-nil, append_assoc, ℕ, ◌≡◌, Bool, true, false, List, [], ◌∷◌, ◌++◌, ◌+◌, ◌≤◌, length, ap, sym, ◌∙◌, subst, refl, Option}
use Rattle.std.proofs.Common.{Some, None, Result, Ok, Err, map, is_some, arith, add-one, length-append}
use Rattle.go_ast.specs.declared.syntax.Kind.{Kind}
use Rattle.go_ast.specs.declared.syntax.Token.{Token}
use Rattle.go_parser.specs.declared.parse_error.ParseError.{ParseError}
use Rattle.go_ast.specs.Grammar.{is, One, Close, A, GrammarSymbol, Part, rules}
use Rattle.go_parser.specs.Machine.{ParserRun, Stopped, take, expand, closes, at, Selects}
use Rattle.go_parser.specs.Parsing.{Leads, Continued, Read, Fails, Passes, Parses, Continues, Separates, list_rest}
use Rattle.go_ast.specs.Flatten.{sign, sign_if, all_tokens}
use Rattle.go_parser.proofs.KindTests.{is_itself}
use Rattle.go_parser.proofs.Lists.{items_rest}
use Rattle.go_parser.proofs.MachineSteps.{fails_after}
use Rattle.go_parser.proofs.Spelled.{all_tokens_push}

-- several symbols, and then others

runs_on : {xs : List GrammarSymbol} (ys : List GrammarSymbol) {d e : ℕ} {ts mid : List Token} → Passes xs d ts e mid →
    (after : List GrammarSymbol) → (o : _) → ParserRun e (ys ++ after) mid o → ParserRun d ((xs ++ ys) ++ after) ts o
runs_on {xs = xs} ys {d = d} {ts = ts} p after o r = subst (λ ss. ParserRun d ss ts o) (sym (append_assoc xs ys after)) (p.runs (ys ++ after) o r)

pub read_on : {xs ys : List GrammarSymbol} {a b : List Token} {d e f : ℕ} {ts mid rest : List Token} →
    Read xs a d ts e mid → Read ys b e mid f rest → Read (xs ++ ys) (a ++ b) d ts f rest
read_on {a = a} {b = b} {rest = rest} p q = record {
  text = p.text ∙ (ap (λ x. a ++ x) q.text ∙ sym (append_assoc a b rest));
  passes = record { runs = λ after o r. runs_on _ p.passes after o (q.passes.runs after o r) };
}

pub leads_read : {xs : List GrammarSymbol} (ys : List GrammarSymbol) {a : List Token} {d e : ℕ} {ts rest : List Token} →
    Read xs a d ts e rest → Leads (xs ++ ys) ys a d ts e rest
leads_read ys p = record { text = p.text; leads = λ after o r. runs_on _ p.passes after o r }

-- after tokens that have been parsed

pub continued : {ss : List GrammarSymbol} (begun : List Token) {a spelled : List Token} {d : ℕ} {ts rest : List Token} →
    Read ss a d ts d rest → begun ++ a ≡ spelled → Continued ss begun spelled d ts rest
continued begun {a = a} {rest = rest} r e = record {
  text = ap (λ x. begun ++ x) r.text ∙ (sym (append_assoc begun a rest) ∙ ap (λ x. x ++ rest) e);
  passes = r.passes;
}

-- the tokens of a last call continue those parsed here
pub then_continues : {Y : Type 0} (xs ss : List GrammarSymbol) (begun : List Token) (spelled rest : Y → List Token) (d : ℕ) (ts mid : List Token)
    (r : Result Y ParseError) →
    Read xs begun d ts d mid → Continues ss begun spelled rest d mid r → Parses (xs ++ ss) spelled rest d ts r
then_continues xs ss begun spelled rest d ts mid (Ok y) h c = record {
  text = h.text ∙ c.text;
  passes = record { runs = λ after o r. runs_on _ h.passes after o (c.passes.runs after o r) };
}
then_continues xs ss begun spelled rest d ts mid (Err e) h c = fails_after h c

pub continues_rule : {Y : Type 0} (p : Part) (then : List GrammarSymbol) (begun : List Token) (spelled rest : Y → List Token) (d : ℕ) (ts : List Token)
    (r : Result Y ParseError) →
    Selects (rules p) ts then → Continues then begun spelled rest d ts r → Continues (A p ∷ []) begun spelled rest d ts r
continues_rule p then begun spelled rest d ts (Ok y) s c = record { text = c.text; passes = record { runs = λ after o t. expand s (c.passes.runs after o t) } }
continues_rule p then begun spelled rest d ts (Err e) s c = record { stops = λ k l same after. expand s (c.stops k l same after) }

-- lists of trees

pub all_tokens_map : {X Y : Type 0} (f : Y → List Token) (g : X → Y) (xs : List X) → all_tokens (λ x. f (g x)) xs ≡ all_tokens f (map g xs)
unfolding all_tokens
all_tokens_map f g [] = refl
all_tokens_map f g (x ∷ xs) = ap (λ z. f (g x) ++ z) (all_tokens_map f g xs)

tokens_of_none : {X : Type 0} (f : X → List Token) → all_tokens f [] ≡ []
unfolding all_tokens
tokens_of_none f = refl

-- before the first item
pub leads_none : {X : Type 0} (f : X → List Token) {ss : List GrammarSymbol} {d : ℕ} {ts : List Token} (xs : List X) → xs ≡ [] →
    Leads ss ss (all_tokens f xs) d ts d ts
leads_none f {ts = ts} xs e = record { text = ap (λ x. x ++ ts) (sym (ap (all_tokens f) e ∙ tokens_of_none f)); leads = λ after o r. r }

-- one more item
pub leads_push : {X : Type 0} (f : X → List Token) {from between to : List GrammarSymbol} {d e g : ℕ} {ts mid rest : List Token} (xs ys : List X) (x : X) →
    Leads from between (all_tokens f xs) d ts e mid → Leads between to (f x) e mid g rest → ys ≡ xs ++ (x ∷ []) → Leads from to (all_tokens f ys) d ts g rest
leads_push f {rest = rest} xs ys x p q e = record {
  text = p.text ∙ (ap (λ z. all_tokens f xs ++ z) q.text ∙
      (sym (append_assoc (all_tokens f xs) (f x) rest) ∙ ap (λ z. z ++ rest) (all_tokens_push f xs x ∙ sym (ap (all_tokens f) e))));
  leads = λ after o r. p.leads after o (q.leads after o r);
}

-- a separator that comes next
pub at_sign : (k : Kind) (n : ℕ) {ts rest : List Token} → ts ≡ sign k n ∷ rest → at (is k) ts ≡ true
at_sign k n e = ap (at (is k)) e ∙ is_itself k

-- whether another item follows, as a measure
abbrev pub flag : Bool → ℕ
flag true = 1
flag false = 0

-- an item of a list without brackets, and its separator if another item follows
leads_item_so : (k : Kind) (sep : Option ℕ) (item : List GrammarSymbol) (more : Part) {a : List Token} {d : ℕ} {ts mid rest : List Token} →
    ((us : List Token) → at (is k) us ≡ true → Selects (rules more) us (One (is k) ∷ (item ++ (A more ∷ [])))) →
    ((us : List Token) → at (is k) us ≡ false → Selects (rules more) us []) →
    Read item a d ts d mid → Separates k sep mid rest →
    Leads (item ++ (A more ∷ [])) (items_rest (item ++ (A more ∷ [])) (is_some sep)) (a ++ sign_if k sep) d ts d rest
leads_item_so k None item more {a = a} {d = d} {ts = ts} {mid = mid} {rest = rest} goes ends p s = record {
  text = p.text ∙ (ap (λ x. a ++ x) s.1 ∙ ap (λ x. x ++ rest) (sym (append-nil a)));
  leads = λ after o r. runs_on _ p.passes after o (expand (ends mid s.0) (subst (λ us. ParserRun d after us o) (sym s.1) r));
}
leads_item_so k (Some n) item more {a = a} {d = d} {ts = ts} {mid = mid} {rest = rest} goes ends p s = record {
  text = p.text ∙ (ap (λ x. a ++ x) s ∙ sym (append_assoc a (sign k n ∷ []) rest));
  leads = λ after o r. runs_on _ p.passes after o (expand (goes mid (at_sign k n s))
      (subst (λ us. ParserRun d (One (is k) ∷ ((item ++ (A more ∷ [])) ++ after)) us o) (sym s) (take (is_itself k) r)));
}

pub leads_item : (k : Kind) (sep : Option ℕ) (item : List GrammarSymbol) (more : Part) (b : Bool) → b ≡ is_some sep →
    {a : List Token} {d : ℕ} {ts mid rest : List Token} →
    ((us : List Token) → at (is k) us ≡ true → Selects (rules more) us (One (is k) ∷ (item ++ (A more ∷ [])))) →
    ((us : List Token) → at (is k) us ≡ false → Selects (rules more) us []) →
    Read item a d ts d mid → Separates k sep mid rest →
    Leads (item ++ (A more ∷ [])) (items_rest (item ++ (A more ∷ [])) b) (a ++ sign_if k sep) d ts d rest
leads_item k sep item more b same {a = a} {d = d} {ts = ts} {rest = rest} goes ends p s =
    subst (λ b. Leads (item ++ (A more ∷ [])) (items_rest (item ++ (A more ∷ [])) b) (a ++ sign_if k sep) d ts d rest) (sym same)
    (leads_item_so k sep item more goes ends p s)

-- an item of a list in brackets, and its separator if it has one
leads_enclosed_so : (k : Kind) (sep : Option ℕ) (item : List GrammarSymbol) (list more : Part) (closer : Kind) {a : List Token} {d : ℕ} {ts mid rest : List
    Token} →
    Selects (rules list) ts (item ++ (A more ∷ [])) →
    ((us : List Token) → at (is k) us ≡ true → Selects (rules more) us (One (is k) ∷ A list ∷ [])) →
    ((us : List Token) → at (is k) us ≡ false → Selects (rules more) us (One (is closer) ∷ [])) →
    Read item a d ts d mid → Separates k sep mid rest →
    Leads (A list ∷ []) (list_rest list closer (is_some sep)) (a ++ sign_if k sep) d ts d rest
leads_enclosed_so k None item list more closer {a = a} {d = d} {ts = ts} {mid = mid} {rest = rest} chosen goes ends p s = record {
  text = p.text ∙ (ap (λ x. a ++ x) s.1 ∙ ap (λ x. x ++ rest) (sym (append-nil a)));
  leads = λ after o r. expand chosen (runs_on _ p.passes after o (expand (ends mid s.0) (subst (λ us. ParserRun d (One (is closer) ∷ after) us o) (sym s.1)
      r)));
}
leads_enclosed_so k (Some n) item list more closer {a = a} {d = d} {ts = ts} {mid = mid} {rest = rest} chosen goes ends p s = record {
  text = p.text ∙ (ap (λ x. a ++ x) s ∙ sym (append_assoc a (sign k n ∷ []) rest));
  leads = λ after o r. expand chosen (runs_on _ p.passes after o
      (expand (goes mid (at_sign k n s)) (subst (λ us. ParserRun d (One (is k) ∷ A list ∷ after) us o) (sym s) (take (is_itself k) r))));
}

pub leads_enclosed : (k : Kind) (sep : Option ℕ) (item : List GrammarSymbol) (list more : Part) (closer : Kind) (b : Bool) → b ≡ is_some sep →
    {a : List Token} {d : ℕ} {ts mid rest : List Token} →
    Selects (rules list) ts (item ++ (A more ∷ [])) →
    ((us : List Token) → at (is k) us ≡ true → Selects (rules more) us (One (is k) ∷ A list ∷ [])) →
    ((us : List Token) → at (is k) us ≡ false → Selects (rules more) us (One (is closer) ∷ [])) →
    Read item a d ts d mid → Separates k sep mid rest →
    Leads (A list ∷ []) (list_rest list closer b) (a ++ sign_if k sep) d ts d rest
leads_enclosed k sep item list more closer b same {a = a} {d = d} {ts = ts} {rest = rest} chosen goes ends p s =
    subst (λ b. Leads (A list ∷ []) (list_rest list closer b) (a ++ sign_if k sep) d ts d rest) (sym same)
    (leads_enclosed_so k sep item list more closer chosen goes ends p s)

-- where another item follows
pub leads_more : (left : Bool → List GrammarSymbol) (more : Bool) {from : List GrammarSymbol} {a : List Token} {d e : ℕ} {ts rest : List Token} →
    Leads from (left more) a d ts e rest → more ≡ true → Leads from (left true) a d ts e rest
leads_more left more {from = from} {a = a} {d = d} {e = e} {ts = ts} {rest = rest} l h = subst (λ b. Leads from (left b) a d ts e rest) h l

-- where no other item follows
pub read_items : (left : Bool → List GrammarSymbol) (more : Bool) {from : List GrammarSymbol} {a : List Token} {d e : ℕ} {ts rest : List Token} →
    left false ≡ [] → Leads from (left more) a d ts e rest → more ≡ false → Read from a d ts e rest
read_items left more {d = d} {e = e} {ts = ts} {rest = rest} none l h = record {
  text = l.text;
  passes = record { runs = λ after o r. l.leads after o (subst (λ ss. ParserRun e (ss ++ after) rest o) (sym (ap left h ∙ none)) r) };
}

-- at the closing bracket
pub leads_closed : (list : Part) (closer : Kind) (more : Bool) {from : List GrammarSymbol} {a : List Token} {d e : ℕ} {ts rest : List Token} →
    Leads from (list_rest list closer more) a d ts e rest → (more ≡ true → at (is closer) rest ≡ true) →
    (at (is closer) rest ≡ true → Selects (rules list) rest (One (is closer) ∷ [])) →
    Leads from (One (is closer) ∷ []) a d ts e rest
leads_closed list closer true l ends chosen = record { text = l.text; leads = λ after o r. l.leads after o (expand (chosen (ends refl)) r) }
leads_closed list closer false l ends chosen = l

-- a part that is one token, or nothing
pub read_optional : (p : Part) (k : Kind) (sep : Option ℕ) {d : ℕ} {ts rest : List Token} →
    ((us : List Token) → at (is k) us ≡ true → Selects (rules p) us (One (is k) ∷ [])) → ((us : List Token) → at (is k) us ≡ false → Selects (rules p) us []) →
    Separates k sep ts rest → Read (A p ∷ []) (sign_if k sep) d ts d rest
read_optional p k None {d = d} {ts = ts} goes ends s = record {
  text = s.1;
  passes = record { runs = λ after o r. expand (ends ts s.0) (subst (λ us. ParserRun d after us o) (sym s.1) r) };
}
read_optional p k (Some n) {d = d} {ts = ts} goes ends s = record {
  text = s;
  passes = record { runs = λ after o r. expand (goes ts (at_sign k n s)) (subst (λ us. ParserRun d (One (is k) ∷ after) us o) (sym s) (take (is_itself k) r)) };
}

-- a part that may begin with one token more
pub leads_optional : (p : Part) (k : Kind) (sep : Option ℕ) (to : List GrammarSymbol) {d : ℕ} {ts rest : List Token} →
    ((us : List Token) → at (is k) us ≡ true → Selects (rules p) us (One (is k) ∷ to)) → ((us : List Token) → at (is k) us ≡ false → Selects (rules p) us to) →
    Separates k sep ts rest → Leads (A p ∷ []) to (sign_if k sep) d ts d rest
leads_optional p k None to {d = d} {ts = ts} goes ends s = record {
  text = s.1;
  leads = λ after o r. expand (ends ts s.0) (subst (λ us. ParserRun d (to ++ after) us o) (sym s.1) r);
}
leads_optional p k (Some n) to {d = d} {ts = ts} goes ends s = record {
  text = s;
  leads = λ after o r. expand (goes ts (at_sign k n s)) (subst (λ us. ParserRun d (One (is k) ∷ (to ++ after)) us o) (sym s) (take (is_itself k) r));
}

-- symbols that lead to others, after tokens that have been parsed

-- The machine goes from some symbols to others over the tokens that were added.
pub record LeadsFrom (begun : List Token) (from to : List GrammarSymbol) (spelled : List Token) (d : ℕ) (ts : List Token) (e : ℕ) (rest : List Token) : Type
    0 where
  pub added : List Token
  pub is : spelled ≡ begun ++ added
  pub leads : Leads from to added d ts e rest

pub from_begun : (begun : List Token) {ss : List GrammarSymbol} {d : ℕ} {ts : List Token} → LeadsFrom begun ss ss begun d ts d ts
from_begun begun = record { added = []; is = sym (append-nil begun); leads = record { text = refl; leads = λ after o r. r } }

pub from_push : {begun s t a : List Token} {from between to : List GrammarSymbol} {d e g : ℕ} {ts mid rest : List Token} →
    LeadsFrom begun from between s d ts e mid → Leads between to a e mid g rest → t ≡ s ++ a → LeadsFrom begun from to t d ts g rest
from_push {begun = begun} {a = a} {rest = rest} p q e = record {
  added = p.added ++ a;
  is = e ∙ (ap (λ x. x ++ a) p.is ∙ append_assoc begun p.added a);
  leads = record {
    text = p.leads.text ∙ (ap (λ x. p.added ++ x) q.text ∙ sym (append_assoc p.added a rest));
    leads = λ after o r. p.leads.leads after o (q.leads after o r);
  };
}

pub from_more : (left : Bool → List GrammarSymbol) (more : Bool) {begun : List Token} {from : List GrammarSymbol} {a : List Token} {d e : ℕ} {ts rest : List
    Token} →
    LeadsFrom begun from (left more) a d ts e rest → more ≡ true → LeadsFrom begun from (left true) a d ts e rest
from_more left more {begun = begun} {from = from} {a = a} {d = d} {e = e} {ts = ts} {rest = rest} l h =
    subst (λ b. LeadsFrom begun from (left b) a d ts e rest) h l

-- a continuation by a rule, after which no symbol is left
pub continued_items : (left : Bool → List GrammarSymbol) (more : Bool) {begun : List Token} {from : List GrammarSymbol} {a : List Token} {d : ℕ} {ts rest :
    List Token} →
    left false ≡ [] → LeadsFrom begun from (left more) a d ts d rest → more ≡ false → Continued from begun a d ts rest
continued_items left more {begun = begun} {a = a} {rest = rest} none l h = record {
  text = (continued begun (read_items left more none l.leads h) refl).text ∙ ap (λ x. x ++ rest) (sym l.is);
  passes = (read_items left more none l.leads h).passes;
}

pub continued_rule : {p : Part} {then : List GrammarSymbol} {begun spelled : List Token} {d : ℕ} {ts rest : List Token} →
    Selects (rules p) ts then → Continued then begun spelled d ts rest → Continued (A p ∷ []) begun spelled d ts rest
continued_rule s c = record { text = c.text; passes = record { runs = λ after o t. expand s (c.passes.runs after o t) } }

pub continued_on : {xs ys : List GrammarSymbol} {begun a b : List Token} {d : ℕ} {ts mid rest : List Token} →
    Continued xs begun a d ts mid → Continued ys a b d mid rest → Continued (xs ++ ys) begun b d ts rest
continued_on p q = record { text = p.text ∙ q.text; passes = record { runs = λ after o r. runs_on _ p.passes after o (q.passes.runs after o r) } }

pub fails_continued : {xs ys : List GrammarSymbol} {begun a : List Token} {d : ℕ} {ts mid : List Token} {e : ParseError} →
    Continued xs begun a d ts mid → Fails ys d mid e → Fails (xs ++ ys) d ts e
fails_continued p f = record { stops = λ k l same after. runs_on _ p.passes after _ (f.stops k l same after) }

pub continues_then : {Y : Type 0} (xs ss : List GrammarSymbol) (begun both : List Token) (spelled rest : Y → List Token) (d : ℕ) (ts mid : List Token)
    (r : Result Y ParseError) →
    Continued xs begun both d ts mid → Continues ss both spelled rest d mid r → Continues (xs ++ ss) begun spelled rest d ts r
continues_then xs ss begun both spelled rest d ts mid (Ok y) h c = continued_on h c
continues_then xs ss begun both spelled rest d ts mid (Err x) h c = fails_continued h c

-- where nothing was read before
pub continues_nothing : {Y : Type 0} (ss : List GrammarSymbol) (begun : List Token) (spelled rest : Y → List Token) (d : ℕ) (ts : List Token)
    (r : Result Y ParseError) →
    begun ≡ [] → Continues ss begun spelled rest d ts r → Parses ss spelled rest d ts r
continues_nothing ss begun spelled rest d ts (Ok y) e c = record { text = ap (λ x. x ++ ts) (sym e) ∙ c.text; passes = c.passes }
continues_nothing ss begun spelled rest d ts (Err x) e c = c

-- parsed tokens and their continuation
pub read_continued : {xs ys : List GrammarSymbol} {begun spelled : List Token} {d e : ℕ} {ts mid rest : List Token} →
    Read xs begun d ts e mid → Continued ys begun spelled e mid rest → Read (xs ++ ys) spelled d ts e rest
read_continued p q = record { text = p.text ∙ q.text; passes = record { runs = λ after o r. runs_on _ p.passes after o (q.passes.runs after o r) } }

pub leads_continued : {x xs : List GrammarSymbol} (ys : List GrammarSymbol) {begun spelled : List Token} {d e : ℕ} {ts mid rest : List Token} →
    Leads x (xs ++ ys) begun d ts e mid → Continued xs begun spelled e mid rest → Leads x ys spelled d ts e rest
leads_continued ys p q = record { text = p.text ∙ q.text; leads = λ after o r. p.leads after o (runs_on ys q.passes after o r) }

-- the end of a level that several symbols fill
pub read_level : {ss : List GrammarSymbol} {a : List Token} {d e : ℕ} {ts rest : List Token} → e ≡ d + 1 → Read ss a d ts e rest →
    Read (ss ++ (Close ∷ [])) a d ts d rest
read_level {ss = ss} {d = d} {ts = ts} {rest = rest} same p = record {
  text = p.text;
  passes = record {
    runs = λ after o r. subst (λ xs. ParserRun d xs ts o) (sym (append_assoc ss (Close ∷ []) after))
        (p.passes.runs (Close ∷ after) o (subst (λ e. ParserRun e (Close ∷ after) rest o) (sym (same ∙ add-one d)) (closes r)));
  };
}

-- a part is continued by its rule
pub leads_next : {x to : List GrammarSymbol} {p : Part} {a : List Token} {d e : ℕ} {ts rest : List Token} →
    Leads x (A p ∷ []) a d ts e rest → Selects (rules p) rest to → Leads x to a d ts e rest
leads_next l s = record { text = l.text; leads = λ after o r. l.leads after o (expand s r) }

-- no more tokens are left after an item and its separator than there were before the item
pub item_shorter : {ss : List GrammarSymbol} {a : List Token} {d e : ℕ} {ts mid : List Token} (k : Kind) (sep : Option ℕ) (rest : List Token) →
    Read ss a d ts e mid → Separates k sep mid rest → length rest ≤ length ts
item_shorter {a = a} {ts = ts} {mid = mid} k None rest p s =
    let f : length ts ≡ length a + length mid = ap length p.text ∙ length-append a mid in
    let g : length mid ≡ length rest = ap length s.1 in
    omega arith
item_shorter {a = a} {ts = ts} {mid = mid} k (Some n) rest p s =
    let f : length ts ≡ length a + length mid = ap length p.text ∙ length-append a mid in
    let g : length mid ≡ length (sign k n ∷ rest) = ap length s in
    let h : length (sign k n ∷ rest) ≡ length rest + 1 = sym (add-one (length rest)) in
    omega arith
