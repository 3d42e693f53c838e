-- Steps of the machine, as the parser takes them.
use Rattle.std.proofs.Common.{add-one, append_assoc, ℕ, ◌≡◌, Bool, true, false, List, [], ◌∷◌, ◌++◌, ◌+◌, ◌<◌, ◌≤◌, length, ap, sym, ◌∙◌, subst, refl}
use Rattle.go_ast.specs.declared.syntax.Kind.{Kind}
use Rattle.go_ast.specs.declared.syntax.Token.{Token}
use Rattle.go_ast.specs.declared.syntax.TokenFaultKind.{TokenFaultKind}
use Rattle.go_ast.specs.declared.syntax.TokenFaultKind.TheVariants.{Syntax, Nesting}
use Rattle.go_ast.specs.Grammar.{is, One, Opening, Close, A, GrammarSymbol, Part, rules}
use Rattle.go_parser.specs.Machine.{ParserRun, Outcome, Accepted, Stopped, refused_opening, too_deep, take, refused, expand, closes, opens, at, Selects}
use Rattle.go_ast.specs.Verdict.{limit}
use Rattle.std.proofs.Common.{Result, Ok, Err}
use Rattle.std.specs.Result.{IsErrAnd}
use Rattle.go_parser.specs.declared.parse_error.ParseError.{ParseError}
use Rattle.go_parser.specs.declared.parse_error.ParseError.TheVariants.{Memory, Fault}
use Rattle.go_parser.specs.Parsing.{Leads, LeadsTo, Continued, ContinuedTo, Read, Fails, Passes, Parses, Gives, Continues, ContinuesTo}
use Rattle.go_ast.specs.Flatten.{sign}
use Rattle.go_parser.proofs.KindTests.{is_only}

pub passes_token : (k : Kind) (t : Token) (d : ℕ) (ts rest : List Token) → ts ≡ t ∷ rest → is k t.kind ≡ true →
    Passes (One (is k) ∷ []) d ts d rest
passes_token k t d ts rest e same = record { runs = λ after o r. subst (λ ts. ParserRun d (One (is k) ∷ after) ts o) (sym e) (take same r) }

pub token_text : (k : Kind) (t : Token) (ts rest : List Token) → ts ≡ t ∷ rest → is k t.kind ≡ true → ts ≡ sign k t.place ∷ rest
token_text k t ts rest e same = e ∙ ap (λ j. sign j t.place ∷ rest) (is_only k t.kind same)

abbrev pub outcome_of : ParseError → Outcome
outcome_of Memory = Accepted
outcome_of (Fault k l) = Stopped k l

pub fails_so : (symbols : List GrammarSymbol) (d : ℕ) (ts : List Token) (fault : TokenFaultKind) (left : ℕ) →
    ((after : List GrammarSymbol) → ParserRun d (symbols ++ after) ts (Stopped fault left)) → Fails symbols d ts (Fault fault left)
fails_so symbols d ts fault left h = record { stops = λ k l e after. subst (λ o. ParserRun d (symbols ++ after) ts o) (ap outcome_of e) (h after) }

-- a token that is refused
pub refuses_one : (c : Kind → Bool) (d : ℕ) (ts : List Token) → at c ts ≡ false → Fails (One c ∷ []) d ts (Fault Syntax (length ts))
refuses_one c d ts e = fails_so _ _ _ _ _ (λ after. refused e)

pub at_end : (c : Kind → Bool) (ts : List Token) → ts ≡ [] → at c ts ≡ false
at_end c ts e = ap (at c) e

pub at_token : (c : Kind → Bool) (b : Bool) (t : Token) (ts rest : List Token) → ts ≡ t ∷ rest → c t.kind ≡ b → at c ts ≡ b
at_token c b t ts rest e f = ap (at c) e ∙ f

-- sequences

pub read_end : {d : ℕ} {ts : List Token} → Read [] [] d ts d ts
read_end = record { text = refl; passes = record { runs = λ after o r. r } }

pub read_then : {s : GrammarSymbol} {ss : List GrammarSymbol} {a b : List Token} {d e f : ℕ} {ts mid rest : List Token} →
    Read (s ∷ []) a d ts e mid → Read ss b e mid f rest → Read (s ∷ ss) (a ++ b) d ts f rest
read_then {ss = ss} {a = a} {b = b} {rest = rest} p q = record {
  text = p.text ∙ (ap (λ x. a ++ x) q.text ∙ sym (append_assoc a b rest));
  passes = record { runs = λ after o r. p.passes.runs (ss ++ after) o (q.passes.runs after o r) };
}

pub read_close : {ss : List GrammarSymbol} {a : List Token} {d e f : ℕ} {ts rest : List Token} →
    e ≡ d + 1 → Read ss a d ts f rest → Read (Close ∷ ss) a e ts f rest
read_close {ss = ss} {d = d} {ts = ts} same p = record {
  text = p.text;
  passes = record { runs = λ after o r. subst (λ e. ParserRun e (Close ∷ (ss ++ after)) ts o) (sym (same ∙ add-one d)) (closes (p.passes.runs after o r)) };
}

-- the end of a level that one symbol fills
pub read_to_close : {s : GrammarSymbol} {a : List Token} {d e f : ℕ} {ts rest : List Token} →
    f ≡ d + 1 → Read (s ∷ []) a e ts f rest → Read (s ∷ Close ∷ []) a e ts d rest
read_to_close {s = s} {d = d} {rest = rest} same p = record {
  text = p.text;
  passes = record { runs = λ after o r. p.passes.runs (Close ∷ after) o (subst (λ e. ParserRun e (Close ∷ after) rest o) (sym (same ∙ add-one d)) (closes r)) };
}

pub read_rule : {p : Part} {then : List GrammarSymbol} {a : List Token} {d e : ℕ} {ts rest : List Token} →
    Selects (rules p) ts then → Read then a d ts e rest → Read (A p ∷ []) a d ts e rest
read_rule s r = record { text = r.text; passes = record { runs = λ after o t. expand s (r.passes.runs after o t) } }

pub read_as : {ss : List GrammarSymbol} {a b : List Token} {d e : ℕ} {ts rest : List Token} →
    Read ss a d ts e rest → a ≡ b → Read ss b d ts e rest
read_as {rest = rest} r e = record { text = r.text ∙ ap (λ x. x ++ rest) e; passes = r.passes }

-- an opening token
pub passes_opening : (k : Kind) (t : Token) (d : ℕ) (ts rest : List Token) → ts ≡ t ∷ rest → is k t.kind ≡ true → d < limit →
    Passes (Opening (is k) ∷ []) d ts (d + 1) rest
passes_opening k t d ts rest e same below = record
    { runs = λ after o r. subst (λ ts. ParserRun d (Opening (is k) ∷ after) ts o) (sym e) (opens same below (rw (← add-one) r)) }

pub refuses_opening : (c : Kind → Bool) (d : ℕ) (ts : List Token) → at c ts ≡ false → Fails (Opening c ∷ []) d ts (Fault Syntax (length ts))
refuses_opening c d ts e = fails_so _ _ _ _ _ (λ after. refused_opening e)

pub opens_too_deep : (c : Kind → Bool) (t : Token) (d : ℕ) (ts rest : List Token) → ts ≡ t ∷ rest → c t.kind ≡ true → limit ≤ d →
    Fails (Opening c ∷ []) d ts (Fault Nesting (length ts))
opens_too_deep c t d ts rest e same above = fails_so _ _ _ _ _
    (λ after. subst (λ ts. ParserRun d (Opening c ∷ after) ts (Stopped Nesting (length ts))) (sym e) (too_deep same above))

-- faults, and exits by `?`

pub fails_first : {s : GrammarSymbol} {ss : List GrammarSymbol} {d : ℕ} {ts : List Token} {e : ParseError} → Fails (s ∷ []) d ts e → Fails (s ∷ ss) d ts e
fails_first {ss = ss} f = record { stops = λ k l same after. f.stops k l same (ss ++ after) }

pub fails_later : {s : GrammarSymbol} {ss : List GrammarSymbol} {a : List Token} {d f : ℕ} {ts mid : List Token} {e : ParseError} → Read (s ∷ []) a d ts f mid →
    Fails ss f mid e → Fails (s ∷ ss) d ts e
fails_later {ss = ss} p f = record { stops = λ k l same after. p.passes.runs (ss ++ after) _ (f.stops k l same after) }

pub fails_close : {ss : List GrammarSymbol} {d e : ℕ} {ts : List Token} {x : ParseError} → e ≡ d + 1 → Fails ss d ts x → Fails (Close ∷ ss) e ts x
fails_close {ss = ss} {d = d} {ts = ts} deeper f =
    record {
      stops = λ k l same after.
          subst (λ e. ParserRun e (Close ∷ (ss ++ after)) ts (Stopped k l)) (sym (deeper ∙ add-one d)) (closes (f.stops k l same after));
    }

pub fails_rule : {p : Part} {then : List GrammarSymbol} {d : ℕ} {ts : List Token} {e : ParseError} → Selects (rules p) ts then → Fails then d ts e →
    Fails (A p ∷ []) d ts e
fails_rule s f = record { stops = λ k l same after. expand s (f.stops k l same after) }

pub exits : {Y : Type 0} (found : Y → Type 0) (symbols : List GrammarSymbol) (d : ℕ) (ts : List Token) (e : ParseError) (r : Result Y ParseError) →
    IsErrAnd r (λ x. x ≡ e) → Fails symbols d ts e → Gives found symbols d ts r
exits found symbols d ts e (Ok y) a f = absurd a
exits found symbols d ts e (Err x) a f = subst (λ e. Fails symbols d ts e) (sym a) f

-- from symbols to symbols

pub leads_here : {ss : List GrammarSymbol} {d : ℕ} {ts : List Token} → Leads ss ss [] d ts d ts
leads_here = record { text = refl; leads = λ after o r. r }

pub leads_then : {s : GrammarSymbol} {ss to : List GrammarSymbol} {a b : List Token} {d e f : ℕ} {ts mid rest : List Token} →
    Read (s ∷ []) a d ts e mid → Leads ss to b e mid f rest → Leads (s ∷ ss) to (a ++ b) d ts f rest
leads_then {ss = ss} {a = a} {b = b} {rest = rest} p q = record {
  text = p.text ∙ (ap (λ x. a ++ x) q.text ∙ sym (append_assoc a b rest));
  leads = λ after o r. p.passes.runs (ss ++ after) o (q.leads after o r);
}

pub leads_close : {ss to : List GrammarSymbol} {a : List Token} {d e f : ℕ} {ts rest : List Token} →
    e ≡ d + 1 → Leads ss to a d ts f rest → Leads (Close ∷ ss) to a e ts f rest
leads_close {ss = ss} {d = d} {ts = ts} same p = record {
  text = p.text;
  leads = λ after o r. subst (λ e. ParserRun e (Close ∷ (ss ++ after)) ts o) (sym (same ∙ add-one d)) (closes (p.leads after o r));
}

pub leads_rule : {p : Part} {then to : List GrammarSymbol} {a : List Token} {d e : ℕ} {ts rest : List Token} →
    Selects (rules p) ts then → Leads then to a d ts e rest → Leads (A p ∷ []) to a d ts e rest
leads_rule s r = record { text = r.text; leads = λ after o t. expand s (r.leads after o t) }

pub leads_on : {x y z : List GrammarSymbol} {a b : List Token} {d e f : ℕ} {ts mid rest : List Token} →
    Leads x y a d ts e mid → Leads y z b e mid f rest → Leads x z (a ++ b) d ts f rest
leads_on {a = a} {b = b} {rest = rest} p q = record {
  text = p.text ∙ (ap (λ x. a ++ x) q.text ∙ sym (append_assoc a b rest));
  leads = λ after o r. p.leads after o (q.leads after o r);
}

pub leads_as : {x y : List GrammarSymbol} {a b : List Token} {d e : ℕ} {ts rest : List Token} →
    Leads x y a d ts e rest → a ≡ b → Leads x y b d ts e rest
leads_as {rest = rest} r e = record { text = r.text ∙ ap (λ x. x ++ rest) e; leads = r.leads }

pub leads_to_end : {p : Part} {ss : List GrammarSymbol} {a : List Token} {d : ℕ} {ts rest : List Token} →
    Leads ss (A p ∷ []) a d ts d rest → Selects (rules p) rest [] → Read ss a d ts d rest
leads_to_end l s = record { text = l.text; passes = record { runs = λ after o r. l.leads after o (expand s r) } }

pub fails_leads : {x y : List GrammarSymbol} {a : List Token} {d f : ℕ} {ts mid : List Token} {e : ParseError} → Leads x y a d ts f mid → Fails y f mid e →
    Fails x d ts e
fails_leads l f = record { stops = λ k n same after. l.leads after _ (f.stops k n same after) }

-- a last call that parses the symbols of a rule
pub tail_rule : {Y : Type 0} (p : Part) (then : List GrammarSymbol) (spelled rest : Y → List Token) (d : ℕ) (ts : List Token) (r : Result Y ParseError) →
    Selects (rules p) ts then → Parses then spelled rest d ts r → Parses (A p ∷ []) spelled rest d ts r
tail_rule p then spelled rest d ts (Ok y) s h = read_rule s h
tail_rule p then spelled rest d ts (Err e) s h = fails_rule s h

-- one token of a class
pub passes_one : (c : Kind → Bool) (t : Token) (d : ℕ) (ts rest : List Token) → ts ≡ t ∷ rest → c t.kind ≡ true →
    Passes (One c ∷ []) d ts d rest
passes_one c t d ts rest e same = record { runs = λ after o r. subst (λ ts. ParserRun d (One c ∷ after) ts o) (sym e) (take same r) }

pub read_one : (c : Kind → Bool) (k : Kind) (t : Token) (d : ℕ) (ts rest : List Token) → ts ≡ t ∷ rest → c t.kind ≡ true → t.kind ≡ k →
    Read (One c ∷ []) (sign k t.place ∷ []) d ts d rest
read_one c k t d ts rest e same named = record { text = e ∙ ap (λ j. sign j t.place ∷ rest) named; passes = passes_one c t d ts rest e same }

pub opened_one : (c : Kind → Bool) (k : Kind) (t : Token) (d : ℕ) (ts rest : List Token) → ts ≡ t ∷ rest → c t.kind ≡ true → t.kind ≡ k → d < limit →
    Read (Opening c ∷ []) (sign k t.place ∷ []) d ts (d + 1) rest
opened_one c k t d ts rest e same named below = record {
  text = e ∙ ap (λ j. sign j t.place ∷ rest) named;
  passes = record { runs = λ after o r. subst (λ ts. ParserRun d (Opening c ∷ after) ts o) (sym e) (opens same below (rw (← add-one) r)) };
}

-- sequences of several symbols

pub fails_more : {xs : List GrammarSymbol} (ys : List GrammarSymbol) {d : ℕ} {ts : List Token} {e : ParseError} → Fails xs d ts e → Fails (xs ++ ys) d ts e
fails_more {xs = xs} ys {d = d} {ts = ts} f = record
    { stops = λ k l same after. subst (λ s. ParserRun d s ts (Stopped k l)) (sym (append_assoc xs ys after)) (f.stops k l same (ys ++ after)) }

pub fails_after : {xs ys : List GrammarSymbol} {a : List Token} {d e : ℕ} {ts mid : List Token} {x : ParseError} → Read xs a d ts e mid → Fails ys e mid x →
    Fails (xs ++ ys) d ts x
fails_after {xs = xs} {ys = ys} {d = d} {ts = ts} p f =
    record {
      stops = λ k l same after.
          subst (λ s. ParserRun d s ts (Stopped k l)) (sym (append_assoc xs ys after)) (p.passes.runs (ys ++ after) _ (f.stops k l same after));
    }

-- continuing after tokens that have been parsed
pub read_on : {xs ys : List GrammarSymbol} {a b : List Token} {d : ℕ} {ts mid rest : List Token} →
    Read xs a d ts d mid → Continued ys a b d mid rest → Read (xs ++ ys) b d ts d rest
read_on {xs = xs} {ys = ys} {d = d} {ts = ts} p c = record {
  text = p.text ∙ c.text;
  passes = record {
    runs = λ after o r. subst (λ s. ParserRun d s ts o) (sym (append_assoc xs ys after)) (p.passes.runs (ys ++ after) o (c.passes.runs after
        o r));
  };
}

pub read_through : {x y : List GrammarSymbol} {a : List Token} {d e : ℕ} {ts rest : List Token} → Leads x y [] d ts d ts → Read y a d ts e rest →
    Read x a d ts e rest
read_through l r = record { text = r.text; passes = record { runs = λ after o t. l.leads after o (r.passes.runs after o t) } }

-- a last call that continues after tokens that have been parsed
pub tail_on : {Y : Type 0} {xs : List GrammarSymbol} (ys : List GrammarSymbol) {a : List Token} (spelled rest : Y → List Token) {d : ℕ} {ts : List Token}
    (mid : List Token) (r : Result Y ParseError) →
    Read xs a d ts d mid → Continues ys a spelled rest d mid r → Parses (xs ++ ys) spelled rest d ts r
tail_on ys spelled rest mid (Ok y) p c = read_on p c
tail_on ys spelled rest mid (Err e) p c = fails_after p c

pub tail_through : {Y : Type 0} {x : List GrammarSymbol} (y : List GrammarSymbol) (spelled rest : Y → List Token) {d : ℕ} {ts : List Token} (r : Result Y
    ParseError) →
    Leads x y [] d ts d ts → Parses y spelled rest d ts r → Parses x spelled rest d ts r
tail_through y spelled rest (Ok v) l p = read_through l p
tail_through y spelled rest (Err e) l p = fails_leads l p

pub read_led : {xs ys : List GrammarSymbol} {a b : List Token} {d e f : ℕ} {ts mid rest : List Token} →
    Leads xs ys a d ts e mid → Read ys b e mid f rest → Read xs (a ++ b) d ts f rest
read_led {a = a} {b = b} {rest = rest} p q = record {
  text = p.text ∙ (ap (λ x. a ++ x) q.text ∙ sym (append_assoc a b rest));
  passes = record { runs = λ after o r. p.leads after o (q.passes.runs after o r) };
}

pub leads_after : {xs ys z : List GrammarSymbol} {a b : List Token} {d e f : ℕ} {ts mid rest : List Token} →
    Read xs a d ts e mid → Leads ys z b e mid f rest → Leads (xs ++ ys) z (a ++ b) d ts f rest
leads_after {xs = xs} {ys = ys} {a = a} {b = b} {d = d} {ts = ts} {rest = rest} p q = record {
  text = p.text ∙ (ap (λ x. a ++ x) q.text ∙ sym (append_assoc a b rest));
  leads = λ after o r. subst (λ s. ParserRun d s ts o) (sym (append_assoc xs ys after)) (p.passes.runs (ys ++ after) o (q.leads after o r));
}

pub continued_by : {ss : List GrammarSymbol} {begun x spelled : List Token} {d : ℕ} {ts rest : List Token} →
    Read ss x d ts d rest → begun ++ x ≡ spelled → Continued ss begun spelled d ts rest
continued_by {begun = begun} {x = x} {rest = rest} r e = record {
  text = ap (λ y. begun ++ y) r.text ∙ (sym (append_assoc begun x rest) ∙ ap (λ y. y ++ rest) e);
  passes = r.passes;
}

-- from symbols to symbols, after tokens that have been parsed

pub leads_first : {s : GrammarSymbol} {ss : List GrammarSymbol} {a : List Token} {d e : ℕ} {ts rest : List Token} →
    Read (s ∷ []) a d ts e rest → Leads (s ∷ ss) ss a d ts e rest
leads_first {ss = ss} r = record { text = r.text; leads = λ after o t. r.passes.runs (ss ++ after) o t }

pub continued_here : {ss : List GrammarSymbol} {begun : List Token} {d : ℕ} {ts : List Token} → ContinuedTo ss ss begun begun d ts ts
continued_here = record { text = refl; leads = λ after o r. r }

pub continued_led : {from to : List GrammarSymbol} {begun x spelled : List Token} {d : ℕ} {ts rest : List Token} →
    Leads from to x d ts d rest → begun ++ x ≡ spelled → ContinuedTo from to begun spelled d ts rest
continued_led {begun = begun} {x = x} {rest = rest} l e = record {
  text = ap (λ y. begun ++ y) l.text ∙ (sym (append_assoc begun x rest) ∙ ap (λ y. y ++ rest) e);
  leads = l.leads;
}

-- a last call that goes on from symbols to symbols
pub tail_continued : {Y : Type 0} {x y : List GrammarSymbol} (z : List GrammarSymbol) {a b : List Token} (spelled rest : Y → List Token) {d : ℕ}
    {ts mid : List Token} (r : Result Y ParseError) →
    ContinuedTo x y a b d ts mid → ContinuesTo y z b spelled rest d mid r → ContinuesTo x z a spelled rest d ts r
tail_continued z spelled rest (Ok v) p q = record { text = p.text ∙ q.text; leads = λ after o t. p.leads after o (q.leads after o t) }
tail_continued z spelled rest (Err e) p f = record { stops = λ k n same after. p.leads after _ (f.stops k n same after) }

pub tail_led : {Y : Type 0} {s : GrammarSymbol} (ss to : List GrammarSymbol) {a : List Token} (spelled rest : Y → List Token) {d : ℕ} {ts mid : List Token}
    (r : Result Y ParseError) →
    Read (s ∷ []) a d ts d mid → ContinuesTo ss to a spelled rest d mid r → LeadsTo (s ∷ ss) to spelled rest d ts r
tail_led ss to spelled rest (Ok v) p q = record { text = p.text ∙ q.text; leads = λ after o t. p.passes.runs (ss ++ after) o (q.leads after o t) }
tail_led ss to spelled rest (Err e) p f = fails_later p f
