-- From the machine's run over all of a file's tokens to the parser's result for the file.
use Rattle.std.proofs.Common.{ℕ, ◌≡◌, ap, sym, ◌∙◌, subst, false, List, [], ◌∷◌, ◌++◌, refl, length, append-nil}
use Rattle.std.specs.Prelude.{◌==◌}
use Rattle.go_scanner.specs.CutText.{CutText}
use Rattle.go_ast.specs.declared.syntax.Token.{Token}
use Rattle.go_ast.specs.declared.syntax.TokenFaultKind.{TokenFaultKind}
use Rattle.go_ast.specs.declared.syntax.TokenFaultKind.TheVariants.{Syntax, Nesting}
use Rattle.go_parser.specs.declared.parse_error.ParseError.{ParseError}
use Rattle.go_parser.specs.declared.parse_error.ParseError.TheVariants as error
use Rattle.go_ast.specs.Grammar.{A, File}
use Rattle.go_parser.specs.Machine.{ParserRun, Accepted, Stopped, accept, left_over}
use Rattle.go_ast.specs.Verdict.{IsFileVerdict, IsWhole, Faulty}
use Rattle.go_parser.specs.Parsing.{Read}
use Rattle.go_ast.specs.Kinds.{kinds_of}
use Rattle.go_parser.specs.ParseResults.{IsRefusalOfTokens, refusal_of}
use Rattle.go_parser.proofs.Predictive.{accepts, file_deep}
use Rattle.go_parser.proofs.EndOfText.{file_stops}
use Rattle.go_parser.proofs.Shallow.{file_shallow}

pub whole_taken : {a : List Token} {ts rest : List Token} → rest ≡ [] → Read (A File ∷ []) a 0 ts 0 rest → (a ≡ ts) × ParserRun 0 (A File ∷ []) ts Accepted
whole_taken {a = a} none r = (
  sym (r.text ∙ (ap (λ x. a ++ x) none ∙ append-nil a)),
  r.passes.runs [] Accepted (subst (λ x. ParserRun 0 [] x Accepted) (sym none) accept),
)

pub whole_left : {a : List Token} {ts : List Token} (rest : List Token) → (length rest == 0) ≡ false → Read (A File ∷ []) a 0 ts 0 rest →
    ParserRun 0 (A File ∷ []) ts (Stopped Syntax (length rest))
whole_left [] e r = absurd (let f : ⊥ = cc in f)
whole_left (t ∷ more) e r = r.passes.runs [] _ left_over

pub whole_text : {ts us : List Token} → ts ≡ us → ParserRun 0 (A File ∷ []) ts Accepted → IsWhole us
whole_text same r = subst IsWhole same (record { derived = accepts r; shallow = λ x. file_shallow r x })

stopped_verdict : (k : TokenFaultKind) (left : ℕ) (ts : List Token) → ParserRun 0 (A File ∷ []) ts (Stopped k left) → IsFileVerdict ts (Faulty k left)
stopped_verdict Syntax left ts r = file_stops r
stopped_verdict Nesting left ts r = file_deep r

pub refused_rightly : (c : CutText) (e : ParseError) (ts : List Token) → ts ≡ kinds_of c →
    ((k : TokenFaultKind) (left : ℕ) → e ≡ error.Fault k left → ParserRun 0 (A File ∷ []) ts (Stopped k left)) → IsRefusalOfTokens c (refusal_of c e)
refused_rightly c error.Memory ts same h = tt
refused_rightly c (error.Fault k left) ts same h = record {
  kind = k;
  left = left;
  verdict = subst (λ x. IsFileVerdict x (Faulty k left)) same (stopped_verdict k left ts (h k left refl));
  kind_is = refl;
  offset_is = refl;
}
