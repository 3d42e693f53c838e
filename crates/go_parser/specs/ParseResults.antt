-- The results of parsing a whole file.
use Rattle.std.specs.Prelude.{◌≡◌, ℕ, List, [], ◌∷◌, Result, Ok, Err}
use Rattle.go_scanner.specs.CutText.{CutText}
use Rattle.go_ast.specs.declared.syntax.Token.{Token}
use Rattle.go_ast.specs.declared.syntax.TokenFaultKind.{TokenFaultKind as TokenFault}
use Rattle.go_parser.specs.declared.parse_error.ParseError.{ParseError}
use Rattle.go_parser.specs.declared.parse_error.ParseError.TheVariants as error
use Rattle.go_parser.specs.declared.refusal.ParseRefusal.{ParseRefusal}
use Rattle.go_parser.specs.declared.refusal.ParseRefusal.TheVariants as refusal
use Rattle.go_ast.specs.Grammar.{A, File}
use Rattle.go_parser.specs.Machine.{ParserRun, Accepted, Stopped}
use Rattle.go_ast.specs.Kinds.{place_of}
use Rattle.go_ast.specs.Faults.{kind_for, IsParseFault, IsFaultOf}

-- a refusal by a fault names the first fault of the tokens; want of memory claims nothing
abbrev pub IsRefusalOfTokens : CutText → ParseRefusal → Type 0
IsRefusalOfTokens c (refusal.Fault f) = IsParseFault c f
IsRefusalOfTokens c refusal.Memory = Unit {0}

-- the result is what the machine makes of all the tokens: a tree that has these tokens, or the fault at which it stops
abbrev pub IsParseResult : {F : Type 0} → (F → List Token) → List Token → Result F ParseError → Type 0
IsParseResult spelled tokens (Ok f) = (spelled f ≡ tokens) × ParserRun 0 (A File ∷ []) tokens Accepted
IsParseResult spelled tokens (Err e) = (k : TokenFault) (left : ℕ) → e ≡ error.Fault k left → ParserRun 0 (A File ∷ []) tokens (Stopped k left)

-- the refusal of a file for an error of its token list
abbrev pub refusal_of : CutText → ParseError → ParseRefusal
refusal_of c error.Memory = refusal.Memory
refusal_of c (error.Fault k left) = refusal.Fault (record { offset = place_of c left; kind = kind_for k })

-- a refusal by a fault names the first fault of the text; want of memory claims nothing
abbrev pub IsRefusalOfText : List ℕ → ParseRefusal → Type 0
IsRefusalOfText text (refusal.Fault fault) = IsFaultOf text fault
IsRefusalOfText text refusal.Memory = Unit {0}
