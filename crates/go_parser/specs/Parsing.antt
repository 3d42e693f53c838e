-- Contracts of the functions that parse one part of a file, by runs of the machine.
use Rattle.std.specs.Prelude.{ℕ, ◌≡◌, Bool, List, [], ◌∷◌, ◌++◌, Option, Some, None, Result, Ok, Err, ◌≤◌, ◌+◌, true, false, is_some}
use Rattle.go_ast.specs.declared.syntax.Token.{Token}
use Rattle.go_ast.specs.declared.syntax.TokenFaultKind.{TokenFaultKind}
use Rattle.go_parser.specs.declared.parse_error.ParseError.{ParseError}
use Rattle.go_parser.specs.declared.parse_error.ParseError.TheVariants as errors
use Rattle.go_ast.specs.Grammar.{GrammarSymbol, A, Part, One, Opening, is}
use Rattle.go_parser.specs.Machine.{ParserRun, Outcome, Stopped, at}
use Rattle.go_ast.specs.Verdict.{limit}
use Rattle.go_ast.specs.Flatten.{sign}
use Rattle.go_ast.specs.declared.syntax.Kind.{Kind}

-- the machine takes the symbols: with d levels open and tokens ts it comes to e levels and tokens rest
pub record Passes (symbols : List GrammarSymbol) (d : ℕ) (ts : List Token) (e : ℕ) (rest : List Token) : Type 0 where
  pub runs : (after : List GrammarSymbol) → (o : Outcome) → ParserRun e after rest o → ParserRun d (symbols ++ after) ts o

-- if the error e is a fault, the machine stops there, within the symbols
pub record Fails (symbols : List GrammarSymbol) (d : ℕ) (ts : List Token) (e : ParseError) : Type 0 where
  pub stops : (fault : TokenFaultKind) → (left : ℕ) → e ≡ errors.Fault fault left →
      (after : List GrammarSymbol) → ParserRun d (symbols ++ after) ts (Stopped fault left)

-- the tokens ts begin with `spelled`, which the machine takes by the symbols
pub record Read (symbols : List GrammarSymbol) (spelled : List Token) (d : ℕ) (ts : List Token) (e : ℕ) (rest : List Token) : Type 0 where
  pub text : ts ≡ spelled ++ rest
  pub passes : Passes symbols d ts e rest

-- the value of an `Ok` satisfies `found`, and a fault is where the machine stops within the symbols
abbrev pub Gives : {Y : Type 0} → (Y → Type 0) → List GrammarSymbol → ℕ → List Token → Result Y ParseError → Type 0
Gives found symbols d ts (Ok y) = found y
Gives found symbols d ts (Err e) = Fails symbols d ts e

-- the parsed value has the tokens that the machine takes by the symbols; a fault is where the machine stops
abbrev pub Parses : {Y : Type 0} → List GrammarSymbol → (Y → List Token) → (Y → List Token) → ℕ → List Token → Result Y ParseError → Type 0
Parses symbols spelled rest d ts = Gives (λ y. Read symbols (spelled y) d ts d (rest y)) symbols d ts

-- a token of a class is taken that opens a level; e levels are open after it, at most the limit
pub record OpenedAs (c : Kind → Bool) (spelled : List Token) (d : ℕ) (ts : List Token) (e : ℕ) (rest : List Token) : Type 0 where
  pub read : Read (Opening c ∷ []) spelled d ts e rest
  pub deeper : e ≡ d + 1
  pub within : e ≤ limit

-- a token of a class is parsed that opens a level, or a fault is where the machine stops
abbrev pub OpensAs : {Y : Type 0} → (Kind → Bool) → (Y → List Token) → (Y → ℕ) → (Y → List Token) → ℕ → List Token → Result Y ParseError → Type 0
OpensAs c spelled depth rest d ts = Gives (λ y. OpenedAs c (spelled y) d ts (depth y) (rest y)) (Opening c ∷ []) d ts

-- a token of this kind is parsed that opens a level, or a fault is where the machine stops
abbrev pub Opens : {Y : Type 0} → Kind → (Y → ℕ) → (Y → ℕ) → (Y → List Token) → ℕ → List Token → Result Y ParseError → Type 0
Opens kind place depth rest d ts = OpensAs (is kind) (λ y. sign kind (place y) ∷ []) depth rest d ts

-- the machine goes from some symbols to others over the tokens `spelled`
pub record Leads (from to : List GrammarSymbol) (spelled : List Token) (d : ℕ) (ts : List Token) (e : ℕ) (rest : List Token) : Type 0 where
  pub text : ts ≡ spelled ++ rest
  pub leads : (after : List GrammarSymbol) → (o : Outcome) → ParserRun e (to ++ after) rest o → ParserRun d (from ++ after) ts o

-- the parsed value has the tokens over which the machine goes from some symbols to others; a fault is where it stops
abbrev pub LeadsTo : {Y : Type 0} → List GrammarSymbol → List GrammarSymbol → (Y → List Token) → (Y → List Token) → ℕ → List Token → Result Y ParseError →
    Type 0
LeadsTo from to spelled rest d ts = Gives (λ y. Leads from to (spelled y) d ts d (rest y)) from d ts

-- the tokens `begun`, taken before, and those taken by the symbols are together `spelled`
pub record Continued (symbols : List GrammarSymbol) (begun spelled : List Token) (d : ℕ) (ts : List Token) (rest : List Token) : Type 0 where
  pub text : begun ++ ts ≡ spelled ++ rest
  pub passes : Passes symbols d ts d rest

-- the parsed value has the tokens `begun` and those taken by the symbols; a fault is where the machine stops
abbrev pub Continues : {Y : Type 0} → List GrammarSymbol → List Token → (Y → List Token) → (Y → List Token) → ℕ → List Token → Result Y ParseError → Type 0
Continues symbols begun spelled rest d ts = Gives (λ y. Continued symbols begun (spelled y) d ts (rest y)) symbols d ts

-- the tokens `begun`, taken before, and those over which the machine goes from some symbols to others are together `spelled`
pub record ContinuedTo (from to : List GrammarSymbol) (begun spelled : List Token) (d : ℕ) (ts : List Token) (rest : List Token) : Type 0 where
  pub text : begun ++ ts ≡ spelled ++ rest
  pub leads : (after : List GrammarSymbol) → (o : Outcome) → ParserRun d (to ++ after) rest o → ParserRun d (from ++ after) ts o

-- the parsed value has the tokens `begun` and those over which the machine goes from some symbols to others; a fault is where it stops
abbrev pub ContinuesTo : {Y : Type 0} → List GrammarSymbol → List GrammarSymbol → List Token → (Y → List Token) → (Y → List Token) → ℕ → List Token →
    Result Y ParseError → Type 0
ContinuesTo from to begun spelled rest d ts = Gives (λ y. ContinuedTo from to begun (spelled y) d ts (rest y)) from d ts

-- an optional separator of this kind is taken from the tokens ts, and rest are left
abbrev pub Separates : Kind → Option ℕ → List Token → List Token → Type 0
Separates kind None ts rest = (at (is kind) ts ≡ false) × (ts ≡ rest)
Separates kind (Some place) ts rest = ts ≡ sign kind place ∷ rest

-- the symbols after an item of a list in brackets: more of the list after a separator, else the closing bracket
abbrev pub list_rest : Part → Kind → Bool → List GrammarSymbol
list_rest list closer true = A list ∷ []
list_rest list closer false = One (is closer) ∷ []

-- an item is parsed; the symbols after it depend on whether a separator followed
abbrev pub LeadsBy : {Y : Type 0} → List GrammarSymbol → (Bool → List GrammarSymbol) → (Y → Option ℕ) → (Y → List Token) → (Y → List Token) → ℕ → List Token →
    Result Y ParseError → Type 0
LeadsBy from to separator spelled rest d ts = Gives (λ y. Leads from (to (is_some (separator y))) (spelled y) d ts d (rest y)) from d ts
