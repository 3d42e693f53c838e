-- The first fault of a text: of its pieces, or else of its tokens.
use Rattle.std.specs.Prelude.{◌≡◌, ℕ, ◌⊎◌, List}
use Rattle.go_scanner.specs.Cuts.{IsCut, IsFirstFault}
use Rattle.go_scanner.specs.CutText.{CutText}
use Rattle.go_scanner.specs.declared.refusal.TextFault.{TextFault}
use Rattle.base_files.specs.declared.fault_kind.FaultKind.{FaultKind}
use Rattle.base_files.specs.declared.fault_kind.FaultKind.TheVariants as kind
use Rattle.go_ast.specs.declared.syntax.TokenFaultKind.{TokenFaultKind as TokenFault}
use Rattle.go_ast.specs.declared.syntax.TokenFaultKind.TheVariants.{Syntax, Nesting}
use Rattle.go_ast.specs.Kinds.{kinds_of, place_of}
use Rattle.go_ast.specs.Verdict.{IsWhole, IsFileVerdict, Faulty}

-- the kind of fault of a file for a kind of fault of its token list
abbrev pub kind_for : TokenFault → FaultKind
kind_for Syntax = kind.Syntax
kind_for Nesting = kind.Nesting

-- f is the first fault of a file's tokens: at the start of the token at fault, or at the file's end where all its tokens begin some file
pub record IsParseFault (c : CutText) (f : TextFault) : Type 0 where
  pub kind : TokenFault
  pub left : ℕ
  pub verdict : IsFileVerdict (kinds_of c) (Faulty kind left)
  pub kind_is : f.kind ≡ kind_for kind
  pub offset_is : f.offset ≡ place_of c left

-- the text has a cut, and its tokens are a file of the grammar within the limit of nesting
pub record IsParsable (text : List ℕ) : Type 0 where
  pub cut : CutText
  pub of_text : cut.text ≡ text
  pub is_cut : IsCut cut.text cut.pieces
  pub whole : IsWhole (kinds_of cut)

-- the text has a cut, and `fault` is the first fault of its tokens
pub record IsFaultOfTokens (text : List ℕ) (fault : TextFault) : Type 0 where
  pub cut : CutText
  pub of_text : cut.text ≡ text
  pub is_cut : IsCut cut.text cut.pieces
  pub fault_is : IsParseFault cut fault

-- `fault` is the first fault of a text: of its pieces, or of its tokens where it has a cut
abbrev pub IsFaultOf : List ℕ → TextFault → Type 0
IsFaultOf text fault = IsFirstFault text fault ⊎ IsFaultOfTokens text fault
