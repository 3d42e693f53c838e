-- The answers to the goals of `files::literal`.
use Rattle.std.proofs.Common.{ℕ, ◌≡◌, List, subst, MatchOption}
use Rattle.std.specs.Prelude.{Option, Some, None}
use Rattle.std.specs.declared.vec.Vec.{Vec}
use Rattle.std.specs.declared.alloc.Global.{Global}
use Rattle.std.proofs.lemmas.Result.{IfOk-weaker}
use Rattle.go_scanner.specs.Cuts.{bytes_of}
use Rattle.go_scanner.specs.CutText.{CutText, token_at}
use Rattle.go_scanner.specs.TokenValues.{HasTokenValue}
use Rattle.go_ast.specs.SourceFile.{SourceFile, source_of}
use Rattle.types_declared.specs.Files.{HasLiteral}
use Rattle.types_declared.proofs.files.literal.Goals as goal

literal_at : (s : SourceFile) (token : ℕ) (o : Option (Vec ℕ Global)) →
    HasTokenValue (token_at s.cut token).class (bytes_of s.cut.text (token_at s.cut token)) o →
    MatchOption o ((v : List ℕ) → HasLiteral s token v → ⊥) (λ v. HasLiteral s token v.items)
literal_at s token None h = λ v l. h l.is_string
literal_at s token (Some v) h = record { is_string = h.0; stands_for = h.1 }

literal_from : (s : SourceFile) (cut : CutText) (token : ℕ) (o : Option (Vec ℕ Global)) → cut ≡ s.cut →
    HasTokenValue (token_at cut token).class (bytes_of cut.text (token_at cut token)) o →
    MatchOption o ((v : List ℕ) → HasLiteral s token v → ⊥) (λ v. HasLiteral s token v.items)
literal_from s cut token o e h = literal_at s token o (subst (λ z. HasTokenValue (token_at z token).class (bytes_of z.text (token_at z token)) o) e h)

pub returns-then-token-tokens : goal.returns-then-token-tokens
returns-then-token-tokens c =
    IfOk-weaker c.string_value.result
    (HasTokenValue (token_at c.pieces-pieces.result.now c.args.token).class
    (bytes_of c.pieces-pieces.result.now.text (token_at c.pieces-pieces.result.now c.args.token)))
    (λ o. MatchOption o ((v : List ℕ) → HasLiteral (source_of c.args.file.now) c.args.token v → ⊥)
    (λ v. HasLiteral (source_of c.args.file.now) c.args.token v.items))
    (λ o h. literal_from (source_of c.args.file.now) c.pieces-pieces.result.now c.args.token o c.pieces-pieces.ensures h) c.string_value.ensures
