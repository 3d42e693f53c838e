-- Tokens read by their index.
use Rattle.std.proofs.Common.{◌≡◌, ℕ, List, ◌<◌, length, get_or, ap, ◌∙◌}
use Rattle.std.proofs.lemmas.List.{get_or_default}
use Rattle.go_scanner.specs.declared.piece.Piece.{Piece}
use Rattle.go_scanner.specs.CutText.{CutText, IsCutText, tokens_in, token_at}
use Rattle.go_scanner.specs.Tokens.{semicolon}
use Rattle.go_scanner.proofs.SpanLemmas.{IsToken, token_is}

-- the token that was read is the one of this index
pub record IsRead (v : CutText) (i : ℕ) (t : Piece) : Type 0 where
  pub at : t ≡ token_at v i
  pub is : IsToken v.text t

pub token_read : (v : CutText) (tokens : List Piece) (i : ℕ) (t : Piece) → IsCutText v.text v.pieces tokens → i < length (tokens_in v) →
    t ≡ get_or tokens i t → IsRead v i t
token_read v tokens i t known fits t_is =
    record {
      at = t_is ∙ ap (λ l. get_or l i t) known.tokens_are ∙ get_or_default (tokens_in v) i t (semicolon 0) fits;
      is = token_is v.text v.pieces tokens i t known.cut known.tokens_are t_is (rw known.tokens_are fits);
    }
