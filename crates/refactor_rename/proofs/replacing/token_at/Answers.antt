-- The answers to the goals of `replacing::token_at`.
use Rattle.std.proofs.Common.{ℕ, ◌≡◌, rules, subst, sym}
use Rattle.std.specs.List.{Contains}
use Rattle.std.specs.FinMap.{nat_cmp-IsAntisymmetric}
use Rattle.std.specs.Ordering.{nat_cmp}
use Rattle.std.specs.Cmp.{nat_cmp_total}
use Rattle.std.proofs.lemmas.Fn.{always_returns_same}
use Rattle.go_scanner.specs.declared.piece.Piece.{Piece}
use Rattle.refactor_rename.proofs.KeySearch.{compared, found_is, none_is}
use Rattle.refactor_rename.proofs.PlaceEdits.{start_of}
use Rattle.refactor_rename.proofs.replacing.token_at.Goals as goal

pub returns-in-Ok : goal.returns-in-Ok
returns-in-Ok c =
    subst (λ (t : Piece). Contains c.args.tokens.now t × (t.span.start ≡ c.args.offset)) (sym c.piece.ensures)
    (found_is Piece ℕ nat_cmp nat_cmp_total nat_cmp-IsAntisymmetric start_of c.args.tokens.now c.args.offset c.in-Ok.number
    c.index-tokens-number.result c.in-Ok.ensures.bound c.index-tokens-number.is
    (c.in-Ok.ensures.position (compared Piece ℕ nat_cmp nat_cmp_total nat_cmp-IsAntisymmetric start_of c.args.offset)
    (always_returns_same _ _ _ (λ a r f k. (search rules, search rules)))))

pub returns-in-Err : goal.returns-in-Err
returns-in-Err c =
    none_is Piece ℕ nat_cmp nat_cmp_total nat_cmp-IsAntisymmetric start_of c.args.tokens.now c.args.offset c.in-Err.field-0 c.requires
    (c.in-Err.ensures.position (compared Piece ℕ nat_cmp nat_cmp_total nat_cmp-IsAntisymmetric start_of c.args.offset)
    (always_returns_same _ _ _ (λ a r f k. (search rules, search rules))))
