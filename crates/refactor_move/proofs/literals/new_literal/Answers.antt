-- The answers to the goals of `literals::new_literal`.
use Rattle.std.proofs.Common.{ℕ, ◌≡◌, List, sym, subst}
use Rattle.std.specs.Prelude.{MatchOption}
use Rattle.std.proofs.lemmas.Result.{IfOk-weaker}
use Rattle.go_ast.specs.SourceFile.{source_of}
use Rattle.types_declared.specs.Files.{HasLiteral}
use Rattle.refactor_move.specs.Paths.{HasMovedPackage, quoted}
use Rattle.refactor_move.specs.Steps.{IsNewLiteral}
use Rattle.refactor_move.proofs.TokenEdits.{no_literal, the_literal, literal_told}
use Rattle.refactor_move.proofs.literals.new_literal.Goals as goal

pub returns-in-None : goal.returns-in-None
returns-in-None c = λ text h. no_literal (source_of c.args.file.now) c.args.token c.in_ok-literal.field-0 c.in-None.is c.in_ok-literal.ensures h.old
    h.stands_for

pub returns-in-Some : goal.returns-in-Some
returns-in-Some c =
    let f = source_of c.args.file.now in
    let m = c.args.moved.now in
    let i = c.args.token in
    let old = c.deref.result.now in
    let has : HasLiteral f i old = subst (HasLiteral f i) (sym c.deref.ensures.value)
    (the_literal f i c.in_ok-literal.field-0 c.in-Some.path c.in-Some.is c.in_ok-literal.ensures) in
    IfOk-weaker c.quoted_path.result
    (λ text. MatchOption text ((new : List ℕ) → HasMovedPackage m.from m.to old new → ⊥) (λ text. (new : List ℕ) × (HasMovedPackage m.from m.to old new ×
    (text ≡ quoted new))))
    (λ text. MatchOption text ((text : List ℕ) → IsNewLiteral f m i text → ⊥) (λ text. IsNewLiteral f m i text))
    (λ text. literal_told f m i old has text) c.quoted_path.ensures
