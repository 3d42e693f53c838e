-- The laws of typing of statements and declarations.
use Rattle.std.proofs.Common.{ℕ, ◌≡◌, ◌↔◌, ◌⊎◌, inl, inr, Bool, List, []}
use Rattle.go_ast.specs.Tree.{SimpleTree, StatementTree, BlockTree, FuncTree, DeclTree, FileTree}
use Rattle.types_expr.specs.Types.{PlainType}
use Rattle.types_expr.specs.World.{World, Locals}
use Rattle.types_stmt.specs.Checked.{FoundSoFar}
use Rattle.types_stmt.specs.Simple.{check_simple}
use Rattle.types_stmt.specs.Statements.{check_statement, check_block}
use Rattle.types_stmt.specs.Headers.{check_function}
use Rattle.types_stmt.specs.Declarations.{check_decl, check_file}
use Rattle.law_typing.specs.IsFaultlessWith.{IsFaultlessWith, typed_targets}
use Rattle.law_typing.specs.Simple.{SimpleIsTyped}
use Rattle.law_typing.specs.Statements.{StatementIsTyped, BlockIsTyped}
use Rattle.law_typing.specs.Declarations.{FunctionIsTyped, DeclIsTyped, FileIsTyped}
use Rattle.law_typing.specs.Excused.{SimpleIsExcused, StatementIsExcused, BlockIsExcused, FunctionIsExcused, DeclIsExcused, FileIsExcused}
use Rattle.law_typing.proofs.PartOutcomes.{IsAt, here}
use Rattle.law_typing.proofs.Simple.{simple_true, simple_settled}
use Rattle.law_typing.proofs.Statements.{statement_true, statement_settled, block_true, block_settled}
use Rattle.law_typing.proofs.Headers.{function_true, function_settled}
use Rattle.law_typing.proofs.Declarations.{decl_true, decl_settled, file_true, file_settled}
use Rattle.law_typing.proofs.TypedNotExcused.{targets_are, statement_one, file_not}

at : {s : FoundSoFar} {after : Locals} → IsAt s after → IsFaultlessWith s after
at a = record { locals = a.locals_are; faultless = a.faultless }

pub simple_law : (w : World) → (s : FoundSoFar) → (a : SimpleTree) → (after : Locals) → s.faults ≡ [] → SimpleIsTyped w s.locals a after →
    IsFaultlessWith (check_simple w s a) after
simple_law w s a after h r = at (simple_true w s a after h r)

pub settled_simple : (w : World) → (s : FoundSoFar) → (a : SimpleTree) → (check_simple w s a).faults ≡ [] →
    SimpleIsTyped w s.locals a (check_simple w s a).locals ⊎ SimpleIsExcused w s.locals a
settled_simple w s a h = let q = simple_settled w s a h in q.1

pub statement_law : (w : World) → (results : List PlainType) → (s : FoundSoFar) → (x : StatementTree) → (after : Locals) → s.faults ≡ [] →
    StatementIsTyped w results s.locals x after → IsFaultlessWith (check_statement w (typed_targets results) s x) after
statement_law w results s x after h r = at (statement_true w results (typed_targets results) (targets_are results) r s (here s h))

pub settled_statement : (w : World) → (results : List PlainType) → (s : FoundSoFar) → (x : StatementTree) →
    (check_statement w (typed_targets results) s x).faults ≡ [] → StatementIsTyped w results s.locals x (check_statement w
    (typed_targets results) s x).locals ⊎ StatementIsExcused w results s.locals x
settled_statement w results s x h = let q = statement_settled w results (typed_targets results) (targets_are results) x s h in q.1

pub one_outcome : (w : World) → (results : List PlainType) → (before after other : Locals) → (x : StatementTree) →
    StatementIsTyped w results before x after → StatementIsTyped w results before x other → after ≡ other
one_outcome w results before after other x h k = statement_one w results before after other x h k

pub block_law : (w : World) → (results : List PlainType) → (s : FoundSoFar) → (x : BlockTree) → (after : Locals) → s.faults ≡ [] →
    BlockIsTyped w results s.locals x after → IsFaultlessWith (check_block w (typed_targets results) s x) after
block_law w results s x after h r = at (block_true w results (typed_targets results) (targets_are results) r s (here s h))

pub settled_block : (w : World) → (results : List PlainType) → (s : FoundSoFar) → (x : BlockTree) → (check_block w (typed_targets results) s x).faults ≡ [] →
    BlockIsTyped w results s.locals x (check_block w (typed_targets results) s x).locals ⊎ BlockIsExcused w results s.locals x
settled_block w results s x h = let q = block_settled w results (typed_targets results) (targets_are results) x s h in q.1

pub function_law : (w : World) → (is_init : Bool) → (s : FoundSoFar) → (f : FuncTree) → (after : Locals) → s.faults ≡ [] →
    FunctionIsTyped w is_init s.locals f after → IsFaultlessWith (check_function w is_init s f) after
function_law w b s f after h r = at (function_true w b s f after h r)

pub settled_function : (w : World) → (is_init : Bool) → (s : FoundSoFar) → (f : FuncTree) → (check_function w is_init s f).faults ≡ [] →
    FunctionIsTyped w is_init s.locals f (check_function w is_init s f).locals ⊎ FunctionIsExcused w s.locals f
settled_function w b s f h = let q = function_settled w b s f h in q.1

pub decl_law : (w : World) → (is_init : ℕ → Bool) → (s : FoundSoFar) → (d : DeclTree) → (after : Locals) → s.faults ≡ [] →
    DeclIsTyped w is_init s.locals d after → IsFaultlessWith (check_decl w is_init s d) after
decl_law w b s d after h r = at (decl_true w b s (here s h) r)

pub settled_decl : (w : World) → (is_init : ℕ → Bool) → (s : FoundSoFar) → (d : DeclTree) → (check_decl w is_init s d).faults ≡ [] →
    DeclIsTyped w is_init s.locals d (check_decl w is_init s d).locals ⊎ DeclIsExcused w s.locals d
settled_decl w b s d h = let q = decl_settled w b s d h in q.1

pub file_law : (w : World) → (is_init : ℕ → Bool) → (f : FileTree) → (FileIsExcused w is_init f → ⊥) →
    ((check_file w is_init f).faults ≡ []) ↔ FileIsTyped w is_init f
file_law w b f n = (λ h. elim (file_settled w b f h) [ inl t ↦ t | inr e ↦ absurd (n e) ], λ t. file_true w b f t)

pub typed_files : (w : World) → (is_init : ℕ → Bool) → (f : FileTree) → FileIsTyped w is_init f ↔ (((check_file w is_init f).faults ≡ []) ×
    (FileIsExcused w is_init f → ⊥))
typed_files w b f = (
  λ t. (file_true w b f t, λ e. file_not w b f t e),
  λ h. elim (file_settled w b f h.0) [ inl t ↦ t | inr e ↦ absurd (h.1 e) ],
)
