-- The code of a function of a file is balanced where what its file does not tell is settled.
use Rattle.std.proofs.Common.{ℕ, ◌≡◌, Bool, List, length, Option, Some, ap, refl, sym, ◌∙◌, subst}
use Rattle.std.specs.List.{All}
use Rattle.std.proofs.lemmas.List.Elements.{All-head, All-tail}
use Rattle.go_ast.specs.Tree.{FuncTree, DeclTree}
use Rattle.go_ast.specs.Tree as tree
use Rattle.go_ast.specs.SourceFile.{SourceFile, IsSourceFile}
use Rattle.go_ast.specs.WellFormed.{IsDecl, IsFunc}
use Rattle.types_expr.specs.Types.{Typed, Untyped, Nil, Signature, Meaning, Value, TypeName, Function, BuiltinName, Package as PackageName, Results, Broken}
use Rattle.types_expr.specs.World.{World, Locals, Bound, Local, Means, BrokenVariable, BrokenFunction, BrokenType, no_locals}
use Rattle.law_typing.specs.Declarations.{FunctionIsTyped}
use Rattle.types_declared.specs.MeaningOf.{result_types}
use Rattle.types_declared.specs.Package.{Package}
use Rattle.types_info.specs.Worlds.{is_init}
use Rattle.build_object.specs.Lines.{GlobalName, FunctionName, Plain}
use Rattle.build_object.specs.Source.{Source}
use Rattle.build_object.specs.Operands.{plain_function}
use Rattle.build_object.specs.Slots.{slots_of}
use Rattle.build_object.specs.Sources.{IsSourceOf}
use Rattle.build_object.specs.Statements.{body_lines}
use Rattle.law_faultless.specs.Stack.{Arity, IsBalanced}
use Rattle.law_faultless.specs.Questions.{TokenQuestion, OfInteger, OfText, OfName, OfExport, OfMember, OfDeclared, OfLeft}
use Rattle.law_faultless.specs.QuestionAnswers.{IsKnown, IsNamedWith, plain_arity, MeaningIsKnown, NameIsKnown, IsAnswered}
use Rattle.law_faultless.specs.StatementAsking.{FunctionAsks}
use Rattle.law_faultless.proofs.FunctionsBalanced.{function_balanced}
use Rattle.law_faultless.specs.GlobalMeanings.{MeansGlobal}
use Rattle.law_faultless.specs.TypedFunctions.{IsFunctionIn, this_function, later_function}
use Rattle.law_faultless.specs.OpenQuestions.{HasArity, NameIsSettled, OpenIsKnown}
use Rattle.law_faultless.proofs.FunctionsKnown.{member_found}
use Rattle.law_faultless.proofs.GlobalsKnown.{global_known}
use Rattle.law_faultless.proofs.SlotsKnown.{declared_known}
use Rattle.law_faultless.proofs.Literals.{integer_asked, text_asked}

-- a function of the declarations is typed, and as the grammar has it

function_typed : (w : World) (is_init : ℕ → Bool) {before at : Locals} {ds : List DeclTree} {f : FuncTree} → IsFunctionIn w is_init before ds f at →
    (after : Locals) × FunctionIsTyped w (is_init f.name) at f after
function_typed w is_init (this_function {after = after} t) = (after, t)
function_typed w is_init (later_function r more) = function_typed w is_init more

function_formed : (w : World) (is_init : ℕ → Bool) {before at : Locals} {ds : List DeclTree} {f : FuncTree} → IsFunctionIn w is_init before ds f at →
    All IsDecl ds → IsFunc f
function_formed w is_init (this_function {p = p} {c} {f} {ds} t) h = All-head IsDecl (tree.FuncDecl p f c) ds h
function_formed w is_init (later_function {d = d} {ds} r more) h = function_formed w is_init more (All-tail IsDecl d ds h)

-- names

plain_called : (arity : FunctionName → Arity) (f : Signature) (o : Option GlobalName) → IsKnown o →
    ((g : GlobalName) → o ≡ Some g → arity (Plain g) ≡ plain_arity f) → IsNamedWith arity (plain_function o) (plain_arity f)
plain_called arity f o k h = (Plain k.0, (ap plain_function k.1, h k.0 k.1))

meaning_answered : (arity : FunctionName → Arity) (s : Source) (n : ℕ) (m : Meaning) → (MeansGlobal m → IsKnown (s.global n)) → HasArity arity s n m →
    MeaningIsKnown arity s n m
meaning_answered arity s n (Value (Typed t) a) k h = k tt
meaning_answered arity s n (Value (Untyped b) a) k h = tt
meaning_answered arity s n (Value Nil a) k h = tt
meaning_answered arity s n (TypeName t) k h = tt
meaning_answered arity s n (Function f) k h = plain_called arity f (s.global n) (k tt) h
meaning_answered arity s n (BuiltinName b) k h = tt
meaning_answered arity s n PackageName k h = tt
meaning_answered arity s n (Results ts) k h = absurd h
meaning_answered arity s n Broken k h = tt

name_answered : (arity : FunctionName → Arity) (s : Source) (slots : List ℕ) (n : ℕ) (b : Bound) →
    ((m : Meaning) → b ≡ Means m → MeansGlobal m → IsKnown (s.global n)) → NameIsSettled arity s slots n b → NameIsKnown arity s slots n b
name_answered arity s slots n (Local place) k h = h
name_answered arity s slots n (Means m) k h = meaning_answered arity s n m (k m refl) h
name_answered arity s slots n BrokenVariable k h = tt
name_answered arity s slots n BrokenFunction k h = tt
name_answered arity s slots n BrokenType k h = tt

-- all questions

question_answered : (arity : FunctionName → Arity) (p : Package) (files_of : List ℕ → List SourceFile) (file : ℕ) (f : SourceFile) (s : Source) →
    IsSourceOf p files_of file f s → IsSourceFile f → (g : FuncTree) (at : Locals) →
    IsFunctionIn s.world (is_init f) no_locals f.tree.decls g at → (q : TokenQuestion) → FunctionAsks s.world at g q →
    OpenIsKnown arity s (slots_of s.world g) q →
    IsAnswered arity s (slots_of s.world g) q
question_answered arity p files_of file f s is source g at there (OfInteger n) a h = subst (λ z. IsKnown z) (sym (is.number n))
    (integer_asked s.world (is_init f) f g no_locals at n source there a)
question_answered arity p files_of file f s is source g at there (OfText n) a h = text_asked s.world (is_init f) f g no_locals at n (s.text n) source there a
    (is.text n)
question_answered arity p files_of file f s is source g at there (OfName n) a h = name_answered arity s (slots_of s.world g) n (s.world.bound n)
    (global_known p files_of file f s is n) h
question_answered arity p files_of file f s is source g at there (OfExport n) a h =
    (name_answered arity s (slots_of s.world g) n (s.world.bound n) (global_known p files_of file f s is n) h.0, h.1)
question_answered arity p files_of file f s is source g at there (OfMember n t) a h =
    (is.before n ∙ member_found s.world (is_init f) f g at n t source there a, h)
question_answered arity p files_of file f s is source g at there (OfDeclared n) a h = declared_known s.world at g n a
question_answered arity p files_of file f s is source g at there (OfLeft n) a h = h

pub whole_balanced : (arity : FunctionName → Arity) (p : Package) (files_of : List ℕ → List SourceFile) (file : ℕ) (f : SourceFile) (s : Source) →
    IsSourceOf p files_of file f s → IsSourceFile f → (g : FuncTree) (at : Locals) →
    IsFunctionIn s.world (is_init f) no_locals f.tree.decls g at → ((q : TokenQuestion) → FunctionAsks s.world at g q →
    OpenIsKnown arity s (slots_of s.world g) q) →
    IsBalanced arity 0 (body_lines s (slots_of s.world g) (length (result_types g.result)) g.body) 0
whole_balanced arity p files_of file f s is source g at there settled =
    let typed = function_typed s.world (is_init f) there in
    function_balanced arity s (slots_of s.world g) (is_init f g.name) at typed.0 g typed.1
    (function_formed s.world (is_init f) there source.is_tree.well_formed.decls)
    (λ q a. question_answered arity p files_of file f s is source g at there q a (settled q a))
