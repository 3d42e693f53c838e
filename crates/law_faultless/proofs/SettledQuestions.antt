-- In a workspace without faults nothing that the code of a function asks for is left open.
use Rattle.std.proofs.Common.{ℕ, ◌≡◌, inl, inr, true, false, Bool, List, [], ◌∷◌, length, ap, sym, subst, refl, ◌∙◌}
use Rattle.std.specs.Prelude.{Some, slice_get}
use Rattle.std.specs.List.{AllByRecursion}
use Rattle.std.proofs.lemmas.Bool.{true≢false}
use Rattle.base_files.specs.Workspace.{Workspace}
use Rattle.go_ast.specs.SourceFile.{SourceFile, IsSourceFile, spelling_of}
use Rattle.go_ast.specs.Tree.{FuncTree, DeclTree, FileTree}
use Rattle.go_ast.specs.Tree as tree
use Rattle.go_scope.specs.declared.model.Role.{Role}
use Rattle.go_scope.specs.declared.model.Role.TheVariants.{Use, Declaring, LeftName, Implied, NotLexical}
use Rattle.go_scope.specs.declared.model.Purpose.TheVariants as purpose
use Rattle.go_scope.specs.Bindings.{is_left_name}
use Rattle.go_scope.specs.FileSites.{func_sites}
use Rattle.go_scope.specs.Named.{is_unnamed_import}
use Rattle.go_scope.specs.Site.{Site, TokenSpellings}
use Rattle.types_expr.specs.World.{World, Locals, Bound, Local, Means, BrokenVariable, BrokenFunction, BrokenType, no_locals}
use Rattle.types_expr.specs.Types.{Typed, Untyped, Nil, Meaning, Value, TypeName, Function, BuiltinName, Results, Broken}
use Rattle.types_expr.specs.Types.{Package as PackageName}
use Rattle.law_typing.specs.Declarations.{DeclIsTyped, variables, types, one_function, DeclsAreTyped, no_decl, also_decl, FileIsTyped, a_file}
use Rattle.types_declared.specs.MeaningOf.{result_types}
use Rattle.types_declared.specs.Package.{Package}
use Rattle.types_info.specs.Worlds.{is_init}
use Rattle.types_info.proofs.DeclKinds.{Holds}
use Rattle.workspace_check.specs.FaultLists.{ListsFaults}
use Rattle.workspace_check.specs.Verdicts.{Verdicts, AreVerdicts}
use Rattle.build_object.specs.Lines.{FunctionName, Plain}
use Rattle.build_object.specs.Operands.{plain_function}
use Rattle.build_object.specs.Slots.{slots_of}
use Rattle.build_object.specs.Source.{Source as CodeSource}
use Rattle.build_object.specs.Sources.{IsSourceOf}
use Rattle.law_faultless.specs.QuestionAnswers.{IsKnown, MeaningIsKnown, NameIsKnown, IsAnswered}
use Rattle.law_faultless.specs.Questions.{TokenQuestion, OfInteger, OfText, OfName, OfExport, OfMember, OfDeclared, OfLeft}
use Rattle.build_object.specs.Statements.{body_lines}
use Rattle.law_faultless.specs.Stack.{Arity, IsBalanced}
use Rattle.law_faultless.specs.StatementAsking.{FunctionAsks}
use Rattle.refs_binding.specs.Uses.{IsCheckedPackage}
use Rattle.law_faultless.specs.TypedFunctions.{IsFunctionIn, this_function, later_function}
use Rattle.law_faultless.specs.OpenQuestions.{NameIsSettled, OpenIsKnown}
use Rattle.law_faultless.proofs.FunctionsKnown.{member_found}
use Rattle.law_faultless.proofs.GlobalsKnown.{global_known}
use Rattle.law_faultless.proofs.Literals.{integer_asked, text_asked}
use Rattle.law_faultless.proofs.SlotsKnown.{declared_known}
use Rattle.law_faultless.proofs.WholeKnown.{whole_balanced}
use Rattle.law_faultless.specs.NameMeanings.{MeansSomething}
use Rattle.law_faultless.proofs.LinksBound.{source_is}
use Rattle.law_faultless.proofs.TypesBound.{Stands, Kept, all_kept}
use Rattle.build_unit.specs.Units.{AreFilesBelow}
use Rattle.law_faultless.proofs.Bound.{file_typed}
use Rattle.law_faultless.proofs.MeaningfulNames.{names_mean}
use Rattle.law_faultless.specs.Arities.{AreArities}
use Rattle.law_faultless.proofs.AskedNames.{StandsIn, IsNamed, IsSelected, IsLeftName, stands_inside, stands_as, stands_held, function_sited}
use Rattle.law_faultless.proofs.FunctionsSettled.{function_kept, no_package, meaning_settled}
use Rattle.law_faultless.proofs.MembersSettled.{members_known}
use Rattle.law_faultless.proofs.OwnLocals.{own_local}
use Rattle.law_faultless.proofs.SlotsSettled.{has_slot}

-- functions among declarations

pub function_held : {w : World} {is_init : ℕ → Bool} {before at : Locals} {ds : List DeclTree} {g : FuncTree} → IsFunctionIn w is_init before ds g at →
    (k : ℕ) × ((c : ℕ) × Holds ds (tree.FuncDecl k g c))
function_held (this_function {p = p} {c} t) = (p, (c, inl refl))
function_held (later_function r more) = let h = function_held more in (h.0, (h.1.0, inr h.1.1))

function_here : {w : World} {is_init : ℕ → Bool} {before inside : Locals} {d : DeclTree} → DeclIsTyped w is_init before d inside → (ds : List DeclTree)
    (k : ℕ) (g : FuncTree) (c : ℕ) → d ≡ tree.FuncDecl k g c → (at : Locals) × IsFunctionIn w is_init before (d ∷ ds) g at
function_here (variables t) ds k g c e = let z : ⊥ = cc in absurd z
function_here (types t) ds k g c e = let z : ⊥ = cc in absurd z
function_here {w} {is_init} {before} (one_function {p = p} {c = o} {f = f} t) ds k g c e =
    let same : f ≡ g = cc in (before, subst (λ z. IsFunctionIn w is_init before (tree.FuncDecl p f o ∷ ds) z before) same (this_function t))

pub function_in : {w : World} {is_init : ℕ → Bool} {before after : Locals} {ds : List DeclTree} → DeclsAreTyped w is_init before ds after →
    (k : ℕ) (g : FuncTree) (c : ℕ) → Holds ds (tree.FuncDecl k g c) → (at : Locals) × IsFunctionIn w is_init before ds g at
function_in no_decl k g c h = absurd h
function_in (also_decl {ds = ds} t more) k g c h = elim h [
  | inl e ↦ function_here t ds k g c e
  | inr r ↦ (let x = function_in more k g c r in (x.0, later_function t x.1))
]

function_of : {w : World} {is_init : ℕ → Bool} {t : FileTree} → FileIsTyped w is_init t → (k : ℕ) (g : FuncTree) (c : ℕ) →
    Holds t.decls (tree.FuncDecl k g c) → (at : Locals) × IsFunctionIn w is_init no_locals t.decls g at
function_of (a_file typed) k g c h = function_in typed k g c h

-- left names of `:=`

left_no_import : (r : Role) → is_left_name r ≡ true → is_unnamed_import r ≡ false
left_no_import (LeftName b start) e = refl
left_no_import (Declaring b start) e = refl
left_no_import (Implied b start) e = refl
left_no_import Use e = refl
left_no_import (NotLexical p) e = absurd (true≢false (sym e))

left_means : (v : World) (s : SourceFile) (n : ℕ) (r : Role) → is_left_name r ≡ true → MeansSomething v s n r → (k : ℕ) × (v.bound n ≡ Local k)
left_means v s n (LeftName b start) e h = h
left_means v s n (Declaring b start) e h = absurd (true≢false (sym e))
left_means v s n (Implied b start) e h = absurd (true≢false (sym e))
left_means v s n Use e h = absurd (true≢false (sym e))
left_means v s n (NotLexical p) e h = absurd (true≢false (sym e))

module _ (w : Workspace) (sound : ListsFaults w []) (known : Verdicts) (right : AreVerdicts w known) (arity : FunctionName → Arity)
    (arities : AreArities w known arity) (p : Package) (is : IsCheckedPackage w known p) (files_of : List ℕ → List SourceFile)
    (below : AreFilesBelow w p.path files_of) (file : ℕ) (f : SourceFile) (at : slice_get p.files file ≡ Some f) (s : CodeSource)
    (source : IsSourceOf p files_of file f s) (k : ℕ) (g : FuncTree) (c : ℕ) (held : Holds f.tree.decls (tree.FuncDecl k g c)) where
  abbrev code : TokenSpellings
  code = record { rank = file; spell = spelling_of f }

  abbrev sites : List Site
  sites = func_sites code g

  abbrev slots : List ℕ
  slots = slots_of s.world g

  kept_here : AllByRecursion (Kept p file) sites
  kept_here = function_kept (Kept p file) code f.tree k g c (all_kept w known p.path p is.is_checked file f at) held

  local_settled : (n : ℕ) → StandsIn (IsNamed n) sites → (place : ℕ) → s.world.bound n ≡ Local place → Holds slots place
  local_settled n there place e =
      own_local w known p.path p is.is_checked file f at s.world source.world k g c held n (λ a b lies. stands_inside n a b sites there lies) place e

  name_settled : (n : ℕ) → StandsIn (IsNamed n) sites → (b : Bound) → s.world.bound n ≡ b → NameIsSettled arity s slots n b
  name_settled n there (Local place) e = has_slot place slots (local_settled n there place e)
  name_settled n there (Means m) e = meaning_settled w sound known right arity arities p is file f at n files_of s source m e
  name_settled n there BrokenVariable e = tt
  name_settled n there BrokenFunction e = tt
  name_settled n there BrokenType e = tt

  -- the name of another package's
  selected_stands : (n : ℕ) → StandsIn (IsSelected n) sites → Stands p file n (NotLexical purpose.Selected)
  selected_stands n there =
      stands_held (IsSelected n) (Kept p file) (Stands p file n (NotLexical purpose.Selected))
      (λ x e kept. subst (λ i. Stands p file i (NotLexical purpose.Selected)) e.0
      (subst (λ r. Stands p file x.place.index r) e.1 (kept (ap is_unnamed_import e.1)))) sites there kept_here

  -- a left name of `:=` is a local
  left_local : (n : ℕ) → StandsIn (IsLeftName n) sites → (place : ℕ) × (s.world.bound n ≡ Local place)
  left_local n there =
      stands_held (IsLeftName n) (Kept p file) ((place : ℕ) × (s.world.bound n ≡ Local place)) (λ x e kept.
      let u = kept (left_no_import x.role e.1) in
      let mean = names_mean w sound known right p is file f at s.world source.world u.0 x.place.index u.1.0 u.1.1.0 in
      let l = left_means s.world f x.place.index (p.layout.role u.0) (ap is_left_name u.1.1.1 ∙ e.1) mean in
      subst (λ i. (place : ℕ) × (s.world.bound i ≡ Local place)) e.0 l) sites there kept_here

  pub question_settled : (before : Locals) (q : TokenQuestion) → FunctionAsks s.world before g q → OpenIsKnown arity s slots q
  question_settled before (OfInteger n) a = tt
  question_settled before (OfText n) a = tt
  question_settled before (OfName n) a = name_settled n (function_sited s.world code a) (s.world.bound n) refl
  question_settled before (OfExport n) a =
      let there = function_sited s.world code a in (
        name_settled n (stands_as (IsSelected n) (IsNamed n) (λ x e. e.0) sites there) (s.world.bound n) refl,
        no_package w sound known right arity arities p is file n (selected_stands n there) (s.world.bound n) (source.world.names n),
      )
  question_settled before (OfMember n t) a = members_known w sound known right arity arities p is files_of below file f s source n t
  question_settled before (OfDeclared n) a = tt
  question_settled before (OfLeft n) a =
      let there = function_sited s.world code a in
      let l = left_local n there in
      let own = local_settled n (stands_as (IsLeftName n) (IsNamed n) (λ x e. e.0) sites there) l.0 l.1 in
      (l.0, (l.1, has_slot l.0 slots own))

  -- so its code is balanced
  pub function_settled : IsBalanced arity 0 (body_lines s slots (length (result_types g.result)) g.body) 0
  function_settled =
      let typed = file_typed w sound known right p is file f at s.world source.world in
      let there = function_of typed k g c held in
      whole_balanced arity p files_of file f s source (source_is w known p.path p is.is_checked file f at) g there.0 there.1
      (λ q a. question_settled there.0 q a)

  -- and nothing that it asks for is unknown

  meaning_known : (n : ℕ) (m : Meaning) → s.world.bound n ≡ Means m → MeaningIsKnown arity s n m
  meaning_known n (Value (Typed t) a) e = global_known p files_of file f s source n (Value (Typed t) a) e tt
  meaning_known n (Value (Untyped b) a) e = tt
  meaning_known n (Value Nil a) e = tt
  meaning_known n (TypeName t) e = tt
  meaning_known n (Function signature) e =
      let called = global_known p files_of file f s source n (Function signature) e tt in (
        Plain called.0,
        (
          ap plain_function called.1,
          meaning_settled w sound known right arity arities p is file f at n files_of s source (Function signature) e called.0 called.1,
        ),
      )
  meaning_known n (BuiltinName b) e = tt
  meaning_known n PackageName e = tt
  meaning_known n (Results ts) e =
      absurd (meaning_settled w sound known right arity arities p is file f at n files_of s source (Results ts) e)
  meaning_known n Broken e = tt

  name_known : (n : ℕ) → StandsIn (IsNamed n) sites → (b : Bound) → s.world.bound n ≡ b → NameIsKnown arity s slots n b
  name_known n there (Local place) e = has_slot place slots (local_settled n there place e)
  name_known n there (Means m) e = meaning_known n m e
  name_known n there BrokenVariable e = tt
  name_known n there BrokenFunction e = tt
  name_known n there BrokenType e = tt

  abbrev is_source : IsSourceFile f
  is_source = source_is w known p.path p is.is_checked file f at

  pub question_known : (before : Locals) → IsFunctionIn s.world (is_init f) no_locals f.tree.decls g before → (q : TokenQuestion) →
      FunctionAsks s.world before g q → IsAnswered arity s slots q
  question_known before here (OfInteger n) a =
      subst (λ z. IsKnown z) (sym (source.number n)) (integer_asked s.world (is_init f) f g no_locals before n is_source here a)
  question_known before here (OfText n) a = text_asked s.world (is_init f) f g no_locals before n (s.text n) is_source here a (source.text n)
  question_known before here (OfName n) a = name_known n (function_sited s.world code a) (s.world.bound n) refl
  question_known before here (OfExport n) a = (
    name_known n (stands_as (IsSelected n) (IsNamed n) (λ x e. e.0) sites (function_sited s.world code a)) (s.world.bound n) refl,
    (question_settled before (OfExport n) a).1,
  )
  question_known before here (OfMember n t) a =
      (source.before n ∙ member_found s.world (is_init f) f g before n t is_source here a, question_settled before (OfMember n t) a)
  question_known before here (OfDeclared n) a = declared_known s.world before g n a
  question_known before here (OfLeft n) a = question_settled before (OfLeft n) a
