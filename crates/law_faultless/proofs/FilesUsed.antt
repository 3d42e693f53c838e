-- The same of files: each member that they ask for is one of their uses.
use Rattle.std.proofs.Common.{ℕ, suc, ◌≡◌, ◌<◌, ◌==◌, Bool, true, false, if◌then◌else◌, List, [], ◌∷◌, length, Some, ap, refl, sym, subst, ◌∙◌, arith}
use Rattle.std.specs.Prelude.{Contains}
use Rattle.std.specs.List.{flat_map, AllByRecursion}
use Rattle.std.proofs.lemmas.Bool.{eqb-true}
use Rattle.std.proofs.lemmas.Option.{none-some, same_Some}
use Rattle.go_ast.specs.SourceFile.{SourceFile, IsSourceFile}
use Rattle.go_ast.specs.Tree.{FuncTree, DeclTree}
use Rattle.go_ast.specs.Tree as tree
use Rattle.go_scope.specs.Site.{Site, TokenSpellings}
use Rattle.go_scope.specs.FileSites.{imports_sites, decl_sites, file_sites}
use Rattle.types_expr.specs.Types.{PlainType}
use Rattle.types_expr.specs.World.{World, Locals, no_locals}
use Rattle.types_expr.specs.Judge.{MemberUse, members_of}
use Rattle.types_stmt.specs.Declarations.{check_file}
use Rattle.law_typing.specs.Declarations.{FunctionIsTyped, DeclsAreTyped, no_decl, also_decl, FileIsTyped, a_file}
use Rattle.build_object.specs.Sources.{type_before}
use Rattle.law_faultless.specs.StatementAsking.{FunctionAsks}
use Rattle.law_faultless.specs.TypedFunctions.{IsFunctionIn, this_function, later_function}
use Rattle.law_faultless.proofs.FunctionsKnown.{member_found}
use Rattle.law_faultless.specs.MemberLinks.{IsUsedMember, IsLinked}
use Rattle.law_faultless.proofs.ExpressionsUsed.{AreLinked, linked_append, Tells}
use Rattle.law_faultless.proofs.DeclarationsUsed.{decl_links, imports_links}

-- the use that a type is found before

record Found (n : ℕ) (t : PlainType) (us : List MemberUse) : Type 0 where
  element : MemberUse
  contained : Contains us element
  place : element.place ≡ n
  before : element.before ≡ t

found_later : (n : ℕ) (t : PlainType) (u : MemberUse) (us : List MemberUse) → Found n t us → Found n t (u ∷ us)
found_later n t u us x = record {
  element = x.element;
  contained = (suc x.contained.0, (let lt : x.contained.0 < length us = x.contained.1 in omega arith), x.contained.2);
  place = x.place;
  before = x.before;
}

found_if : (n : ℕ) (t : PlainType) (u : MemberUse) (us : List MemberUse) (b : Bool) → (u.place == n) ≡ b →
    (if b then Some u.before else type_before us n) ≡ Some t → (type_before us n ≡ Some t → Found n t us) → Found n t (u ∷ us)
found_if n t u us true e h later =
    record { element = u; contained = (0, omega arith, refl); place = eqb-true u.place n e; before = same_Some u.before t h }
found_if n t u us false e h later = found_later n t u us (later h)

found_in : (n : ℕ) (t : PlainType) (us : List MemberUse) → type_before us n ≡ Some t → Found n t us
found_in n t [] h = absurd (none-some t h)
found_in n t (u ∷ us) h = found_if n t u us (u.place == n) refl h (λ k. found_in n t us k)

-- declarations in turn

abbrev AskedIn : (w : World) → (is_init : ℕ → Bool) → (ℕ → Type 0) → Locals → List DeclTree → Type 0
AskedIn w is_init U before ds = (f : FuncTree) (at : Locals) → IsFunctionIn w is_init before ds f at → Tells w U (FunctionAsks w at f)

function_of : (w : World) (is_init : ℕ → Bool) (U : ℕ → Type 0) {before after : Locals} (d : DeclTree) (ds : List DeclTree) →
    AskedIn w is_init U before (d ∷ ds) → (p c : ℕ) (f : FuncTree) → d ≡ tree.FuncDecl p f c → FunctionIsTyped w (is_init f.name) before f after →
    Tells w U (FunctionAsks w before f)
function_of w is_init U {before} d ds g p c f e h =
    g f before (subst (λ z. IsFunctionIn w is_init before (z ∷ ds) f before) (sym e) (this_function h))

decls_links : (w : World) (is_init : ℕ → Bool) (U : ℕ → Type 0) (s : TokenSpellings) {before after : Locals} {ds : List DeclTree} →
    AskedIn w is_init U before ds → DeclsAreTyped w is_init before ds after → AreLinked w U (flat_map (decl_sites s) ds)
decls_links w is_init U s g no_decl = tt
decls_links w is_init U s g (also_decl {d} {ds} h more) =
    linked_append w U (decl_sites s d) (flat_map (decl_sites s) ds) (decl_links w is_init U s (function_of w is_init U d ds g) h)
    (decls_links w is_init U s (λ f at i. g f at (later_function h i)) more)

file_links : (w : World) (f : SourceFile) (is_init : ℕ → Bool) (U : ℕ → Type 0) (s : TokenSpellings) → AskedIn w is_init U no_locals f.tree.decls →
    FileIsTyped w is_init f.tree → AreLinked w U (file_sites s f.tree)
unfolding file_sites
file_links w f is_init U s g (a_file h) = (
  tt,
  linked_append w U (flat_map (imports_sites s) f.tree.imports) (flat_map (decl_sites s) f.tree.decls)
      (imports_links w U s f.tree.imports) (decls_links w is_init U s g h),
)

used_member : (w : World) (is_init : ℕ → Bool) (f : SourceFile) → IsSourceFile f →
    AskedIn w is_init (IsUsedMember w (members_of (check_file w is_init f.tree).uses)) no_locals f.tree.decls
used_member w is_init f is g at there n t m a e =
    let x = found_in n t (members_of (check_file w is_init f.tree).uses) (member_found w is_init f g at n t is there a) in
    record { found = x.element; is_use = x.contained; at = x.place; member = m; is_member = ap (λ z. w.member n z) x.before ∙ e }

all_of : (w : World) (U : ℕ → Type 0) (xs : List Site) → AreLinked w U xs → AllByRecursion (λ x. IsLinked w U x.place.index x.role) xs
all_of w U [] h = tt
all_of w U (x ∷ xs) h = (h.0, all_of w U xs h.1)

pub all_linked : (w : World) (is_init : ℕ → Bool) (f : SourceFile) → IsSourceFile f → FileIsTyped w is_init f.tree → (s : TokenSpellings) →
    AllByRecursion (λ x. IsLinked w (IsUsedMember w (members_of (check_file w is_init f.tree).uses)) x.place.index x.role) (file_sites s f.tree)
all_linked w is_init f is typed s =
    let U = IsUsedMember w (members_of (check_file w is_init f.tree).uses) in
    all_of w U (file_sites s f.tree) (file_links w f is_init U s (used_member w is_init f is) typed)
