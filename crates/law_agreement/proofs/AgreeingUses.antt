-- Judging a file asks for members just at the uses that it finds. So where two worlds have the same members at the uses that both find, the
-- same is found in both.
use Rattle.std.proofs.Common.{ℕ, ◌≡◌, ◌==◌, inl, inr, Bool, true, false, List, [], ◌∷◌, if◌then◌else◌, eqb-true, eq-eqb, refl, sym, ap, subst, ◌∙◌}
use Rattle.std.specs.Prelude.{Contains, ◌&&◌, ◌||◌}
use Rattle.std.proofs.lemmas.Bool.{cases_Bool, true≢false}
use Rattle.base_lemmas.proofs.Elements.{nothing_in, first_in, later_in, first_or_later}
use Rattle.go_ast.specs.Tree.{DeclTree, VarDecl, TypeDecl, FuncDecl, FileTree}
use Rattle.types_expr.specs.declared.symbol.Symbol.{Symbol}
use Rattle.types_expr.specs.Judge.{MemberUse, members_of}
use Rattle.types_expr.proofs.NoteLists.{member_noted}
use Rattle.types_expr.specs.Types.{PlainType, same_type}
use Rattle.types_expr.specs.World.{World}
use Rattle.types_stmt.specs.Declarations.{check_file}
use Rattle.law_typing.proofs.IdenticalTypes.{types_same, same_types}
use Rattle.law_typing.proofs.Tests.{and_first, and_second, and_both}
use Rattle.law_changed_types.specs.MemberUses.{AgreesOnInit}
use Rattle.law_changed_types.proofs.Agreement.{Members, with_members}
use Rattle.law_changed_types.proofs.FileUses.{files_ask}

-- whether one of the uses asks for the name at the token as a member of the type

abbrev is_that : MemberUse → ℕ → PlainType → Bool
is_that u token t = (u.place == token) && same_type u.before t

abbrev is_asked : List MemberUse → ℕ → PlainType → Bool
is_asked [] token t = false
is_asked (u ∷ us) token t = is_that u token t || is_asked us token t

record IsAsked (us : List MemberUse) (token : ℕ) (t : PlainType) : Type 0 where
  asked : MemberUse
  among : Contains us asked
  place : asked.place ≡ token
  before : asked.before ≡ t

asked_by : (us : List MemberUse) (token : ℕ) (t : PlainType) → is_asked us token t ≡ true → IsAsked us token t
asked_by [] token t e = absurd (true≢false (sym e))
asked_by (u ∷ us) token t e = elim (cases_Bool (is_that u token t)) [
  | inl own ↦ record {
    asked = u;
    among = first_in u us;
    place = eqb-true u.place token (and_first (u.place == token) (same_type u.before t) own);
    before = types_same u.before t (and_second (u.place == token) (same_type u.before t) own);
  }
  | inr other ↦
      let later = asked_by us token t (sym (ap (λ b. b || is_asked us token t) other) ∙ e) in
      record { asked = later.asked; among = later_in u us later.asked later.among; place = later.place; before = later.before }
]

or_true : (b : Bool) → (b || true) ≡ true
or_true true = refl
or_true false = refl

asks : (us : List MemberUse) (u : MemberUse) → Contains us u → is_asked us u.place u.before ≡ true
asks [] u h = absurd (nothing_in u h)
asks (x ∷ xs) u h = elim (first_or_later x xs u h) [
  | inl same ↦
      let own : is_that x u.place u.before ≡ true =
      subst (λ (z : MemberUse). is_that z u.place u.before ≡ true) (sym same)
      (and_both (u.place == u.place) (same_type u.before u.before) (eq-eqb u.place u.place refl) (same_types u.before)) in
      ap (λ b. b || is_asked xs u.place u.before) own
  | inr later ↦ ap (λ b. is_that x u.place u.before || b) (asks xs u later) ∙ or_true (is_that x u.place u.before)
]

keeps_itself : (is_init : ℕ → Bool) (d : DeclTree) → AgreesOnInit is_init is_init d
keeps_itself is_init (VarDecl k g s) = tt
keeps_itself is_init (TypeDecl k g s) = tt
keeps_itself is_init (FuncDecl k f s) = λ e. refl

-- The worlds v and w have the same members where both find a use of one name, with one type before it.
abbrev pub AgreeAtCommonUses : World → World → List MemberUse → List MemberUse → Type 0
AgreeAtCommonUses v w a b = (u x : MemberUse) → Contains a u → Contains b x → x.place ≡ u.place → x.before ≡ u.before →
    w.member u.place u.before ≡ v.member u.place u.before

module _ (v w : World) (old new : ℕ → Bool) (f : FileTree) (keeps : (d : DeclTree) → Contains f.decls d → AgreesOnInit old new d)
    (bound : (token : ℕ) → w.bound token ≡ v.bound token) (definition : (s : Symbol) → w.definition s ≡ v.definition s)
    (implements : (t : PlainType) (s : Symbol) → w.implements t s ≡ v.implements t s)
    (agree : AgreeAtCommonUses v w (members_of (check_file v old f).uses) (members_of (check_file w new f).uses)) where
  abbrev uses : List MemberUse
  uses = members_of (check_file w new f).uses

  chosen : Bool → Members
  chosen b token t = if b then w.member token t else v.member token t

  -- the world v with the members of w at the uses that are found in w
  abbrev between : World
  between = with_members v (λ token t. chosen (is_asked uses token t) token t)

  as_new : check_file between new f ≡ check_file w new f
  unfolding chosen
  as_new = files_ask w between new new f (λ d has. keeps_itself new d) (record {
    bound = λ token. sym (bound token);
    definition = λ s. sym (definition s);
    implements = λ t s. sym (implements t s);
    members = λ u has. ap (λ b. chosen b u.place u.before) (asks uses u (member_noted (check_file w new f).uses u has));
  })

  as_old : check_file between new f ≡ check_file v old f
  unfolding chosen
  as_old = files_ask v between old new f keeps (record {
    bound = λ token. refl;
    definition = λ s. refl;
    implements = λ t s. refl;
    members = λ u has. elim (cases_Bool (is_asked uses u.place u.before)) [
      | inl common ↦
          let x = asked_by uses u.place u.before common in
          ap (λ b. chosen b u.place u.before) common ∙ agree u x.asked (member_noted (check_file v old f).uses u has) x.among x.place x.before
      | inr other ↦ ap (λ b. chosen b u.place u.before) other
    ];
  })

  pub same_found : check_file w new f ≡ check_file v old f
  same_found = sym as_new ∙ as_old
