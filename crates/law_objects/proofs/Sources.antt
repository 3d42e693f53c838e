-- Sources with new numbers of tokens, as the lemmas take them: the definitions, functions and fields of the new source are the old ones.
use Rattle.std.proofs.Common.{ℕ, suc, ◌≡◌, ◌==◌, inl, inr, Bool, if◌then◌else◌, List, [], ◌∷◌, Option, Some, None, option_map, map, refl, sym, ap, ◌∙◌}
use Rattle.std.proofs.Math.Path.{ap₂, fun_ext}
use Rattle.std.proofs.lemmas.Bool.{cases_eq, eq-eqb, ne_eqb}
use Rattle.go_ast.specs.declared.syntax.Kind.{Kind}
use Rattle.go_ast.specs.Flatten.{type_tokens}
use Rattle.go_ast.specs.Tree.{TypeTree}
use Rattle.go_ast.specs.Tree as tree
use Rattle.types_expr.specs.declared.symbol.Symbol.{Symbol}
use Rattle.types_expr.specs.Types.{PlainType, Pointer, Slice, Meaning, Value, TypeName, Function, BuiltinName, Package, Results, Broken}
use Rattle.types_expr.specs.World.{Bound, Local, Means, BrokenVariable, BrokenFunction, BrokenType, Member}
use Rattle.types_expr.specs.Judge.{judge_type, named_type, named_meaning, imported_type}
use Rattle.build_object.specs.Lines.{GlobalName, FunctionName}
use Rattle.build_object.specs.Numbering.{slot_from, slot_of}
use Rattle.build_object.specs.Source.{Source}
use Rattle.law_faultless.proofs.DeclaringNames.{AllOf}
use Rattle.law_rename.specs.Renumbered.{type_by}
use Rattle.law_changed_types.specs.Renumbering.{IsRenumbering, renumbered_bound}
use Rattle.law_changed_types.proofs.Renumber.{Renumber}
use Rattle.law_objects.specs.RenumberedSources.{IsSameAt}

-- New numbers, the old source, and what the new source has at tokens.
pub record NewSource : Type 0 where
  pub to : ℕ → ℕ
  pub numbers : IsRenumbering to
  pub old : Source
  pub bound : ℕ → Bound
  pub member : ℕ → PlainType → Option Member
  pub before : ℕ → Option PlainType
  pub entered : ℕ → Option PlainType
  pub entered_still : (n : ℕ) → entered (to n) ≡ old.entered n
  pub global : ℕ → Option GlobalName
  pub asks : ℕ → Option FunctionName
  pub truth : ℕ → Bool
  pub number : ℕ → Option ℕ
  pub text : ℕ → Option (List ℕ)

-- the new source
abbrev pub made : NewSource → Source
made m = record {
  world = record { bound = m.bound; member = m.member; definition = m.old.world.definition; implements = m.old.world.implements };
  before = m.before;
  entered = m.entered;
  global = m.global;
  asks = m.asks;
  truth = m.truth;
  number = m.number;
  text = m.text;
  function = m.old.function;
  position = m.old.position;
  asked = m.old.asked;
}

abbrev pub the_new : (t : ℕ → ℕ) → IsRenumbering t → (s u : Source) → ((n : ℕ) → u.entered (t n) ≡ s.entered n) → NewSource
the_new t n s u still = record {
  to = t;
  numbers = n;
  old = s;
  bound = u.world.bound;
  member = u.world.member;
  before = u.before;
  entered = u.entered;
  entered_still = still;
  global = u.global;
  asks = u.asks;
  truth = u.truth;
  number = u.number;
  text = u.text;
}

pub made_is : (t : ℕ → ℕ) (n : IsRenumbering t) (s u : Source) (still : (n : ℕ) → u.entered (t n) ≡ s.entered n) → ((x : Symbol) →
    u.world.definition x ≡ s.world.definition x) →
    ((y : PlainType) (x : Symbol) → u.world.implements y x ≡ s.world.implements y x) → ((x : Symbol) → u.function x ≡ s.function x) → ((x : Symbol) →
    u.position x ≡ s.position x) → ((x : Symbol) → u.asked x ≡ s.asked x) → made (the_new t n s u still) ≡ u
made_is t n s u still definition implements function position asked = λ i. record {
  world = record {
    bound = u.world.bound;
    member = u.world.member;
    definition = sym (fun_ext definition) i;
    implements = sym (fun_ext (λ y. fun_ext (implements y))) i;
  };
  before = u.before;
  entered = u.entered;
  global = u.global;
  asks = u.asks;
  truth = u.truth;
  number = u.number;
  text = u.text;
  function = sym (fun_ext function) i;
  position = sym (fun_ext position) i;
  asked = sym (fun_ext asked) i;
}

-- the new numbers alone, with worlds in which no name means anything
abbrev pub numbers_alone : NewSource → Renumber
numbers_alone m = record {
  to = m.to;
  numbers = m.numbers;
  old = record { bound = λ n. BrokenType; member = λ n t. None; definition = m.old.world.definition; implements = m.old.world.implements };
  bound = λ n. BrokenType;
  member = λ n t. None;
  binds = λ n. refl;
  has = λ n t. refl;
}

-- two tokens are one just if their new numbers are
pub same_equal : (t : ℕ → ℕ) → ((a b : ℕ) → t a ≡ t b → a ≡ b) → (a b : ℕ) → (t a == t b) ≡ (a == b)
same_equal t apart a b = elim (cases_eq a b) [
  | inl e ↦ eq-eqb (t a) (t b) (ap t e) ∙ sym (eq-eqb a b e)
  | inr other ↦ ne_eqb (t a) (t b) (λ e. other (apart a b e)) ∙ sym (ne_eqb a b other)
]

module _ (m : NewSource) where
  abbrev t : ℕ → ℕ
  t = m.to

  -- what is the same at a token
  abbrev pub Same : Kind → ℕ → Type 0
  Same k n = IsSameAt m.to m.old (made m) n

  -- slots

  pub own_token : (a b : ℕ) → (t a == t b) ≡ (a == b)
  own_token a b = same_equal m.to m.numbers.injective a b

  slot_behind : (n : ℕ) (ps : List ℕ) (place : ℕ) → slot_from n (map t ps) (t place) ≡ slot_from n ps place
  slot_behind n [] place = refl
  slot_behind n (p ∷ ps) place = ap₂ (λ (b : Bool) (z : Option ℕ). if b then Some n else z) (own_token p place) (slot_behind (suc n) ps place)

  pub same_slot : (ps : List ℕ) (place : ℕ) → slot_of (map t ps) (t place) ≡ slot_of ps place
  same_slot ps place = slot_behind 0 ps place

  -- types

  meaning_named : (x : Meaning) (n k : ℕ) → (named_meaning x k).type_of ≡ (named_meaning x n).type_of
  meaning_named (Value k a) n l = refl
  meaning_named (TypeName x) n l = refl
  meaning_named (Function f) n l = refl
  meaning_named (BuiltinName b) n l = refl
  meaning_named Package n l = refl
  meaning_named (Results ts) n l = refl
  meaning_named Broken n l = refl

  type_named : (b : Bound) (n k : ℕ) → (named_type (renumbered_bound t b) k).type_of ≡ (named_type b n).type_of
  unfolding named_type
  type_named (Local p) n k = refl
  type_named (Means x) n k = meaning_named x n k
  type_named BrokenVariable n k = refl
  type_named BrokenFunction n k = refl
  type_named BrokenType n k = refl

  pub type_at : (n : ℕ) → m.bound (t n) ≡ renumbered_bound t (m.old.world.bound n) →
      (named_type (m.bound (t n)) (t n)).type_of ≡ (named_type (m.old.world.bound n) n).type_of
  type_at n e = ap (λ z. (named_type z (t n)).type_of) e ∙ type_named (m.old.world.bound n) n (t n)

  type_imported : (b : Bound) (p q n : ℕ) → m.bound (t n) ≡ renumbered_bound t (m.old.world.bound n) →
      (imported_type (made m).world (renumbered_bound t b) q (t n)).type_of ≡ (imported_type m.old.world b p n).type_of
  unfolding imported_type
  type_imported (Local place) p q n e = refl
  type_imported (Means (Value k a)) p q n e = refl
  type_imported (Means (TypeName x)) p q n e = refl
  type_imported (Means (Function f)) p q n e = refl
  type_imported (Means (BuiltinName b)) p q n e = refl
  type_imported (Means Package) p q n e = type_at n e
  type_imported (Means (Results ts)) p q n e = refl
  type_imported (Means Broken) p q n e = refl
  type_imported BrokenVariable p q n e = refl
  type_imported BrokenFunction p q n e = refl
  type_imported BrokenType p q n e = refl

  pub same_written : (x : TypeTree) → AllOf Same (type_tokens x) → (judge_type (made m).world (type_by t x)).type_of ≡ (judge_type m.old.world x).type_of
  unfolding judge_type type_by type_tokens
  same_written (tree.Local n) h = type_at n h.0.bound
  same_written (tree.Imported p d n) h =
      ap (λ z. (imported_type (made m).world z (t p) (t n)).type_of) h.0.bound ∙ type_imported (m.old.world.bound p) p (t p) n h.1.1.0.bound
  same_written (tree.Pointer p x) h = ap (option_map Pointer) (same_written x h.1)
  same_written (tree.Slice o c x) h = ap (option_map Slice) (same_written x h.1.1)
