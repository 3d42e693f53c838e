-- The program looks at each name under which an interface writes something, and so decides whether a type implements it.
use Rattle.std.proofs.Common.{ℕ, ◌≡◌, ◌⊎◌, inl, inr, Bool, true, false, ◌&&◌, List, [], ◌∷◌, map, ap, sym, refl, ◌∙◌}
use Rattle.std.specs.Prelude.{Option, Some, None, option_map, ◌↔◌}
use Rattle.std.specs.Global.{Vec}
use Rattle.std.specs.List.{list_all}
use Rattle.std.specs.Map.{lookup}
use Rattle.std.specs.BTreeMap.{is_at}
use Rattle.std.specs.Cmp.Lexicographic.{slice_cmp}
use Rattle.std.specs.Ordering.{nat_cmp}
use Rattle.std.proofs.lemmas.Bool.{cases_Bool, true≢false, and_from}
use Rattle.std.proofs.lemmas.Map.Entries.{lookup_tail}
use Rattle.types_expr.specs.declared.symbol.Symbol.{Symbol}
use Rattle.types_expr.specs.declared.world.World.{World}
use Rattle.types_expr.specs.declared.world.Field.{Field}
use Rattle.types_expr.specs.declared.world.Definition.{Definition}
use Rattle.types_expr.specs.Types.{PlainType, is_interface}
use Rattle.types_expr.specs.World.{Implements, in_method_set, has_if_asked, implements_by}
use Rattle.types_expr.specs.World as plain
use Rattle.types_expr.specs.WorldView.{field_of, definition_at, definition_in, definition_or_none, names_written, implements_in}
use Rattle.types_declared.proofs.ByteKeys.{same_bytes}
use Rattle.types_info.proofs.DeclKinds.{Holds}

both_hold : (a b : Bool) → (a && b) ≡ true → (a ≡ true) × (b ≡ true)
both_hold true b e = (refl, e)
both_hold false b e = absurd (true≢false (sym e))

all_hold : (test : List ℕ → Bool) (names : List (List ℕ)) → ((name : List ℕ) → test name ≡ true) → list_all test names ≡ true
all_hold test [] h = refl
all_hold test (x ∷ xs) h = and_from (test x) (list_all test xs) (h x) (all_hold test xs h)

one_holds : (test : List ℕ → Bool) (names : List (List ℕ)) → list_all test names ≡ true → (name : List ℕ) → Holds names name → test name ≡ true
one_holds test [] e name h = absurd h
one_holds test (x ∷ xs) e name h =
    let both = both_hold (test x) (list_all test xs) e in
    elim h [ inl here ↦ ap test (sym here) ∙ both.0 | inr later ↦ one_holds test xs both.1 name later ]

-- Names under which the definition writes all its members.
abbrev pub CoverMembers : plain.Definition → List (List ℕ) → Type 0
CoverMembers d names = (name : List ℕ) → (d.field name ≡ None) ⊎ Holds names name

module _ (ds : Symbol → plain.Definition) (names : List (List ℕ)) (t : PlainType) (s : Symbol) (cover : CoverMembers (ds s) names) where
  -- what a type has to have under the name
  abbrev asks : List ℕ → Bool
  asks name = has_if_asked ((ds s).field name) (in_method_set ds t name)

  each_asked : list_all asks names ≡ true → (name : List ℕ) → asks name ≡ true
  each_asked e name = elim (cover name) [
    | inl none ↦ ap (λ f. has_if_asked f (in_method_set ds t name)) none
    | inr among ↦ one_holds asks names e name among
  ]

  -- So it is enough to look at these names.
  pub decided_by : (implements_by ds names t s ≡ true) ↔ Implements ds t s
  unfolding implements_by
  decided_by = (
    λ e.
        let both = both_hold (is_interface (ds s).underlying) (list_all asks names) e in
        record { writes_one = both.0; has = each_asked both.1 },
    λ h. and_from (is_interface (ds s).underlying) (list_all asks names) h.writes_one (all_hold asks names h.has),
  )

-- what is written under a name, by the entries of a map
abbrev written_in : List (Vec ℕ × Field) → List ℕ → Option plain.Field
written_in es name = option_map field_of (lookup (is_at (λ key. slice_cmp nat_cmp name key.items)) es)

abbrev names_in : List (Vec ℕ × Field) → List (List ℕ)
names_in es = map (λ e. e.0.items) es

none_or_named : (name : List ℕ) (es : List (Vec ℕ × Field)) → (written_in es name ≡ None) ⊎ Holds (names_in es) name
none_or_named name [] = inl refl
none_or_named name (x ∷ xs) = elim (cases_Bool (is_at (λ (key : Vec ℕ). slice_cmp nat_cmp name key.items) x.0)) [
  | inl here ↦ inr (inl (sym (same_bytes name x.0.items here)))
  | inr there ↦ elim (none_or_named name xs) [
    | inl none ↦ inl (ap (option_map field_of) (lookup_tail (is_at (λ (key : Vec ℕ). slice_cmp nat_cmp name key.items)) x xs there) ∙ none)
    | inr among ↦ inr (inr among)
  ]
]

pub cover : (s : Symbol) (o : Option Definition) → CoverMembers (definition_or_none s o) (names_written o)
cover s None name = inl refl
cover s (Some d) name = none_or_named name d.fields.entries

pub implementing_decided : (w : World) (t : PlainType) (s : Symbol) → (implements_in w t s ≡ true) ↔ Implements (definition_in w) t s
unfolding implements_in definition_in
implementing_decided w t s = decided_by (definition_in w) (names_written (definition_at w s)) t s (cover s (definition_at w s))
