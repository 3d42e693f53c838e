-- Lists of positions under paths, when a list or a position is added.
use Rattle.std.proofs.Common.{ℕ, ◌≡◌, ◌+◌, ◌<◌, ◌⊎◌, inl, inr, List, [], ◌∷◌, ◌++◌, length, get_or, ap, sym, subst, refl, ◌∙◌, arith}
use Rattle.std.proofs.Math.Seq.{get_or-append_seam}
use Rattle.std.specs.Prelude.{Option, Some, None, Contains, slice_get, option_map}
use Rattle.std.specs.Global.{Vec}
use Rattle.std.proofs.lemmas.Bool.{cases_lt, cases_eq}
use Rattle.std.proofs.lemmas.List.{length_push, get_or_append_left, get_or_past}
use Rattle.std.proofs.lemmas.List.Elements.{Contains-append_left, Contains-push, Contains-push_cases}
use Rattle.std.proofs.lemmas.Option.{none-some, same_Some, slice_get_within}
use Rattle.go_scope.specs.declared.model.Position.{Position}
use Rattle.types_declared.proofs.DeclaredPaths.{get_before, get_last}
use Rattle.types_info.specs.declared.lists.Qualified.{Qualified}
use Rattle.types_info.specs.declared.lists.Lists.{Lists}
use Rattle.types_info.specs.Lists.{list_path, IsListedUnder, listed_path, AreWithin, AddsList, AddsDeclaration, AddsPlace, AddsUnder}

-- an index in a list of indexes after one more was pushed
number_cases : (xs : List (Option ℕ)) (x : Option ℕ) (d k : ℕ) → get_or (xs ++ (x ∷ [])) d None ≡ Some k →
    ((d < length xs) × (get_or xs d None ≡ Some k)) ⊎ (x ≡ Some k)
number_cases xs x d k e = elim (cases_lt d (length xs)) [
  | inl lt ↦ inl (lt, sym (get_or_append_left xs (x ∷ []) None d lt) ∙ e)
  | inr ge ↦ elim (cases_lt (length xs) d) [
    | inl past ↦
        let size : length (xs ++ (x ∷ [])) ≡ length xs + 1 = length_push xs x in
        absurd (none-some k (sym (get_or_past (xs ++ (x ∷ [])) d None (omega arith)) ∙ e))
    | inr le ↦
        let here : d ≡ length xs = omega arith in
        inr (sym (get_or-append_seam xs x [] None) ∙ ap (λ n. get_or (xs ++ (x ∷ [])) n None) (sym here) ∙ e)
  ]
]

path_kept : (old new : List Qualified) (x : Qualified) (o : Option ℕ) → new ≡ old ++ (x ∷ []) → ((k : ℕ) → o ≡ Some k → k < length old) →
    listed_path new o ≡ listed_path old o
path_kept old new x None e within = refl
path_kept old new x (Some k) e within = ap (option_map list_path) (ap (λ l. slice_get l k) e ∙ get_before old x k (within k refl))

-- an added list has no position
listed_before : (old new : List Qualified) (path : List ℕ) → AddsList old new path → (p : List ℕ) (at : Position) → IsListedUnder new p at →
    IsListedUnder old p at
listed_before old new path adds p at h =
    let is = h.1 in
    let has : slice_get (old ++ (adds.list ∷ [])) h.0 ≡ Some is.list = ap (λ l. slice_get l h.0) (sym adds.new_is) ∙ is.has_number in
    elim (cases_lt h.0 (length old)) [
      | inl lt ↦ (
        h.0,
        record {
          list = is.list;
          has_number = sym (get_before old adds.list h.0 lt) ∙ has;
          of_path = is.of_path;
          holds = is.holds;
        },
      )
      | inr ge ↦
          let size : length (old ++ (adds.list ∷ [])) ≡ length old + 1 = length_push old adds.list in
          let within : h.0 < length (old ++ (adds.list ∷ [])) = slice_get_within (old ++ (adds.list ∷ [])) h.0 is.list has in
          let here : h.0 ≡ length old = omega arith in
          let same : adds.list ≡ is.list =
          same_Some adds.list is.list (sym (get_last old adds.list) ∙ ap (slice_get (old ++ (adds.list ∷ []))) (sym here) ∙ has) in
          let none : is.list.places.items ≡ [] = ap (λ (q : Qualified). q.places.items) (sym same) ∙ adds.empty in
          let lt : is.holds.0 < length is.list.places.items = is.holds.1 in
          let empty : length is.list.places.items ≡ 0 = ap length none in absurd (omega arith)
    ]

-- a declaration with a path was added
pub added_list : (old : Lists) (all : Vec Qualified) (numbers : Vec (Option ℕ)) (path : List ℕ) (k : ℕ) → AreWithin old → k ≡ length old.all.items →
    AddsList old.all.items all.items path → numbers.items ≡ old.numbers.items ++ (Some k ∷ []) →
    AddsDeclaration old (record { all = all; numbers = numbers }) (Some path)
added_list old all numbers path k within at adds pushed =
    let size : length all.items ≡ length old.all.items + 1 = ap length adds.new_is ∙ length_push old.all.items adds.list in
    let xs = old.numbers.items in
    record {
      within = λ d j e. elim (number_cases xs (Some k) d j (ap (λ l. get_or l d None) (sym pushed) ∙ e)) [
        | inl earlier ↦ let lt : j < length old.all.items = within d j earlier.1 in omega arith
        | inr here ↦ let same : k ≡ j = same_Some k j here in omega arith
      ];
      size = ap length pushed ∙ length_push xs (Some k);
      here = ap (listed_path all.items) (ap (λ l. get_or l (length xs) None) pushed ∙ get_or-append_seam xs (Some k) [] None) ∙
          ap (option_map list_path) (ap (slice_get all.items) at ∙ ap (λ l. slice_get l (length old.all.items)) adds.new_is ∙
          get_last old.all.items adds.list) ∙
          ap Some adds.of_path;
      kept = λ d lt.
          ap (listed_path all.items) (ap (λ l. get_or l d None) pushed ∙ get_or_append_left xs (Some k ∷ []) None d lt) ∙
          path_kept old.all.items all.items adds.list (get_or xs d None) adds.new_is (within d);
      listed = listed_before old.all.items all.items path adds;
    }

-- a position was added to a list
pub added_place : (old new : List Qualified) (k : ℕ) (at : Position) → AddsPlace old new k at → AddsUnder old new (listed_path old (Some k)) at
added_place old new k at adds path x = (to, from)
  where
    its_path : listed_path old (Some k) ≡ Some (list_path adds.before)
    its_path = ap (option_map list_path) adds.was

    to : IsListedUnder new path x → IsListedUnder old path x ⊎ ((listed_path old (Some k) ≡ Some path) × (at ≡ x))
    to h = elim (cases_eq h.0 k) [
      | inl here ↦
          let is = h.1 in
          let same : adds.after ≡ is.list = same_Some adds.after is.list (sym adds.is ∙ ap (slice_get new) (sym here) ∙ is.has_number) in
          let of : list_path adds.before ≡ path = sym adds.same_path ∙ ap list_path same ∙ is.of_path in
          elim (Contains-push_cases adds.before.places.items at x
          (subst (λ l. Contains l x) (ap (λ (q : Qualified). q.places.items) (sym same) ∙ adds.places) is.holds)) [
            | inl earlier ↦ inl (k, record { list = adds.before; has_number = adds.was; of_path = of; holds = earlier })
            | inr last ↦ inr (its_path ∙ ap Some of, last)
          ]
      | inr apart ↦
          let is = h.1 in
          inl (h.0, record { list = is.list; has_number = sym (adds.elsewhere h.0 apart) ∙ is.has_number; of_path = is.of_path; holds = is.holds })
    ]

    earlier : IsListedUnder old path x → IsListedUnder new path x
    earlier h = elim (cases_eq h.0 k) [
      | inl here ↦
          let is = h.1 in
          let same : adds.before ≡ is.list = same_Some adds.before is.list (sym adds.was ∙ ap (slice_get old) (sym here) ∙ is.has_number) in (
            k,
            record {
              list = adds.after;
              has_number = adds.is;
              of_path = adds.same_path ∙ ap list_path same ∙ is.of_path;
              holds = subst (λ l. Contains l x) (sym adds.places) (Contains-append_left adds.before.places.items (at ∷ []) x
                  (subst (λ (q : Qualified). Contains q.places.items x) (sym same) is.holds));
            },
          )
      | inr apart ↦
          let is = h.1 in
          (h.0, record { list = is.list; has_number = adds.elsewhere h.0 apart ∙ is.has_number; of_path = is.of_path; holds = is.holds })
    ]

    from : IsListedUnder old path x ⊎ ((listed_path old (Some k) ≡ Some path) × (at ≡ x)) → IsListedUnder new path x
    from h = elim h [
      | inl old ↦ earlier old
      | inr last ↦ (
        k,
        record {
          list = adds.after;
          has_number = adds.is;
          of_path = adds.same_path ∙ same_Some (list_path adds.before) path (sym its_path ∙ last.0);
          holds = subst (λ l. Contains l x) (sym adds.places) (subst (Contains (adds.before.places.items ++ (at ∷ []))) last.1
              (Contains-push adds.before.places.items at));
        },
      )
    ]
