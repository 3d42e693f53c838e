-- Several imports that get one name at once do to each identifier what the one of its file alone would do.
use Rattle.std.proofs.Common.{ℕ, zero, suc, List, ◌≡◌, ◌<◌, ◌⊎◌, inl, inr, Bool, true, false, cond, refl, sym, ap, subst, ◌∙◌, arith}
use Rattle.std.specs.Prelude.{◌↔◌, ◌==◌, ◌&&◌}
use Rattle.std.proofs.lemmas.Bool.{cases_Bool, true≢false}
use Rattle.std.proofs.lemmas.Bool.Decides.{nat_tests}
use Rattle.go_scope.specs.declared.model.Block.TheVariants.{File}
use Rattle.go_scope.specs.Bindings.{Layout, Names, MayDeclare, IsImport, SameBlock, Counts, IsBoundTo, block_of, use_bound, own}
use Rattle.go_scope.specs.Numbering.{IsLexical, is_lexical}
use Rattle.go_scope.proofs.Innermost.{one_in_block}
use Rattle.go_scope.proofs.Nesting.{Nested}
use Rattle.go_scope.proofs.Nests.{nests}
use Rattle.go_scope.proofs.Uniqueness.{bound_once, same_or_not}
use Rattle.law_rename.specs.Renaming.{AreImportsUsed, HasNoConflict, HasNoConflictAt, HasSameBindings, IsCaptured, IsLost}
use Rattle.law_rename.specs.Renaming.{IsRenaming, WouldAssign, WouldCapture, WouldLose}
use Rattle.law_rename.specs.Renaming.{new_name, own_use, assigned, to_renamed, to_other, repeats, own_repeats}
use Rattle.law_rename.proofs.Captured.{told}
use Rattle.law_rename.proofs.Conflicts.{captures, loses}
use Rattle.law_rename.proofs.Exactness.{exact, exact_at, exact_where_bound, lost_only}
use Rattle.law_rename.proofs.Imports.{imports_kept}
use Rattle.law_moves.specs.OneNewName.{ImportsCapture, ImportsKeepAt, ImportsKeepBindings, ImportsLose, RenamesImports}
use Rattle.law_moves.proofs.NearFiles.{AgreeIn, IsShared, agree_back, bound_file, bound_in, bound_lexical, file_in, import_file, import_holds}
use Rattle.law_moves.proofs.NearFiles.{may_lexical, no_shared_import, level_shared, shared_unbound, use_stands}

-- a search below a number
search : (P : ℕ → Type 0) → ((d : ℕ) → P d ⊎ (P d → ⊥)) → (n : ℕ) → ((d : ℕ) × P d) ⊎ ((d : ℕ) → d < n → P d → ⊥)
search P decide zero = inr (λ d lt p. omega (arith, lt))
search P decide (suc n) = elim (search P decide n) [
  | inl found ↦ inl found
  | inr none ↦ elim (decide n) [
    | inl here ↦ inl (n, here)
    | inr not ↦ inr (λ d lt p. elim (same_or_not d n) [
      | inl e ↦ not (subst P e p)
      | inr other ↦ none d (omega (arith, lt, other)) p
    ])
  ]
]

module _ (l : Layout) (before : Names) (D : ℕ → Type 0) (y : List ℕ) (after : Names) (h : RenamesImports l before D y after) where
  nested : Nested l
  nested = nests l h.well_formed

  -- The names where only the import of one file got the name.
  abbrev one : ℕ → Names
  one f u = cond (is_lexical (l.role u) && (file_in l u == f)) (after u) (before u)

  one_near : (f u : ℕ) → IsLexical l u → file_in l u ≡ f → one f u ≡ after u
  one_near f u lexical at =
      let test : (is_lexical (l.role u) && (file_in l u == f)) ≡ true = by (is_lexical (l.role u)) (file_in l u) lexical at in
      ap (λ b. cond b (after u) (before u)) test
    where
      by : (b : Bool) (n : ℕ) → b ≡ true → n ≡ f → (b && (n == f)) ≡ true
      by b n e same = grind (arith, nat_tests)

  one_far : (f u : ℕ) → (file_in l u ≡ f → ⊥) → one f u ≡ before u
  one_far f u other =
      let test : (is_lexical (l.role u) && (file_in l u == f)) ≡ false = by (is_lexical (l.role u)) (file_in l u) other in
      ap (λ b. cond b (after u) (before u)) test
    where
      by : (b : Bool) (n : ℕ) → (n ≡ f → ⊥) → (b && (n == f)) ≡ false
      by b n other = grind (arith, nat_tests)

  one_other : (f u : ℕ) → (IsLexical l u → ⊥) → one f u ≡ before u
  one_other f u other = by (is_lexical (l.role u)) refl
    where
      by : (b : Bool) → is_lexical (l.role u) ≡ b → one f u ≡ before u
      by true e = absurd (other e)
      by false e = ap (λ b. cond (b && (file_in l u == f)) (after u) (before u)) e

  -- a name that no import gives stays
  stays : (u : ℕ) → IsLexical l u → ((d : ℕ) → D d → file_in l u ≡ file_in l d → ⊥) → after u ≡ before u
  stays u lexical none = h.renaming.kept u lexical (λ d is b. none d is (bound_file l h.well_formed before u d (h.imports d is) b))

  shared_stays : (x : ℕ) → MayDeclare l x → IsLexical l x → IsShared (block_of (l.role x)) → after x ≡ before x
  shared_stays x may lexical shared =
      h.renaming.kept x lexical (λ d is b. shared_unbound l h.well_formed before x d may shared (h.imports d is) b)

  -- one import of each file
  same_import : (d e : ℕ) → D d → D e → file_in l d ≡ file_in l e → d ≡ e
  same_import d e is also at =
      let i = h.imports d is in
      let k = h.imports e also in
      one_in_block l nested before d e (h.all_count d (h.declared d is)) (h.all_count e (h.declared e also)) (h.alike d e is also)
      (i.1 ∙ ap File (sym (import_file l d i) ∙ at ∙ import_file l e k) ∙ sym k.1)

  -- agreement of names

  -- in the file of an import
  one_after : (f : ℕ) → AgreeIn l f (one f) after
  one_after f = record {
    shared = λ x may shared.
        let lexical = may_lexical (l.role x) may in
        elim (same_or_not (file_in l x) f) [
          | inl e ↦ one_near f x lexical e
          | inr other ↦ one_far f x other ∙ sym (shared_stays x may lexical shared)
        ];
    near = λ x lexical e. one_near f x lexical e;
  }

  -- in another file
  before_one : (f g : ℕ) → (f ≡ g → ⊥) → AgreeIn l g before (one f)
  before_one f g apart = record {
    shared = λ x may shared.
        let lexical = may_lexical (l.role x) may in
        elim (same_or_not (file_in l x) f) [
          | inl e ↦ sym (one_near f x lexical e ∙ shared_stays x may lexical shared)
          | inr other ↦ sym (one_far f x other)
        ];
    near = λ x lexical e. sym (one_far f x (λ same. apart (sym same ∙ e)));
  }

  -- in a file without such an import
  before_after : (f : ℕ) → ((d : ℕ) → D d → file_in l d ≡ f → ⊥) → AgreeIn l f before after
  before_after f none = record {
    shared = λ x may shared. sym (shared_stays x may (may_lexical (l.role x) may) shared);
    near = λ x lexical e. sym (stays x lexical (λ d is same. none d is (sym same ∙ e)));
  }

  -- The import of a file, or that it has none.
  abbrev HasImport : ℕ → ℕ → Type 0
  HasImport f d = D d × (file_in l d ≡ f)

  import_in : (f : ℕ) → ((d : ℕ) × HasImport f d) ⊎ ((d : ℕ) → D d → file_in l d ≡ f → ⊥)
  import_in f = elim (search (HasImport f) decide h.size) [
    | inl found ↦ inl found
    | inr none ↦ inr (λ d is e. none d (h.within d is) (is, e))
  ]
    where
      decide : (d : ℕ) → HasImport f d ⊎ (HasImport f d → ⊥)
      decide d = elim (h.decided d) [
        | inr not ↦ inr (λ x. not x.0)
        | inl is ↦ elim (same_or_not (file_in l d) f) [ inl e ↦ inl (is, e) | inr other ↦ inr (λ x. other x.1) ]
      ]

  -- the rename of one import alone
  module _ (d : ℕ) (is : D d) where
    abbrev f : ℕ
    f = file_in l d

    only : (u : ℕ) → file_in l u ≡ f → (IsBoundTo l before u d → ⊥) → (e : ℕ) → D e → IsBoundTo l before u e → ⊥
    only u at none e also b =
        let same : e ≡ d = same_import e d also is (sym (bound_file l h.well_formed before u e (h.imports e also) b) ∙ at) in
        none (subst (IsBoundTo l before u) same b)

    ren : IsRenaming l before d y (one f)
    ren = record {
      renamed = λ u b. one_near f u (bound_lexical l before u d b) (bound_file l h.well_formed before u d (h.imports d is) b) ∙ h.renaming.renamed u d is b;
      kept = λ u none. elim (cases_Bool (is_lexical (l.role u))) [
        | inl lexical ↦ elim (same_or_not (file_in l u) f) [
          | inl at ↦ one_near f u lexical at ∙ h.renaming.kept u lexical (only u at none)
          | inr other ↦ one_far f u other
        ]
        | inr not ↦ one_other f u (λ lexical. true≢false (sym lexical ∙ not))
      ];
    }

    -- what the rename does in other files: nothing
    module _ (u : ℕ) (away : file_in l u ≡ f → ⊥) where
      import : IsImport l d
      import = h.imports d is

      no_assigned : (x c : ℕ) → x ≡ u → WouldAssign l before d y x c → ⊥
      no_assigned x c is_u (to_renamed de ny left same scope) = nested.left_inner x left (import.0, sym same ∙ import.1)
      no_assigned x c is_u (to_other de ny left same scope) = nested.left_inner x left import

      no_capture : (x c : ℕ) → x ≡ u → WouldCapture l before d y x c → ⊥
      no_capture x c is_u (new_name used named b scope precedes) =
          away (ap (file_in l) (sym is_u) ∙ sym (use_stands l h.well_formed before x used) ∙ import_holds l d x import scope)
      no_capture x c is_u (own_use used b e precedes) =
          away (ap (file_in l) (sym is_u) ∙ sym (use_stands l h.well_formed before x used) ∙ import_holds l d x import b.in_scope)
      no_capture x c is_u (assigned a) = no_assigned x c is_u a

      same_file : (e : ℕ) → SameBlock l d e → file_in l e ≡ f
      same_file e same = import_file l e (import.0, sym same ∙ import.1) ∙ sym (import_file l d import)

      no_loss : (x : ℕ) → x ≡ u → WouldLose l before d y x → ⊥
      no_loss x is_u (repeats de ny displaces still) = elim displaces [
        | inl same ↦ away (ap (file_in l) (sym is_u) ∙ same_file x same.0)
        | inr level ↦ no_shared_import l d import (level_shared l d level.0)
      ]
      no_loss x is_u (own_repeats de ny displaces still) = away (ap (file_in l) (sym is_u))

      pub far : HasNoConflictAt l before d y u
      far = record { not_captured = λ c k. no_capture u c refl k; not_lost = λ k. no_loss u refl k }

    -- an identifier of the file
    module _ (u : ℕ) (at : file_in l u ≡ f) where
      to_after : (e : ℕ) → IsBoundTo l (one f) u e → IsBoundTo l after u e
      to_after e b = bound_in l h.well_formed f (one f) after (one_after f) u e at b

      from_after : (e : ℕ) → IsBoundTo l after u e → IsBoundTo l (one f) u e
      from_after e b = bound_in l h.well_formed f after (one f) (agree_back l f (one f) after (one_after f)) u e at b

      exact_here : (e : ℕ) → IsBoundTo l before u e → IsBoundTo l (one f) u e ↔ HasNoConflictAt l before d y u
      exact_here e b = exact_at l nested before (one f) d y h.all_count (h.declared d is) (h.other_name d is) ren u e b

    -- all identifiers
    same_one : HasSameBindings l before after → HasSameBindings l before (one f)
    same_one same u e = elim (same_or_not (file_in l u) f) [
      | inl at ↦ (λ b. from_after u at e ((same u e).0 b), λ b. (same u e).1 (to_after u at e b))
      | inr other ↦
          let g = file_in l u in
          let agree : AgreeIn l g before (one f) = before_one f g (λ e. other (sym e)) in (
            bound_in l h.well_formed g before (one f) agree u e refl,
            bound_in l h.well_formed g (one f) before (agree_back l g before (one f) agree) u e refl,
          )
    ]

    exact_one : HasSameBindings l before (one f) ↔ HasNoConflict l before d y
    exact_one = exact_where_bound l nested before (one f) d y h.all_count (h.declared d is) (h.other_name d is) ren h.uses_bound

    captured_one : (u c : ℕ) → WouldCapture l before d y u c → IsCaptured l before (one f) u c
    captured_one u c k = captures l nested before (one f) d y h.all_count (h.declared d is) (h.other_name d is) ren u c k

    told_one : (u c : ℕ) → IsCaptured l before (one f) u c → WouldCapture l before d y u c
    told_one u c k = told l nested before (one f) d y h.all_count (h.declared d is) (h.other_name d is) ren u c k

    lost_one : (u : ℕ) → WouldLose l before d y u → IsLost l before (one f) u
    lost_one u k = loses l nested before (one f) d y h.all_count (h.declared d is) (h.other_name d is) ren u k

  -- together

  free_by : (u : ℕ) (d : ℕ) → D d → HasNoConflictAt l before d y u → file_in l d ≡ file_in l u → (e : ℕ) → D e → HasNoConflictAt l before e y u
  free_by u d is free at e also = elim (same_or_not (file_in l u) (file_in l e)) [
    | inl same ↦ subst (λ k. HasNoConflictAt l before k y u) (same_import d e is also (at ∙ same)) free
    | inr away ↦ far e also u away
  ]

  none_far : (u : ℕ) → ((d : ℕ) → D d → file_in l d ≡ file_in l u → ⊥) → (e : ℕ) → D e → HasNoConflictAt l before e y u
  none_far u none e also = far e also u (λ at. none e also (sym at))

  -- in a file without such an import all is as it was
  forth : (u : ℕ) → ((d : ℕ) → D d → file_in l d ≡ file_in l u → ⊥) → (e : ℕ) → IsBoundTo l before u e → IsBoundTo l after u e
  forth u none e b = bound_in l h.well_formed (file_in l u) before after (before_after (file_in l u) none) u e refl b

  back : (u : ℕ) → ((d : ℕ) → D d → file_in l d ≡ file_in l u → ⊥) → (e : ℕ) → IsBoundTo l after u e → IsBoundTo l before u e
  back u none e b =
      bound_in l h.well_formed (file_in l u) after before (agree_back l (file_in l u) before after (before_after (file_in l u) none)) u e refl b

  pub keep_at : (u e : ℕ) → IsBoundTo l before u e → IsBoundTo l after u e ↔ ((d : ℕ) → D d → HasNoConflictAt l before d y u)
  keep_at u e b = elim (import_in (file_in l u)) [
    | inl found ↦
        let d = found.0 in
        let is = found.1.0 in
        let at = found.1.1 in (
          (λ now. free_by u d is ((exact_here d is u (sym at) e b).0 (from_after d is u (sym at) e now)) at),
          (λ free. to_after d is u (sym at) e ((exact_here d is u (sym at) e b).1 (free d is))),
        )
    | inr none ↦ ((λ now. none_far u none), (λ free. forth u none e b))
  ]

  pub keep_all : HasSameBindings l before after ↔ ((d : ℕ) → D d → HasNoConflict l before d y)
  keep_all = (
    (λ same d is. (exact_one d is).0 (same_one d is same)),
    (λ free u e. elim (import_in (file_in l u)) [
      | inl found ↦
          let d = found.0 in
          let is = found.1.0 in
          let at = found.1.1 in
          let same : HasSameBindings l before (one (file_in l d)) = (exact_one d is).1 (free d is) in (
            (λ b. to_after d is u (sym at) e ((same u e).0 b)),
            (λ b. (same u e).1 (from_after d is u (sym at) e b)),
          )
      | inr none ↦ (forth u none e, back u none e)
    ]),
  )

  pub caught : (u c : ℕ) → IsCaptured l before after u c → (d : ℕ) × (D d × WouldCapture l before d y u c)
  caught u c k = elim (import_in (file_in l u)) [
    | inl found ↦
        let d = found.0 in
        let is = found.1.0 in
        let at = found.1.1 in
        (d, (is, told_one d is u c (record { old = k.old; was = k.was; other = k.other; now_bound = from_after d is u (sym at) c k.now_bound })))
    | inr none ↦ absurd (k.other (bound_once l nested before u c k.old (back u none c k.now_bound) k.was))
  ]

  pub catches : (u c : ℕ) → (x : (d : ℕ) × (D d × WouldCapture l before d y u c)) → IsCaptured l before after u c
  catches u c x =
      let d = x.0 in
      let is = x.1.0 in
      let k = captured_one d is u c x.1.1 in
      elim (same_or_not (file_in l u) (file_in l d)) [
        | inl at ↦ record { old = k.old; was = k.was; other = k.other; now_bound = to_after d is u at c k.now_bound }
        | inr away ↦ absurd ((far d is u away).not_captured c x.1.1)
      ]

  pub loses_here : (u d : ℕ) → D d → WouldLose l before d y u → IsLost l before after u
  loses_here u d is k =
      let x = lost_one d is u k in
      elim (same_or_not (file_in l u) (file_in l d)) [
        | inl at ↦ record { old = x.old; was = x.was; bound_to_none = λ c b. x.bound_to_none c (from_after d is u at c b) }
        | inr away ↦ absurd ((far d is u away).not_lost k)
      ]

  -- what is lost, one of the renames loses
  pub lost_somehow : (u : ℕ) → IsLost l before after u → ((d : ℕ) → D d → WouldLose l before d y u → ⊥) → ⊥
  lost_somehow u k none = elim (import_in (file_in l u)) [
    | inl found ↦
        let d = found.0 in
        let is = found.1.0 in
        let at = found.1.1 in
        lost_only l nested before (one (file_in l d)) d y h.all_count (h.declared d is) (h.other_name d is) (ren d is) u
        (record { old = k.old; was = k.was; bound_to_none = λ c b. k.bound_to_none c (to_after d is u (sym at) c b) }) (none d is)
    | inr no_import ↦ k.bound_to_none k.old (forth u no_import k.old k.was)
  ]

  -- what captures counted before
  taken_counts : (d u c : ℕ) → D d → WouldCapture l before d y u c → Counts l before c
  taken_counts d u c is k = by_way c k refl
    where
      by_assigned : (x : ℕ) (e : ℕ) → WouldAssign l before d y x e → Counts l before e
      by_assigned x e (to_renamed de ny left same scope) = h.all_count d (h.declared d is)
      by_assigned x e (to_other de ny left same scope) = h.all_count e de

      by_way : (e : ℕ) → WouldCapture l before d y u e → e ≡ c → Counts l before c
      by_way e (new_name used named b scope precedes) same = subst (Counts l before) same (h.all_count d (h.declared d is))
      by_way e (own_use used b x precedes) same = subst (Counts l before) same x.counts
      by_way e (assigned a) same = subst (Counts l before) same (by_assigned u e a)

  -- what an identifier is bound to afterwards counted before
  pub counted_before : (u c n : ℕ) → IsBoundTo l before u n → IsBoundTo l after u c → Counts l before c
  counted_before u c n was now = elim (same_or_not c n) [
    | inl same ↦ subst (Counts l before) (sym same) (bound_counts u n was)
    | inr other ↦
        let x = caught u c (record { old = n; was = was; other = other; now_bound = now }) in
        taken_counts x.0 u c x.1.0 x.1.1
  ]
    where
      bound_counts : (u n : ℕ) → IsBoundTo l before u n → Counts l before n
      bound_counts u n (use_bound used b) = b.counts
      bound_counts u n (own same c) = c

  -- Where no import is unused, the identifiers that are no imports tell of all.
  pub free_of_others : AreImportsUsed l before →
      ((u e : ℕ) → (IsImport l u → ⊥) → IsBoundTo l before u e → (d : ℕ) → D d → HasNoConflictAt l before d y u) → (d : ℕ) → D d →
      HasNoConflict l before d y
  free_of_others used others d is =
      let other_name = h.other_name d is in
      (exact l nested before (one (file_in l d)) d y h.all_count (h.declared d is) other_name (ren d is)).0
      (imports_kept l nested before (one (file_in l d)) d y h.all_count (h.declared d is) other_name (ren d is) used (λ u e no_import b.
      (exact_at l nested before (one (file_in l d)) d y h.all_count (h.declared d is) other_name (ren d is) u e b).1 (others u e no_import b d is)))

pub imports_keep_at : ImportsKeepAt
imports_keep_at l before marks y after h u e b = keep_at l before (λ d. marks d ≡ true) y after h u e b

pub imports_keep : ImportsKeepBindings
imports_keep l before marks y after h = keep_all l before (λ d. marks d ≡ true) y after h

pub imports_capture : ImportsCapture
imports_capture l before marks y after h u c =
    (caught l before (λ d. marks d ≡ true) y after h u c, catches l before (λ d. marks d ≡ true) y after h u c)

pub imports_lose : ImportsLose
imports_lose l before marks y after h u d is k = loses_here l before (λ d. marks d ≡ true) y after h u d is k
