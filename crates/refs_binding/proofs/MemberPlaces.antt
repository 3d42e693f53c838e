-- The places of members that are used, added one after the other.
use Rattle.std.proofs.Common.{ℕ, ◌≡◌, ◌+◌, ◌<◌, inl, inr, List, length, ap, sym, subst, refl, ◌∙◌, get_or, arith}
use Rattle.std.proofs.lemmas.Bool.{cases_lt}
use Rattle.std.specs.Prelude.{Option, Some, None, Contains, Result, OnOk, option_map, slice_get, map}
use Rattle.std.specs.Global.{Vec}
use Rattle.std.proofs.lemmas.Option.{none-some, same_Some, slice_get-map, slice_get-get_or, slice_get_within, slice_get_read, get_or_from_slice_get}
use Rattle.base_files.specs.declared.place.Place.{Place}
use Rattle.go_scope.specs.WellFormed.{WellFormed}
use Rattle.types_expr.specs.declared.found.MemberUse.{MemberUse as FoundUse}
use Rattle.types_expr.specs.declared.symbol.Symbol.{Symbol}
use Rattle.types_expr.specs.Found.{use_of}
use Rattle.types_expr.specs.Judge.{MemberUse}
use Rattle.types_expr.specs.World as plain
use Rattle.types_declared.specs.Package.{Package}
use Rattle.types_declared.specs.Definitions.{AreDefinitions}
use Rattle.types_info.specs.MemberUses.{AreMemberUses, uses_in}
use Rattle.types_info.specs.Uniqueness.{HasOneWorld}
use Rattle.types_info.proofs.MeaningLists.{slice_get_some}
use Rattle.refs_binding.specs.declared.declaration.Declaration.{Declaration}
use Rattle.refs_binding.specs.declared.place_key.PlaceKey.{PlaceKey}
use Rattle.refs_binding.specs.Binding.{UsesMemberAt, BindsByMember}
use Rattle.refs_binding.specs.Members.{member_at, IsMemberIf, IsMemberIn, IsMemberUseOf, IsMemberUseAt, IsMemberUseAmong}
use Rattle.refs_binding.specs.Steps.{AddsPlaces, UsesIn, AtToken, IsDeclarationResult}
use Rattle.refs_binding.proofs.Adding.{Below, adds_as, adds_none, call_adds}
use Rattle.refs_binding.proofs.MemberParts.{member_in, member_from, file_uses, has_uses}

pub rank_of : {X : Type 0} (xs : List X) (x : X) → Contains xs x → (k : ℕ) × (slice_get xs k ≡ Some x)
rank_of xs x h = (h.0, slice_get-get_or xs h.0 x h.1 ∙ ap Some h.2)

-- the member use at a token

pub at_token : (ds : Symbol → plain.Definition) (p : Package) (file token : ℕ) (x : MemberUse) → x.place ≡ token → (o : Option Declaration) →
    o ≡ member_at ds p file x.place x.before →
    IsDeclarationResult (IsMemberIf ds p file token x) o
at_token ds p file token x at None e = λ d h. none-some d (e ∙ h.1)
at_token ds p file token x at (Some d) e = (at, sym e)

-- none of the first member uses stands at the token
abbrev pub NoneBelow : (Symbol → plain.Definition) → Package → (file token : ℕ) → List MemberUse → ℕ → Type 0
NoneBelow ds p file token uses k = (i : ℕ) (x : MemberUse) (d : Declaration) → i < k → slice_get uses i ≡ Some x → IsMemberIf ds p file token x d → ⊥

pub none_next : (ds : Symbol → plain.Definition) (p : Package) (file token : ℕ) (uses : List MemberUse) (k : ℕ) (x : MemberUse) →
    slice_get uses k ≡ Some x → ((d : Declaration) → IsMemberIf ds p file token x d → ⊥) →
    NoneBelow ds p file token uses k → NoneBelow ds p file token uses (k + 1)
none_next ds p file token uses k x at none h = λ i y d lt has is. elim (cases_lt i k) [
  | inl below ↦ h i y d below has is
  | inr ge ↦ (
      let same : i ≡ k = omega arith in
      let here : y ≡ x = same_Some y x (sym has ∙ ap (slice_get uses) same ∙ at) in
      none d (subst (λ z. IsMemberIf ds p file token z d) here is))
]

pub none_among : (ds : Symbol → plain.Definition) (p : Package) (file token : ℕ) (uses : List MemberUse) (k : ℕ) → k ≡ length uses →
    NoneBelow ds p file token uses k → (d : Declaration) → IsMemberIn ds p file uses token d → ⊥
none_among ds p file token uses k e h d m =
    let r = rank_of uses m.found m.is_use in
    h r.0 m.found d (subst (λ n. r.0 < n) (sym e) (slice_get_within uses r.0 m.found r.1)) r.1 (m.at, m.is_member)

pub one_among : (ds : Symbol → plain.Definition) (p : Package) (file token : ℕ) (uses : List MemberUse) (k : ℕ) (x : MemberUse) (d : Declaration) →
    slice_get uses k ≡ Some x → IsMemberIf ds p file token x d →
    IsMemberIn ds p file uses token d
one_among ds p file token uses k x d at is = record {
  found = x;
  is_use = (k, slice_get_within uses k x at, get_or_from_slice_get uses k x x at);
  at = is.0;
  is_member = is.1;
}

-- one member use

pub use_added : {E : Type 0} (ds : Symbol → plain.Definition) (p : Package) (file : ℕ) (d : Declaration) (x : MemberUse) (a b : List PlaceKey)
    (r : Result (Unit {0}) E) →
    member_at ds p file x.place x.before ≡ Some d → OnOk r (AddsPlaces a b (AtToken p (record { file = file; index = x.place }))) →
    OnOk r (AddsPlaces a b (IsMemberUseOf ds p file d x))
use_added ds p file d x a b r is h =
    call_adds a b (AtToken p (record { file = file; index = x.place })) (IsMemberUseOf ds p file d x) r (λ place t. record { at = t; is_member = is })
    (λ place m. m.at) h

pub use_skipped : (ds : Symbol → plain.Definition) (p : Package) (file : ℕ) (d : Declaration) (x : MemberUse) (a : List PlaceKey) →
    (member_at ds p file x.place x.before ≡ Some d → ⊥) →
    AddsPlaces a a (IsMemberUseOf ds p file d x)
use_skipped ds p file d x a none = adds_none a (IsMemberUseOf ds p file d x) (λ place m. none m.is_member)

-- the member uses of a file

pub use_at : (xs : List FoundUse) (k : ℕ) (x : FoundUse) → k < length xs → x ≡ get_or xs k x → slice_get (map use_of xs) k ≡ Some (use_of x)
use_at xs k x lt e = slice_get-map use_of xs k ∙ ap (option_map use_of) (slice_get_read xs (length xs) k x refl lt e)

pub one_ranked : (ds : Symbol → plain.Definition) (p : Package) (file : ℕ) (d : Declaration) (uses : List MemberUse) (k : ℕ) (x : MemberUse) (a b : List
    PlaceKey) →
    slice_get uses k ≡ Some x → AddsPlaces a b (IsMemberUseOf ds p file d x) → AddsPlaces a b (IsMemberUseAt ds p file d uses k)
one_ranked ds p file d uses k x a b at h =
    adds_as a b (IsMemberUseOf ds p file d x) (IsMemberUseAt ds p file d uses k)
    (λ place m. record { found = x; has_rank = at; is_use = m })
    (λ place m. subst (λ y. IsMemberUseOf ds p file d y place) (same_Some m.found x (sym m.has_rank ∙ at)) m.is_use) h

pub all_ranked : (ds : Symbol → plain.Definition) (p : Package) (file : ℕ) (d : Declaration) (uses : List MemberUse) (n : ℕ) (a b : List PlaceKey) →
    n ≡ length uses →
    AddsPlaces a b (Below (IsMemberUseAt ds p file d uses) n) → AddsPlaces a b (IsMemberUseAmong ds p file d uses)
all_ranked ds p file d uses n a b e h =
    adds_as a b (Below (IsMemberUseAt ds p file d uses) n) (IsMemberUseAmong ds p file d uses)
    (λ place q. (q.0, q.2))
    (λ place q. (q.0, subst (λ m. q.0 < m) (sym e) (slice_get_within uses q.0 q.1.found q.1.has_rank), q.1)) h

-- the member uses of the file of a rank

pub record IsFileUse (ds : Symbol → plain.Definition) (p : Package) (d : Declaration) (members : List (Vec FoundUse)) (file : ℕ) (place : Place) : Type 0 where
  pub uses : Vec FoundUse
  pub has_rank : slice_get members file ≡ Some uses
  pub is_use : IsMemberUseAmong ds p file d (uses_in uses) place

pub one_file : (ds : Symbol → plain.Definition) (p : Package) (d : Declaration) (members : List (Vec FoundUse)) (file : ℕ) (v : Vec FoundUse)
    (a b : List PlaceKey) →
    slice_get members file ≡ Some v → AddsPlaces a b (IsMemberUseAmong ds p file d (uses_in v)) → AddsPlaces a b (IsFileUse ds p d members file)
one_file ds p d members file v a b at h =
    adds_as a b (IsMemberUseAmong ds p file d (uses_in v)) (IsFileUse ds p d members file)
    (λ place m. record { uses = v; has_rank = at; is_use = m })
    (λ place m. subst (λ y. IsMemberUseAmong ds p file d (uses_in y) place) (same_Some m.uses v (sym m.has_rank ∙ at)) m.is_use) h

-- what is found in all files is what is bound

module _ (p : Package) (formed : WellFormed p.layout) (one : HasOneWorld p) (ds : Symbol → plain.Definition) (are : AreDefinitions p ds)
    (members : List (Vec FoundUse)) (all : AreMemberUses p (map uses_in members))
    (d : Declaration) (place : Place) where
  pub to_bound : (file : ℕ) → IsFileUse ds p d members file place → UsesIn p (λ u. BindsByMember p u d) place
  to_bound file h =
      let x = h.is_use.1 in
      let at = x.is_use.at in
      let in_list : IsMemberIn ds p file (uses_in h.uses) x.found.place d = record {
        found = x.found;
        is_use = (
          h.is_use.0,
          slice_get_within (uses_in h.uses) h.is_use.0 x.found x.has_rank,
          get_or_from_slice_get (uses_in h.uses) h.is_use.0 x.found x.found x.has_rank,
        );
        at = refl;
        is_member = x.is_use.is_member;
      } in
      let member = member_from p formed one ds are file (uses_in h.uses) (file_uses p members all file h.uses h.has_rank) x.found.place d in_list in
      let s = at.1.1 in
      (at.0, (at.1.0, subst (λ f. UsesMemberAt p f (p.layout.place at.0).index d) (sym s.1) (subst (λ t. UsesMemberAt p file t d) (sym s.2) member)))

  pub from_bound : UsesIn p (λ u. BindsByMember p u d) place → (file : ℕ) × ((file < length members) × IsFileUse ds p d members file place)
  from_bound h =
      let u = h.0 in
      let file = (p.layout.place u).file in
      let lt = has_uses p members all file h.1.1.uses h.1.1.judged in
      let v = slice_get_some members file lt in
      let m = member_in p formed one ds are file (uses_in v.0) (file_uses p members all file v.0 v.1) (p.layout.place u).index d h.1.1 in
      let k = rank_of (uses_in v.0) m.found m.is_use in (
        file,
        (
          lt,
          record {
            uses = v.0;
            has_rank = v.1;
            is_use = (
              k.0,
              record {
                found = m.found;
                has_rank = k.1;
                is_use = record { at = (u, (h.1.0, (h.1.0.0.1, refl, sym m.at))); is_member = m.is_member };
              },
            );
          },
        ),
      )

pub all_members : (p : Package) (formed : WellFormed p.layout) (one : HasOneWorld p) (ds : Symbol → plain.Definition) (are : AreDefinitions p ds)
    (members : List (Vec FoundUse)) →
    AreMemberUses p (map uses_in members) → (d : Declaration) (n : ℕ) (a b : List PlaceKey) → n ≡ length members →
    AddsPlaces a b (Below (IsFileUse ds p d members) n) →
    AddsPlaces a b (UsesIn p (λ u. BindsByMember p u d))
all_members p formed one ds are members all d n a b e h =
    adds_as a b (Below (IsFileUse ds p d members) n) (UsesIn p (λ u. BindsByMember p u d))
    (λ place q. to_bound p formed one ds are members all d place q.0 q.2)
    (λ place q. let w = from_bound p formed one ds are members all d place q in (w.0, subst (λ m. w.0 < m) (sym e) w.1.0, w.1.1)) h
