-- Members in a list, each with its type definition.
use Rattle.std.proofs.Common.{ℕ, ◌≡◌, ◌+◌, ◌<◌, inl, inr, true, false, List, [], ◌∷◌, ◌++◌, length, take, get_or, map, ap, sym, subst, refl, ◌∙◌}
use Rattle.std.specs.Prelude.{Contains, Option, Some, None, is_some}
use Rattle.std.proofs.Math.Path.{ap₂}
use Rattle.std.proofs.lemmas.Bool.{false≢true, true≢false}
use Rattle.std.proofs.lemmas.List.{map-append, take_more}
use Rattle.std.proofs.lemmas.List.Elements.{Contains-push_cases}
use Rattle.base_lemmas.proofs.Elements.{is_mapped, nothing_in}
use Rattle.base_edits.proofs.Held.{mapped_from}
use Rattle.types_declared.specs.Package.{Package}
use Rattle.types_expr.specs.declared.symbol.Symbol.{Symbol}
use Rattle.workspace_check.proofs.Members.{taken_or_next}
use Rattle.refs_binding.specs.declared.declaration.Declaration.{Declaration}
use Rattle.refactor_conflict.specs.MembersFound.{IsRankFound}
use Rattle.refactor_members.specs.Naming.{IsOwnField, IsOwnMethod, IsRenamedField, IsRenamedMethod}
use Rattle.refactor_members.specs.Renames.{AreMembersOf, IsDefinitionOf, renamed_members}
use Rattle.refactor_members.specs.declared.member_rename.MemberRename.{MemberRename}
use Rattle.refactor_members.specs.declared.member_rename.RenamedMember.{RenamedMember}

abbrev declared_of : RenamedMember → Declaration
declared_of x = x.declaration.now

-- the list as it grows

pub no_members : (Known : Package → Type 0) (members : List RenamedMember) → members ≡ [] → AreMembersOf Known [] members
no_members Known members empty = record {
  same = ap (map declared_of) empty;
  definition = λ x among. absurd (nothing_in x (subst (λ l. Contains l x) empty among));
}

pub member_next : (Known : Package → Type 0) (set : List Declaration) (k : ℕ) (d : Declaration) (x : RenamedMember) (a b : List RenamedMember) →
    k < length set → d ≡ get_or set k d → AreMembersOf Known (take k set) a → b ≡ a ++ x ∷ [] → x.declaration.now ≡ d →
    IsRankFound (IsDefinitionOf Known d) x.definition → AreMembersOf Known (take (k + 1) set) b
member_next Known set k d x a b lt is h grown names found = record {
  same =
      ap (map declared_of) grown ∙ map-append declared_of a (x ∷ [])
      ∙ ap₂ (λ (xs : List Declaration) (y : Declaration). xs ++ y ∷ []) h.same (names ∙ is) ∙ sym (take_more set k d lt);
  definition = λ y among. elim (Contains-push_cases a x y (subst (λ l. Contains l y) grown among)) [
    | inl before ↦ h.definition y before
    | inr same ↦
        subst (λ (z : RenamedMember). IsRankFound (IsDefinitionOf Known z.declaration.now) z.definition) same
        (subst (λ e. IsRankFound (IsDefinitionOf Known e) x.definition) (sym names) found)
  ];
}

-- the list of a set, as it is passed on

pub same_set : (Known : Package → Type 0) (set : List Declaration) (members listed : List RenamedMember) → listed ≡ members → AreMembersOf Known set members →
    map declared_of listed ≡ set
same_set Known set members listed e h = ap (map declared_of) e ∙ h.same

pub members_passed : (Known : Package → Type 0) (set : List Declaration) (members listed : List RenamedMember) → listed ≡ members →
    AreMembersOf Known set members → AreMembersOf Known (map declared_of listed) listed
members_passed Known set members listed e h = record {
  same = refl;
  definition = λ x among. h.definition x (subst (λ l. Contains l x) e among);
}

-- What no member that was passed is, no member of the list is.

pub none_passed_yet : (P : RenamedMember → Type 0) (x : RenamedMember) → Contains [] x → P x → ⊥
none_passed_yet P x has = absurd (nothing_in x has)

pub none_further : (P : RenamedMember → Type 0) (xs : List RenamedMember) (k : ℕ) (y : RenamedMember) → k < length xs → y ≡ get_or xs k y →
    ((x : RenamedMember) → Contains (take k xs) x → P x → ⊥) → (P y → ⊥) → (x : RenamedMember) → Contains (take (k + 1) xs) x → P x → ⊥
none_further P xs k y lt is none not x has p = elim (taken_or_next xs k y x lt has) [
  | inl before ↦ none x before p
  | inr same ↦ not (subst P (sym (is ∙ same)) p)
]

-- a declaration is renamed just where it is that of one of the members

pub renamed_of_member : (m : MemberRename) (d : Declaration) (x : RenamedMember) → Contains m.members.now x → x.declaration.now ≡ d →
    Contains (renamed_members m) d
renamed_of_member m d x among same = subst (Contains (renamed_members m)) same (is_mapped declared_of m.members.now x among)

pub member_of_renamed : (m : MemberRename) (d : Declaration) → Contains (renamed_members m) d →
    (x : RenamedMember) × Contains m.members.now x × (x.declaration.now ≡ d)
member_of_renamed m d among = mapped_from declared_of m.members.now d among

-- Of the members the first with a rank is found.

pub rank_not_found : (P : ℕ → Type 0) (o : Option ℕ) → is_some o ≡ false → IsRankFound P o → (rank : ℕ) → P rank → ⊥
rank_not_found P None e h = h
rank_not_found P (Some rank) e h = absurd (true≢false e)

pub field_of_one : (m : MemberRename) (of : Symbol) (x : RenamedMember) → Contains m.members.now x → (o : Option ℕ) → is_some o ≡ true →
    IsRankFound (IsOwnField of x) o → IsRankFound (IsRenamedField m of) o
field_of_one m of x among None e h = absurd (false≢true e)
field_of_one m of x among (Some rank) e h = record { member = x; among = among; is_own = h }

pub method_of_one : (m : MemberRename) (of : Symbol) (x : RenamedMember) → Contains m.members.now x → (o : Option ℕ) → is_some o ≡ true →
    IsRankFound (IsOwnMethod of x) o → IsRankFound (IsRenamedMethod m of) o
method_of_one m of x among None e h = absurd (false≢true e)
method_of_one m of x among (Some rank) e h = record { member = x; among = among; is_own = h }
