-- Views of what the type checker has found so far (`FoundInFile`), and relations that say what one call adds to it.
use Rattle.std.specs.Prelude.{ℕ, ◌≡◌, List, ◌++◌, Option, option_map, map, Bool}
use Rattle.std.specs.BTreeMap.{get}
use Rattle.std.specs.BTreeSet.{contains}
use Rattle.std.specs.Ordering.{nat_cmp}
use Rattle.types_expr.specs.declared.locals.Locals.{Locals}
use Rattle.types_expr.specs.declared.meaning.Meaning.{Meaning}
use Rattle.types_expr.specs.declared.meaning.Meaning.TheVariants as meaning
use Rattle.types_expr.specs.declared.meaning.ListValue.{ListValue}
use Rattle.types_expr.specs.declared.found.MemberUse.{MemberUse}
use Rattle.types_expr.specs.declared.found.Entering.{Entering}
use Rattle.types_expr.specs.declared.found.Noted.{Noted}
use Rattle.types_expr.specs.declared.found.Noted.TheVariants as noted
use Rattle.types_expr.specs.declared.found.FoundInFile.{FoundInFile}
use Rattle.types_expr.specs.declared.keys.SeenFields.{SeenFields}
use Rattle.types_expr.specs.declared.keys.LiteralKey.{LiteralKey}
use Rattle.types_expr.specs.declared.keys.LiteralKey.TheVariants as key
use Rattle.types_expr.specs.declared.keys.ElementKey.{ElementKey}
use Rattle.types_expr.specs.Types as types
use Rattle.types_expr.specs.Judge as judge
use Rattle.types_expr.specs.View.{type_of, kind_of, signature_of}

-- the type of the local that the name at token `place` declares
unfoldable pub locals_of : Locals → ℕ → Option types.PlainType
locals_of l place = option_map type_of (get nat_cmp l.types place)

-- the plain meaning that a `Meaning` of src/ stands for
unfoldable pub meaning_of : Meaning → types.Meaning
meaning_of (meaning.Value k a) = types.Value (kind_of k) a
meaning_of (meaning.TypeName t) = types.TypeName (type_of t.now)
meaning_of (meaning.Function s) = types.Function (signature_of s.now)
meaning_of (meaning.Builtin b) = types.BuiltinName b
meaning_of meaning.Package = types.Package
meaning_of (meaning.Results ts) = types.Results (map type_of ts.now)
meaning_of meaning.Broken = types.Broken

-- whether an earlier key of the literal named the field of this rank
unfoldable pub seen_of : SeenFields → judge.Seen
seen_of s rank = contains nat_cmp s.ranks rank

-- the plain key that a `LiteralKey` of src/ stands for
unfoldable pub key_of : LiteralKey → judge.KeyMeaning
key_of (key.Field rank t) = judge.FieldKey rank (type_of t.now)
key_of key.Broken = judge.BrokenKey
key_of key.Wrong = judge.WrongKey

abbrev pub use_of : MemberUse → judge.MemberUse
use_of u = record { place = u.place; before = type_of u.before; member = u.member }

abbrev pub plain_entering : Entering → judge.Entering
plain_entering e = record { place = e.place; own = type_of e.own }

-- the plain note that a `Noted` of src/ stands for
unfoldable pub noted_of : Noted → judge.Noted
noted_of (noted.Member u) = judge.OfMember (use_of u)
noted_of (noted.Entering e) = judge.OfEntering (plain_entering e)

abbrev pub list_value : ListValue → judge.ListValue
list_value v = record { place = v.place; kind = option_map kind_of v.kind }

-- A call appended the faults and member uses of the judgement j to those found before, and returned m, the meaning of j.
pub record AddsJudged (j : judge.Judged) (old new : FoundInFile) (m : types.Meaning) : Type 0 where
  pub meaning : m ≡ j.meaning
  pub faults : new.faults.items ≡ old.faults.items ++ j.faults
  pub uses : map noted_of new.uses.items ≡ map noted_of old.uses.items ++ j.uses

-- A call judged a list of expressions: it appended the faults and member uses and entries of j, and returned vs, the values of j.
pub record AddsJudgedList (j : judge.JudgedList) (old new : FoundInFile) (vs : List judge.ListValue) : Type 0 where
  pub values : vs ≡ j.values
  pub faults : new.faults.items ≡ old.faults.items ++ j.faults
  pub uses : map noted_of new.uses.items ≡ map noted_of old.uses.items ++ j.uses

-- A call went on from an operand of meaning m. Whatever judgement j with that meaning was appended before the call, both together append
-- `rule j`, of which the call returned the meaning r.
pub record AddsByRule (rule : judge.Judged → judge.Judged) (m : types.Meaning) (old new : FoundInFile) (r : types.Meaning) : Type 0 where
  pub after : (j : judge.Judged) (before : FoundInFile) → AddsJudged j before old m → AddsJudged (rule j) before new r

-- A call appended faults at `places` and these entries. `fits` says whether `places` is empty.
pub record AddsMisfits (places : List ℕ) (entries : List judge.Noted) (old new : FoundInFile) (fits : Bool) : Type 0 where
  pub faults : new.faults.items ≡ old.faults.items ++ places
  pub uses : map noted_of new.uses.items ≡ map noted_of old.uses.items ++ entries
  pub none : fits ≡ judge.is_empty places

-- A call judged the key of an element: it appended the faults and member uses and entries of j, and returned k. k says whether the key is whole,
-- whether there is none, and which type the element's value has to fit.
pub record AddsKey (j : judge.JudgedKey) (old new : FoundInFile) (k : ElementKey) : Type 0 where
  pub whole : k.whole ≡ j.whole
  pub unkeyed : k.unkeyed ≡ j.unkeyed
  pub wanted : option_map (λ t. type_of t.now) k.wanted ≡ j.wanted
  pub faults : new.faults.items ≡ old.faults.items ++ j.faults
  pub uses : map noted_of new.uses.items ≡ map noted_of old.uses.items ++ j.uses

-- A call judged the elements of a literal: it appended the faults and member uses and entries of j, and returned whether all are whole and whether one
-- has no key.
pub record AddsElements (j : judge.JudgedElements) (old new : FoundInFile) (all_whole some_unkeyed : Bool) : Type 0 where
  pub whole : all_whole ≡ j.whole
  pub unkeyed : some_unkeyed ≡ j.unkeyed
  pub faults : new.faults.items ≡ old.faults.items ++ j.faults
  pub uses : map noted_of new.uses.items ≡ map noted_of old.uses.items ++ j.uses

-- A call judged a written type: it appended the faults of j, and returned the type, none where it is broken.
pub record AddsType (j : judge.TypeJudged) (old new : FoundInFile) (own : Option types.PlainType) : Type 0 where
  pub found : own ≡ j.type_of
  pub faults : new.faults.items ≡ old.faults.items ++ j.faults
  pub uses : new.uses.items ≡ old.uses.items
