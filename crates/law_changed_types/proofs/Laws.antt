-- The laws of this crate.
use Rattle.law_changed_types.specs.MovedPackage.{TypesMove, BrokenMove, UnderlyingMove, MeaningsMove, DefinitionsMove}
use Rattle.law_changed_types.specs.Moved.{moved_type}
use Rattle.std.proofs.Common.{refl}
use Rattle.law_changed_types.proofs.Written.{broken, broken_back, type_of, type_of_back}
use Rattle.law_changed_types.proofs.Underlying.{has_underlying, underlying_back}
use Rattle.law_changed_types.proofs.MovedTypesMeanings.{meaning, meaning_back}
use Rattle.law_changed_types.proofs.Defined.{definition_moves}

pub types_move : TypesMove
types_move g inj p q a file tree dots =
    record { forth = λ t h. type_of g inj p q a file tree t dots h; back = λ t h. type_of_back g inj p q a file tree t dots h }

pub broken_move : BrokenMove
broken_move g inj p q a rank = (broken g inj p q a rank, broken_back g inj p q a rank)

pub underlying_move : UnderlyingMove
underlying_move g inj p q a t =
    record { forth = λ u h. has_underlying g inj p q a t u h; back = λ u h. underlying_back g inj p q a (moved_type g t) u h t refl }

pub meanings_move : MeaningsMove
meanings_move g inj p q a d = record { forth = λ b h. meaning g inj p q a d b h; back = λ b h. meaning_back g inj p q a d b h }

pub definitions_move : DefinitionsMove
definitions_move g inj p q a rank d h = definition_moves g inj p q a rank d h
