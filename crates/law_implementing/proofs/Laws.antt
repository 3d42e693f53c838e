-- The laws of this crate.
pub use Rattle.law_implementing.proofs.Deciding.{no_obstacle_is_harmless, obstacles_decide, scope_renames_turn_none}
pub use Rattle.law_implementing.proofs.MembersCalled.{lookups_are_after, names_are_freed, turns_are_told}
pub use Rattle.law_implementing.proofs.NamesKept.{moves_turn_none, unnamed_renames_turn_none}
pub use Rattle.law_implementing.proofs.Sets.{others_are_alone, sets_are_called_alike}
pub use Rattle.law_implementing.proofs.UnnamedDecided.{unnamed_obstacles_decide}
pub use Rattle.law_implementing.proofs.MovesImplementing.{moves_preserve_all}
