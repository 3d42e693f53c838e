-- The replies that answers to Jobs are.
use Rattle.history_machine.specs.declared.event.Reply.{Reply}
use Rattle.history_machine.specs.declared.event.Reply.TheVariants.{Done, Refused, Back}
use Rattle.history_book.specs.declared.handed.Handed.{Handed}
use Rattle.history_book.specs.declared.handed.Handed.TheVariants as handed_in

-- the reply that the answer to a Job is
abbrev pub handed : Handed → Reply
handed (handed_in.Done number) = Done number
handed (handed_in.Refused refusal) = Refused refusal
handed (handed_in.Back refusal job built) = Back refusal job built
