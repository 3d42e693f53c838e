-- The result of the parser for a simple command line, as the program's is.
use Rattle.std.proofs.Common.{◌≡◌, List, Result, Ok, Err, IfOk, true, refl, subst}
use Rattle.clap.specs.Words.{App, FailsBy, HasMatchesOf, Text, app_of, fault_of, is_simple, is_simple_and_free, subcommand_of, subcommand_rows_of}
use Rattle.clap.specs.declared.builder.command.Command.{Command}
use Rattle.clap.specs.declared.error.Error.{Error}
use Rattle.clap.specs.declared.parser.matches.ArgMatches.{ArgMatches}
use Rattle.server_words.specs.CommandLine.{gorefd}

pub simple_line : is_simple gorefd ≡ true
simple_line = refl

pub free_line : is_simple_and_free gorefd ≡ true
free_line = refl

module _ (command : Command) (app : App) (words : List Text) (result : Result ArgMatches Error) (is : app_of command ≡ app) where
  pub found_in : is_simple app ≡ true → IfOk result (HasMatchesOf (app_of command) words)
      → IfOk result (λ matches. subcommand_rows_of matches ≡ subcommand_of app words)
  found_in simple found = go result found
    where
      go : (r : Result ArgMatches Error) → IfOk r (HasMatchesOf (app_of command) words)
          → IfOk r (λ matches. subcommand_rows_of matches ≡ subcommand_of app words)
      go (Ok matches) has = (subst (λ a. HasMatchesOf a words matches) is has simple).1
      go (Err error) has = tt

  pub fails_in : is_simple_and_free app ≡ true → (is_simple_and_free (app_of command) ≡ true → FailsBy (fault_of (app_of command) words) result)
      → FailsBy (fault_of app words) result
  fails_in free fails = subst (λ a. is_simple_and_free a ≡ true → FailsBy (fault_of a words) result) is fails free
