-- A command with one more option.
use Rattle.std.proofs.Common.{◌≡◌, ◌∙◌, Result, Ok, Err, IfOk, false, refl, subst}
use Rattle.clap.specs.Words.{AddsArg, App, Rule, app_of, rule_of, with_rule}
use Rattle.clap.specs.declared.builder.arg.Arg.{Arg}
use Rattle.clap.specs.declared.builder.command.Command.{Command}
use Rattle.clap.specs.declared.builder.command.Command.TheViews.{out-Command as fields_of}

pub with_option : (old : Command) (option : Arg) (new : Command) (app : App) (rule : Rule) → AddsArg old option new → app_of old ≡ app → rule_of option ≡ rule
    → option.global ≡ false → app_of new ≡ with_rule app rule
with_option old option new app rule adds is ruled local =
    subst (λ a. app_of new ≡ with_rule a rule) is (subst (λ r. app_of new ≡ with_rule (app_of old) r) ruled (adds.shape local))

pub stays_local : (old : Command) (option : Arg) (new : Command) → AddsArg old option new → (fields_of old).has_globals ≡ false → option.global ≡ false
    → (fields_of new).has_globals ≡ false
stays_local old option new adds before local = adds.globals ∙ rw (before, local) refl

module _ {E : Type 0} (old : Command) (option : Arg) where
  pub with_last : (result : Result Command E) (app : App) (rule : Rule) → IfOk result (AddsArg old option) → app_of old ≡ app → rule_of option ≡ rule
      → option.global ≡ false → IfOk result (λ command. app_of command ≡ with_rule app rule)
  with_last (Ok new) app rule adds is ruled local = with_option old option new app rule adds is ruled local
  with_last (Err error) app rule adds is ruled local = tt

  pub last_local : (result : Result Command E) → IfOk result (AddsArg old option) → (fields_of old).has_globals ≡ false → option.global ≡ false
      → IfOk result (λ command. (fields_of command).has_globals ≡ false)
  last_local (Ok new) adds before local = stays_local old option new adds before local
  last_local (Err error) adds before local = tt
