-- The program's command line, as the parser of command lines sees it.
use Rattle.std.specs.Prelude.{ℕ, Some, [], ◌∷◌, true, codes, pos}
use Rattle.clap.specs.Words.{App, Rule, Text, new_app, new_rule, with_rule, with_subcommand}
use Rattle.clap.specs.Simple.{on_top}
use Rattle.clap.specs.declared.builder.action.ArgAction.TheVariants.{SetTrue}
use Rattle.clap.specs.declared.builder.value_parser.ValueParser.TheVariants as parser

-- an option with one value
abbrev pub option_rule : Text → Rule
option_rule name = record (new_rule name) { long = Some name; value_names = 1 }

-- the option, which must be given
abbrev pub required_rule : Rule → Rule
required_rule rule = record rule { required = true }

-- the option `--socket`, which must be given
abbrev pub socket_rule : Rule
socket_rule = required_rule (option_rule (codes "socket"))

-- an option whose value is a number from 1 to `most`
abbrev pub number_rule : Text → ℕ → Rule
number_rule name most = record (option_rule name) { parser = Some (parser.Signed (pos 1) (pos most)) }

-- the subcommand `run`, which has no options
abbrev pub run_app : App
run_app = new_app (codes "run")

-- the subcommand `serve`, with its seven options
abbrev pub serve_app : App
serve_app = with_rule (with_rule (with_rule (with_rule (with_rule (with_rule (with_rule (new_app (codes "serve"))
    socket_rule)
    (required_rule (number_rule (codes "workers") 16)))
    (required_rule (number_rule (codes "sessions") 32)))
    (number_rule (codes "stop-after") 1000000))
    (number_rule (codes "idle") 1000000))
    (number_rule (codes "chapter") 900000))
    (option_rule (codes "journal"))

-- an option that has no value
abbrev pub flag_rule : Text → Rule
flag_rule name = record (new_rule name) { long = Some name; action = Some SetTrue }

-- the subcommand `stop`, with its two options
abbrev pub stop_app : App
stop_app = with_rule (with_rule (new_app (codes "stop")) socket_rule) (flag_rule (codes "now"))

-- the command line without its subcommands: a subcommand must be given, and there is none named `help`
abbrev pub bare_app : App
bare_app = on_top (λ top. record top { has_version = true; subcommand_required = true; disable_help_subcommand = true }) (new_app (codes "gorefd"))

-- the option `--root`, which is the folder `.` where it is not given
abbrev pub root_rule : Rule
root_rule = record (option_rule (codes "root")) { defaults = codes "." ∷ [] }

-- the option `--dry-run`
abbrev pub dry_run_rule : Rule
dry_run_rule = flag_rule (codes "dry-run")

-- a word that must be given without the name of an option
abbrev pub word_rule : Text → Rule
word_rule name = record (new_rule name) { value_names = 1; required = true }

-- a subcommand with the option `--root`
abbrev pub rooted_app : Text → App
rooted_app name = with_rule (new_app name) root_rule

-- a subcommand with the options `--root` and `--dry-run`
abbrev pub changing_app : Text → App
changing_app name = with_rule (rooted_app name) dry_run_rule

-- the subcommand `rename`, with its place and its name
abbrev pub rename_app : App
rename_app = with_rule (with_rule (changing_app (codes "rename")) (word_rule (codes "PLACE"))) (word_rule (codes "NAME"))

-- the subcommand `move`, with its two paths
abbrev pub move_app : App
move_app = with_rule (with_rule (changing_app (codes "move")) (word_rule (codes "FROM"))) (word_rule (codes "TO"))

-- the subcommand `uses`, with its place
abbrev pub uses_app : App
uses_app = with_rule (rooted_app (codes "uses")) (word_rule (codes "PLACE"))

-- the subcommand `faults`
abbrev pub faults_app : App
faults_app = rooted_app (codes "faults")

-- the command line with the subcommands that serve sessions
abbrev pub serving_app : App
serving_app = with_subcommand (with_subcommand bare_app run_app.top) serve_app.top

-- the command line with the subcommand that ends a server, too
abbrev pub ending_app : App
ending_app = with_subcommand serving_app stop_app.top

-- the subcommand `lsp`
abbrev pub lsp_app : App
lsp_app = rooted_app (codes "lsp")

-- the command line with the subcommands of sessions and of folders
abbrev pub listing_app : App
listing_app = with_subcommand (with_subcommand (with_subcommand (with_subcommand ending_app rename_app.top) move_app.top) faults_app.top) uses_app.top

-- the program's command line, with all its subcommands
abbrev pub gorefd : App
gorefd = with_subcommand listing_app lsp_app.top
