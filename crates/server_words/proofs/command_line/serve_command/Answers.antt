-- The answers to the goals of `command_line::serve_command`.
use Rattle.std.proofs.Common.{◌≡◌, ◌∙◌, ap, codes, false}
use Rattle.clap.specs.Simple.{app_of_fields}
use Rattle.clap.specs.Words.{app_of, new_app}
use Rattle.clap.specs.declared.builder.command.Command.TheViews.{out-Command as fields_of}
use Rattle.server_words.proofs.Options.{last_local, stays_local, with_last, with_option}
use Rattle.server_words.proofs.command_line.serve_command.Goals as goal

pub returns-clause-app : goal.returns-clause-app
returns-clause-app c =
    let bare : app_of c.about-bare.result ≡ new_app (codes "serve") = ap app_of_fields c.about-bare.ensures ∙ c.new.ensures.app in
    let first = with_option _ _ _ _ _ c.in_ok-with_socket.ensures bare c.socket.ensures.rule c.socket.ensures.local in
    let second = with_option _ _ _ _ _ c.in_ok-with_workers.ensures first c.workers.ensures.rule c.workers.ensures.local in
    let third = with_option _ _ _ _ _ c.in_ok-with_sessions.ensures second c.sessions.ensures.rule c.sessions.ensures.local in
    let fourth = with_option _ _ _ _ _ c.in_ok-with_end.ensures third c.stop_after.ensures.rule c.stop_after.ensures.local in
    let fifth = with_option _ _ _ _ _ c.in_ok-with_idle.ensures fourth c.idle.ensures.rule c.idle.ensures.local in
    let sixth = with_option _ _ _ _ _ c.in_ok-with_chapter.ensures fifth c.chapter.ensures.rule c.chapter.ensures.local in
    with_last _ _ _ _ _ c.arg-7.ensures sixth c.journal.ensures.rule c.journal.ensures.local

pub returns-clause-local : goal.returns-clause-local
returns-clause-local c =
    let bare : (fields_of c.about-bare.result).has_globals ≡ false = ap (λ fields. fields.has_globals) c.about-bare.ensures ∙ c.new.ensures.local in
    let first = stays_local _ _ _ c.in_ok-with_socket.ensures bare c.socket.ensures.local in
    let second = stays_local _ _ _ c.in_ok-with_workers.ensures first c.workers.ensures.local in
    let third = stays_local _ _ _ c.in_ok-with_sessions.ensures second c.sessions.ensures.local in
    let fourth = stays_local _ _ _ c.in_ok-with_end.ensures third c.stop_after.ensures.local in
    let fifth = stays_local _ _ _ c.in_ok-with_idle.ensures fourth c.idle.ensures.local in
    let sixth = stays_local _ _ _ c.in_ok-with_chapter.ensures fifth c.chapter.ensures.local in
    last_local _ _ _ c.arg-7.ensures sixth c.journal.ensures.local
