-- The answers to the goals of `requests::serve_words`.
use Rattle.std.proofs.Common.{◌∙◌, codes, sym}
use Rattle.clap.specs.Words.{found_of}
use Rattle.clap.proofs.WalkLemmas.{first_value-rows}
use Rattle.server_words.proofs.Numbers.{no_socket}
use Rattle.server_words.proofs.requests.serve_words.Goals as goal

pub returns-in_err-socket : goal.returns-in_err-socket
returns-in_err-socket c = rw c.from_residual.ensures
    (λ words h. no_socket _ words.socket.now (c.in_err-socket.ensures ∙ first_value-rows (found_of c.args.matches.now) (codes "socket")) h.socket)

pub returns-in_err-workers : goal.returns-in_err-workers
returns-in_err-workers c = rw c.from_residual-in_err-workers.ensures (λ words h. c.in_err-workers.ensures words.workers h.workers)

pub returns-in_err-sessions : goal.returns-in_err-sessions
returns-in_err-sessions c = rw c.from_residual-in_err-sessions.ensures (λ words h. c.in_err-sessions.ensures words.sessions h.sessions)

pub returns : goal.returns
returns c = record {
  socket = sym (c.in_ok-socket.ensures ∙ first_value-rows (found_of c.args.matches.now) (codes "socket"));
  workers = c.in_ok-workers.ensures;
  sessions = c.in_ok-sessions.ensures;
  stop_after = c.in_ok-stop_after.ensures;
  idle = c.in_ok-idle.ensures;
  chapter = c.in_ok-chapter.ensures;
  journal = sym (c.get_str-journal.ensures ∙ first_value-rows (found_of c.args.matches.now) (codes "journal"));
}
