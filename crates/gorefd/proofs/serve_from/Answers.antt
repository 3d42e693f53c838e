-- A session with the greatest limits was served.
use Rattle.std.proofs.Common.{refl}
use Rattle.gorefd.proofs.serve_from.Goals as goal

pub returns : goal.returns
returns g c = (
  _,
  refl,
  (
    g.I.Read.remaining c.args.input,
    g.O.Write.contents c.args.output,
    g.O.Write.contents c.session_alone.result.1,
    c.session_alone.ensures,
  ),
)
