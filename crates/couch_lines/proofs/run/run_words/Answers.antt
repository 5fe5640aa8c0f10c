use Rattle.proof_prelude.proofs.{map, string_bytes, subst}
use Rattle.couch_lines.specs.{Says}
use Rattle.couch_lines.proofs.run.run_words.Goals as goal

pub returns-in-Trees-clause-runs : goal.returns-in-Trees-clause-runs
returns-in-Trees-clause-runs g c =
    (c.in-Trees.db, c.in-Trees.svg, subst (Says (map string_bytes c.args.words.now)) c.in-Trees.is c.in-Ok.ensures.ok, c.draw.ensures.drawn)

pub returns-in-Trees-clause-took : goal.returns-in-Trees-clause-took
returns-in-Trees-clause-took g c =
    let t = c.draw.ensures.took in
    (t.0, t.1, (c.in-Trees.db, c.in-Trees.svg, subst (Says (map string_bytes c.args.words.now)) c.in-Trees.is c.in-Ok.ensures.ok, t.2))
