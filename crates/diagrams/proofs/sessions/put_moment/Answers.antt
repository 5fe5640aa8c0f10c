use Rattle.diagrams.specs.{moment, sign}
use Rattle.diagrams.proofs.{drawn_by}
use Rattle.diagrams.proofs.sessions.put_moment.Goals as goal

pub returns : goal.returns
returns c =
    drawn_by c.put_text.result (sign (moment c.args.form c.args.begun.now)) c.args.out.now.items c.put_text.new.out.items c.put_text.ensures.text
