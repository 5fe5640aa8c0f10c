use Rattle.diagrams.specs.{sign, title}
use Rattle.diagrams.proofs.{drawn_by}
use Rattle.diagrams.proofs.sheet.title.Goals as goal

pub returns : goal.returns
returns c =
    drawn_by c.put_text.result (sign (title c.args.form c.args.id.now)) c.args.out.now.items c.put_text.new.out.items c.put_text.ensures.text
