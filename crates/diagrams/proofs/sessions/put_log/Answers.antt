use Rattle.proof_prelude.proofs.{codes, refl}
use Rattle.diagrams.specs.{log, shown_text}
use Rattle.diagrams.proofs.{sign_by}
use Rattle.diagrams.proofs.sessions.put_log.Goals as goal

pub returns : goal.returns
returns c =
    sign_by c.put_text.result (log c.args.form c.args.id.now) c.args.out.now.items c.extend_from_slice.new.self.items
    c.put_text.new.out.items (codes "log ") (shown_text c.args.form c.args.id.now) refl c.in_ok-extend_from_slice.ensures.items c.put_text.ensures.text
