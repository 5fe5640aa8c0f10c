use Rattle.proof_prelude.proofs.{refl, codes}
use Rattle.diagrams.specs.{listed, short_text}
use Rattle.diagrams.proofs.{sign_by}
use Rattle.diagrams.proofs.lines.put_listed.Goals as goal

pub returns : goal.returns
returns c =
    sign_by c.push_short.result (listed c.args.rev.now) c.args.out.now.items c.extend_from_slice.new.self.items
    c.push_short.new.out.items (codes " ") (short_text c.args.rev.now) refl c.in_ok-extend_from_slice.ensures.items c.push_short.ensures
