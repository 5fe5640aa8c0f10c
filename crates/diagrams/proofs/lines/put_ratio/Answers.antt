use Rattle.proof_prelude.proofs.{◌++◌, codes, decimal}
use Rattle.diagrams.proofs.{text_by, then_text}
use Rattle.diagrams.proofs.lines.put_ratio.Goals as goal

pub returns : goal.returns
returns c =
    let old = c.args.out.now.items in
    let two = then_text old c.put_number.new.out.items c.extend_from_slice.new.self.items (decimal c.args.part) (codes " of ")
    c.in_ok-put_number.ensures c.in_ok-extend_from_slice.ensures.items in
    text_by c.put_number-2.result old c.extend_from_slice.new.self.items c.put_number-2.new.out.items (decimal c.args.part ++ codes " of ")
    (decimal c.args.whole) two c.put_number-2.ensures
