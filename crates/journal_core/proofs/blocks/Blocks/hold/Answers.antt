use Rattle.proof_prelude.proofs.{◌++◌, ◌∷◌, [], ap, sym, ◌∙◌, arith, append_assoc, length-append}
use Rattle.line_reader.specs.{joined}
use Rattle.line_reader.proofs.{joined-append}
use Rattle.journal_core.proofs.blocks.Blocks.hold.Goals as goal

pub returns : goal.returns
returns c = λ place at.
    let line = c.args.line.now in
    record {
      chain = at.chain;
      seq = at.seq;
      body = c.in_ok-push.ensures.items ∙ ap (λ z. z ++ 10 ∷ []) (c.in_ok-extend_from_slice.ensures.items ∙ ap (λ z. z ++ line) at.body) ∙ append_assoc (joined place.held) line (10 ∷ []) ∙ sym (joined-append place.held line);
      count = omega (arith, c.in_ok-self.ensures, at.count, length-append place.held (line ∷ []));
      bytes = at.bytes;
      lines = at.lines;
      whole = at.whole;
    }
