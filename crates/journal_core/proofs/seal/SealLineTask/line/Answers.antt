use Rattle.proof_prelude.proofs.{◌≡◌, ◌++◌, ◌∷◌, [], false, codes, ap, sym, subst, ◌∙◌, arith, All-push, length-append}
use Rattle.sha2.specs.Hashers.{Holds256}
use Rattle.line_reader.specs.{joined}
use Rattle.journal_core.specs.{is_sum}
use Rattle.journal_core.proofs.{seal_message, wrong_more, wrong_none}
use Rattle.journal_core.proofs.seal.SealLineTask.line.Goals as goal

pub returns : goal.returns
returns c = (
  c.requires.empty,
  λ chain seq lines s.
      let line = c.args.line.now in
      let front = chain ++ codes " " ++ seq ++ codes "\n" in
      record {
        hashed = subst (λ z. Holds256 c.update-2.new.self z) (ap (λ z. ((front ++ joined lines) ++ line) ++ z) c.as_slice.ensures ∙ seal_message front lines line) (c.update-2.ensures _ (c.update.ensures _ s.hashed));
        seq_is = s.seq_is;
        count = omega (arith, c.in_ok-self.ensures, s.count, length-append lines (line ∷ []));
        wrong_is = c.wrong_after-self.ensures ∙ wrong_more is_sum lines line c.args.self.now.wrong c.is_sum.result c.args.self.now.count s.wrong_is c.is_sum.ensures s.count;
        right = λ none.
            let w = wrong_none c.args.self.now.wrong c.is_sum.result c.args.self.now.count (sym c.wrong_after-self.ensures ∙ none) in
            All-push (λ z. is_sum z ≡ false) lines line (s.right w.0) (sym c.is_sum.ensures ∙ w.1);
      },
)
