use Rattle.proof_prelude.proofs.{◌≡◌, ◌++◌, ◌∷◌, [], not, codes, length, nat_eq, is_some, true≢false, ap, sym, subst, ◌∙◌, arith, common_steps}
use Rattle.sha2.specs.Hashers.{Holds256}
use Rattle.line_reader.specs.{joined}
use Rattle.journal_core.specs.{block_hash, is_sum, sum_line}
use Rattle.journal_core.proofs.{hash_message, wrong_end, wrong_none}
use Rattle.journal_core.proofs.seal.SealLineTask.end.Goals as goal

pub returns : goal.returns
returns c = (
  λ none.
      let w = wrong_none c.args.self.now.wrong (not c.is_empty.result) c.args.self.now.count (sym c.wrong_after-self.ensures ∙ none) in (
        grind (arith, common_steps, w.1),
        λ chain seq lines s.
            let m = (chain ++ codes " " ++ seq ++ codes "\n") ++ joined lines in
            let hash = c.in_ok-hash.ensures m (subst (λ h. Holds256 h m) (sym c.replace-hasher.ensures.value) s.hashed) ∙ sym (hash_message chain seq (joined lines)) in
            let line = c.in_ok-line.ensures ∙ ap (λ n. sum_line n c.as_bytes.result.now c.as_slice.result.now) s.count ∙ ap (λ z. sum_line (length lines) z c.as_slice.result.now) (c.as_bytes.ensures.value ∙ hash)
            ∙ ap (λ z. sum_line (length lines) (block_hash chain seq (joined lines)) z) (c.as_slice.ensures.value ∙ s.seq_is) in
            (s.right w.0, c.in_ok-push.ensures.items ∙ ap (λ z. z ++ 10 ∷ []) (c.in_ok-extend_from_slice.ensures.items ∙ ap (λ z. z ++ c.as_slice-2.result.now) c.requires.empty ∙ c.as_slice-2.ensures.value ∙ line)),
      ),
  λ count e. absurd (true≢false (sym (ap is_some e) ∙ sym c.is_some.ensures ∙ c.if-is_some.false)),
)

pub returns-then-is_some : goal.returns-then-is_some
returns-then-is_some c = (
  λ none. absurd (true≢false (sym c.if-is_some.true ∙ c.is_some.ensures ∙ ap is_some none)),
  λ count e. (
    c.requires.empty,
    λ chain seq lines s.
        let wrong : not c.is_empty.result ≡ not (nat_eq (length c.args.rest.now) 0) = grind (arith, common_steps) in
        sym (wrong_end is_sum lines c.args.rest.now c.args.self.now.wrong (not c.is_empty.result) c.args.self.now.count s.wrong_is wrong s.count) ∙ sym c.wrong_after-self.ensures ∙ e,
  ),
)
