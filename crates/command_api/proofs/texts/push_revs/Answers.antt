use Rattle.proof_prelude.proofs.{◌++◌, ◌∷◌, [], List, ℕ, sym, ap, ◌∙◌, append_assoc}
use Rattle.rev_core.specs.{rev_text}
use Rattle.command_api.proofs.{texts-more, texts-first}
use Rattle.command_api.proofs.texts.push_revs.Goals as goal
use Rattle.command_api.proofs.texts.push_revs.Goals.{then-i-gt0+in_ok-push, else-i-gt0}

pub loop-i-preserved : goal.loop-i-preserved
loop-i-preserved c =
    let old = c.args.text.now.items in
    let revs = c.args.revs.now in
    let rev = c.index-revs-i.result in
    elim c.if-i-gt0.branch [
      | then-i-gt0+in_ok-push w ↦
          let more = texts-more revs c.loop-i.i rev w.if-i-gt0.true c.loop-i-test.true c.index-revs-i.is in
          c.in_ok-push_rev.ensures ∙ ap (λ v. v.items ++ rev_text rev) w.text-is
          ∙ ap (λ (t : List ℕ). t ++ rev_text rev) (w.in_ok-push.ensures.items ∙ ap (λ (t : List ℕ). t ++ 44 ∷ []) c.loop-i.invariant)
          ∙ simp append_assoc (ap (λ (t : List ℕ). old ++ t) (simp append_assoc at (sym more)))
      | else-i-gt0 w ↦
          c.in_ok-push_rev.ensures ∙ ap (λ v. v.items ++ rev_text rev) w.text-is
          ∙ ap (λ (t : List ℕ). t ++ rev_text rev) c.loop-i.invariant ∙ texts-first old revs c.loop-i.i rev w.if-i-gt0.false c.loop-i-test.true c.index-revs-i.is
    ]
