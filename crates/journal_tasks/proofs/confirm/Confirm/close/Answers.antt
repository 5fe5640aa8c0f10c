use Rattle.proof_prelude.proofs.{Some, ap, cond-false, cond-true, option_map, refl, sym, ◌∙◌}
use Rattle.journal_tasks.specs.{is_at_given, lacks_view, noted_all, stored_report, texts_in}
use Rattle.journal_tasks.proofs.{on_two}
use Rattle.journal_tasks.proofs.confirm.Confirm.close.Goals as goal

pub returns : goal.returns
returns c =
    let old = c.args.self.now in
    record {
      blocks = refl;
      leaves = c.in_ok-self.ensures;
      held = refl;
      at_is = refl;
      begun = refl;
      first = refl;
      sums = refl;
      pending = c.new.ensures.items;
      lacks = c.in_ok-note_all.ensures ∙ ap (λ z. noted_all (texts_in z) (lacks_view old.lacks.lines)) c.as_slice.ensures.value;
      found = λ place at. sym (cond-false (is_at_given (option_map (λ at. at.items) old.at) place.seq) _ _ (sym (c.is_at_seq.ensures place at) ∙ c.if-is_at_seq.false));
    }

pub returns-then-is_at_seq : goal.returns-then-is_at_seq
returns-then-is_at_seq c =
    let old = c.args.self.now in
    on_two c.store_report.result (λ s f. record {
      blocks = ap (λ z. z.blocks) s;
      leaves = ap (λ z. z.leaves) s ∙ c.in_ok-self.ensures;
      held = ap (λ z. z.held) s;
      at_is = ap (λ z. z.at) s;
      begun = ap (λ z. z.begun) s;
      first = ap (λ z. z.first_leaf) s;
      sums = ap (λ z. z.sums) s;
      pending = ap (λ z. z.pending.items) s ∙ c.new.ensures.items;
      lacks = ap (λ z. lacks_view z.lacks.lines) s ∙ c.in_ok-note_all.ensures ∙ ap (λ z. noted_all (texts_in z) (lacks_view old.lacks.lines)) c.as_slice.ensures.value;
      found = λ place at.
          f place at ∙ ap Some (sym (ap (λ z. stored_report z place) s)) ∙ sym (cond-true (is_at_given (option_map (λ at. at.items) old.at) place.seq) _ _ (sym (c.is_at_seq.ensures place at) ∙ c.if-is_at_seq.true));
    }) c.store_report.ensures.same c.store_report.ensures.found
