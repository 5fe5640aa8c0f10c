use Rattle.proof_prelude.proofs.{◌≡◌, ◌++◌, ◌∷◌, [], ap, ◌∙◌, append_assoc}
use Rattle.doc_json.proofs.text.push_standing.Goals as goal

pub returns-clause-text : goal.returns-clause-text
returns-clause-text c =
    let d = c.args.text.now in
    let out = c.args.out.now.items in
    let close = 34 ∷ [] in
    let text : c.extend_from_slice.new.self.items ≡ c.push.new.self.items ++ d = rw (← c.as_bytes.ensures.value) c.in_ok-extend_from_slice.ensures.items in
    c.in_ok-push-2.ensures.items ∙ ap (λ l. l ++ close) (text ∙ ap (λ l. l ++ d) c.in_ok-push.ensures.items) ∙ append_assoc (out ++ close) d close ∙ append_assoc out close (d ++ close)
