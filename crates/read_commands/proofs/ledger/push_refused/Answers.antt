use Rattle.proof_prelude.proofs.{◌≡◌, ◌++◌, ℕ, List, Option, Some, sym, ap, subst, ◌∙◌, OnOk}
use Rattle.rev_core.specs.{head_of, RevId, rev_text}
use Rattle.doc_json.specs.Document.{Document}
use Rattle.repl_peer.specs.{RefusedValue}
use Rattle.repl_peer.specs.declared.fault.Reason.TheVariants as reasons
use Rattle.command_api.specs.{text_of_any}
use Rattle.read_commands.specs.{contradicted_line, denied_line, refused_for, refused_line}
use Rattle.read_commands.proofs.ledger.push_refused.Goals as goal

denied_is : (x : RefusedValue) (id : List ℕ) (rev : RevId) → id ≡ x.doc.id → x.reason ≡ reasons.Filtered → head_of x.doc.ancestry ≡ Some rev → denied_line id (rev_text rev) ≡ refused_line x
denied_is x id rev e f h =
    ap (λ i. denied_line i (rev_text rev)) e
    ∙ ap (λ (o : Option RevId). denied_line x.doc.id (text_of_any o)) (sym h)
    ∙ ap (λ r. refused_for r x) (sym f)

contradicted_is : (x : RefusedValue) (id : List ℕ) (rev known given : RevId) → id ≡ x.doc.id → x.reason ≡ reasons.Contradicting rev known given → contradicted_line id (rev_text rev) (rev_text known) (rev_text given) ≡ refused_line x
contradicted_is x id rev known given e f = ap (λ i. contradicted_line i (rev_text rev) (rev_text known) (rev_text given)) e ∙ ap (λ r. refused_for r x) (sym f)

pub returns-in-Denied : goal.returns-in-Denied
returns-in-Denied c =
    let id = c.text-id.ensures.text ∙ c.id.ensures.part ∙ ap (λ (d : Document). d.id) c.doc.ensures in
    subst (λ line. OnOk c.push_denied.result (c.push_denied.new.answer.items ≡ c.args.answer.now.items ++ line))
    (denied_is c.args.refused.now _ _ id c.in-Denied.ensures.0 c.in-Denied.ensures.1) c.push_denied.ensures

pub returns-in-Contradicted : goal.returns-in-Contradicted
returns-in-Contradicted c =
    let id = c.text-id.ensures.text ∙ c.id.ensures.part ∙ ap (λ (d : Document). d.id) c.doc.ensures in
    subst (λ line. OnOk c.push_contradicted.result (c.push_contradicted.new.answer.items ≡ c.args.answer.now.items ++ line))
    (contradicted_is c.args.refused.now _ _ _ _ id c.in-Contradicted.ensures) c.push_contradicted.ensures
