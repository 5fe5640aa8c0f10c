use Rattle.proof_prelude.proofs.{sym, ap, ◌∙◌}
use Rattle.doc_json.specs.{agrees, is_head}
use Rattle.doc_json.proofs.{numbered_ok, sigs_first, head_some, head_none}
use Rattle.doc_json.proofs.revisions.agrees.Goals as goal

pub returns-in-Some-first_sig : goal.returns-in-Some-first_sig
returns-in-Some-first_sig g c = λ revs e.
    let n = numbered_ok c.args.start _ revs e in
    let r = c.in-Some.rev in
    c.is_revision.ensures
    ∙ sym (ap (λ o. agrees o revs) c.in-Some.is ∙ ap (is_head r) n.2
    ∙ head_some r c.args.start n.0 c.in-Some-first_sig.sig (sym c.in-Some-first_sig.is ∙ c.first_sig.ensures ∙ sigs_first g.V.JsonValue.seen c.args.ids.now n.0 n.1))

pub returns-in-None-first_sig : goal.returns-in-None-first_sig
returns-in-None-first_sig g c = λ revs e.
    let n = numbered_ok c.args.start _ revs e in
    let r = c.in-Some.rev in
    sym (ap (λ o. agrees o revs) c.in-Some.is ∙ ap (is_head r) n.2
    ∙ head_none r c.args.start n.0 (sym c.in-None-first_sig.is ∙ c.first_sig.ensures ∙ sigs_first g.V.JsonValue.seen c.args.ids.now n.0 n.1))
