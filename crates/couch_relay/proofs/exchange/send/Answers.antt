use Rattle.proof_prelude.proofs.{◌≡◌, ℕ, List, [], ◌++◌, sym, ◌∙◌, append-nil, Appends, Appends-kept}
use Rattle.relay_core.specs.Views.{request_view}
use Rattle.relay_requests.specs.Requests.{request_text}
use Rattle.couch_relay.proofs.Lines.{any_err}
use Rattle.couch_relay.proofs.exchange.send.Goals as goal

pub returns-clause-err : goal.returns-clause-err
returns-clause-err g c =
    let parts : (front : List ℕ) × (back : List ℕ) × (request_text c.args.options.now (request_view c.args.request.now) ≡ front ++ back) × Appends (g.W.ScriptWrite.held c.args.writer.now) (g.W.ScriptWrite.held c.pass_on.new.writer) front = (
      c.as_slice.result.now,
      [],
      sym c.in_ok-text.ensures ∙ sym c.as_slice.ensures.value ∙ sym (append-nil _),
      Appends-kept _ _ _ _ c.in_ok-write_all.ensures.ok.0 c.pass_on.ensures.bytes,
    ) in
    any_err c.pass_on.result parts
