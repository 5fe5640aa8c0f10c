use Rattle.proof_prelude.proofs.{◌≡◌, [], cases_eq, slice_get, Err, MatchResult, refl, sym, ap, ◌∙◌, subst, inr, option_copied, err_from_is_err_and}
use Rattle.repl_target.specs.{audit_answer, hole_of}
use Rattle.repl_network.specs.{AreKept, peers_of}
use Rattle.repl_network.specs.declared.fault.NetFault.TheVariants as faults
use Rattle.repl_network.proofs.{at_of, network_tied}
use Rattle.repl_network.proofs.net.Net.audit.Goals as goal

pub returns : goal.returns
returns g c =
    let from = at_of c.args.self.now c.args.source c.in-Some.from.now (sym c.peer.ensures ∙ ap option_copied c.in-Some.is) in
    let into = at_of c.args.self.now c.args.target c.in-Some-peer.into.now (sym c.peer-2.ensures ∙ ap option_copied c.in-Some-peer.is) in
    record {
      answer = inr (inr (_, _, from, into, c.in_ok-audit.ensures.answer));
      clean = c.in_ok-audit.ensures.tied (network_tied cases_eq (slice_get (peers_of c.args.self.now)) (AreKept []) c.law.ensures.net c.args.source c.args.target _ _ from into (option_copied c.args.chosen) [] (λ _ i. absurd i)).pair;
    }

pub returns-in_err-audit-clause-answer : goal.returns-in_err-audit-clause-answer
returns-in_err-audit-clause-answer g c =
    let from = at_of c.args.self.now c.args.source c.in-Some.from.now (sym c.peer.ensures ∙ ap option_copied c.in-Some.is) in
    let into = at_of c.args.self.now c.args.target c.in-Some-peer.into.now (sym c.peer-2.ensures ∙ ap option_copied c.in-Some-peer.is) in
    let p = err_from_is_err_and c.from_residual.result c.from_residual.ensures.1 in
    let answer = subst (λ r. MatchResult r (λ found. hole_of found ≡ audit_answer c.in-Some.from.now.1 c.in-Some-peer.into.now.1 (option_copied c.args.chosen)) (λ why. why ≡ faults.Memory)) (sym (p.1 ∙ ap Err p.2)) refl in
    inr (inr (_, _, from, into, answer))
