use Rattle.proof_prelude.proofs.{◌≡◌, None, IfOk, rules, sym, ap, ◌∙◌, IfOk-weaker, option_copied, arith, common_steps}
use Rattle.doc_json.specs.{Choice}
use Rattle.couch_base.specs.{chosen_feed}
use Rattle.repl_peer.specs.{PeerValue, covers}
use Rattle.repl_peer.proofs.{none_unknown}
use Rattle.repl_target.specs.{hole_at, hole_of, audit_answer, IsAudited, IsTiedPair}
use Rattle.repl_target.specs.declared.auditing.found.Audit.TheVariants.{Clean}
use Rattle.repl_target.proofs.{clean_from, tied_none}
use Rattle.repl_target.proofs.auditing.audit.Goals as goal

-- if no leaf is named, all are covered
clean_is : (source target : PeerValue) (chosen : Choice) → audit_answer source target chosen ≡ None → IsAudited source target chosen
clean_is source target chosen none s n is =
    none_unknown (covers target) (chosen_feed chosen source.db 0 n) (sym (ap (hole_at source target chosen) is) ∙ none)

pub returns-in-Some : goal.returns-in-Some
returns-in-Some g c =
    let p = c.args.source.now.1 in
    let q = c.args.target.now.1 in
    let ch = option_copied c.args.chosen in
    let told : IfOk c.hole_within.result (λ a. hole_of a ≡ audit_answer p q ch) = search rules in
    record {
      answer = first_of (search rules, grind (arith, common_steps));
      clean = IfOk-weaker c.hole_within.result (λ a. hole_of a ≡ audit_answer p q ch) (λ a. a ≡ Clean → IsAudited p q ch) (λ a h e. clean_is p q ch (sym h ∙ ap hole_of e)) told;
      tied =
          IfOk-weaker c.hole_within.result (λ a. hole_of a ≡ audit_answer p q ch) (λ a. IsTiedPair p q ch → a ≡ Clean)
          (λ a h tied. clean_from a (h ∙ tied_none (g.G.WriteFilter.refuses c.args.target.now.0) p q ch c.rep_between.ensures.target_law.sessions tied)) told;
    }
