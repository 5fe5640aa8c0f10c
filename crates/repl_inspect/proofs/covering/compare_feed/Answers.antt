use Rattle.proof_prelude.proofs.{◌≡◌, sym, ap, ◌∙◌, IfOk-weaker, option_copied}
use Rattle.doc_json.specs.{Choice}
use Rattle.couch_base.specs.{DatabaseValue, chosen_feed}
use Rattle.repl_target.specs.{CoversFeed}
use Rattle.repl_inspect.specs.{comparisons, HasNoLedger, total_of, Total}
use Rattle.repl_inspect.proofs.{covered_all, refused_all, none_missing}
use Rattle.repl_inspect.proofs.covering.compare_feed.Goals as goal

-- the total of two databases
abbrev told : Choice → DatabaseValue → DatabaseValue → Total
told h a b = total_of (comparisons a b (chosen_feed h a 0 a.update_seq))

pub returns : goal.returns
returns g c =
    let h = option_copied c.args.chosen in
    let p = c.args.source.now.1 in
    let q = c.args.target.now.1 in
    record {
      total =
          IfOk-weaker c.compare_databases.result _ (λ t. t ≡ told h c.args.source.now.1.db c.args.target.now.1.db)
          (λ t is. is ∙ (λ i. told h (c.db.ensures.value i) (c.db-2.ensures.value i))) c.compare_databases.ensures;
      covers =
          IfOk-weaker c.compare_databases.result _ (λ t. t.missing ≡ 0 → CoversFeed p q h p.db.update_seq)
          (λ t is none. covered_all p q h c.law.ensures.database (sym (ap (λ (x : Total). x.missing) (is ∙ (λ i. told h (c.db.ensures.value i) (c.db-2.ensures.value i)))) ∙ none))
          c.compare_databases.ensures;
      whole =
          IfOk-weaker c.compare_databases.result _ (λ t. HasNoLedger q → CoversFeed p q h p.db.update_seq → t.missing ≡ 0)
          (λ t is empty covered. ap (λ (x : Total). x.missing) (is ∙ (λ i. told h (c.db.ensures.value i) (c.db-2.ensures.value i))) ∙ none_missing p q h c.law.ensures.database empty covered)
          c.compare_databases.ensures;
      refused = refused_all c.args.source.now.1 c.args.target.now.1 (option_copied c.args.chosen) c.law.ensures.database;
    }
