-- The test of the program's filter.
use Rattle.proof_prelude.proofs.{◌≡◌, ℕ, Bool, nat_eq, List, Some, string_bytes, ap, sym, ◌∙◌, starts_with}
use Rattle.doc_json.specs.Document.{Document}
use Rattle.repl_peer.specs.{Rules, rules_refuse}

-- the test of the bytes is the filter's verdict
pub refuses-tested : (rules : Rules) (d : Document) (prefix : _) (text bytes : List ℕ) (tested expected : Bool) → rules.deny ≡ Some prefix → text ≡ d.id → bytes ≡ string_bytes prefix → tested ≡ starts_with nat_eq text bytes → tested ≡ expected → rules_refuse rules d ≡ expected
refuses-tested rules d prefix text bytes tested expected there same_text same_bytes test is =
    rw there (sym (test ∙ ap (λ t. starts_with nat_eq t bytes) same_text ∙ ap (λ b. starts_with nat_eq d.id b) same_bytes) ∙ is)
