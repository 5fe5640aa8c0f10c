use Rattle.proof_prelude.proofs.{ℕ, List, ◌++◌, false, nat_lt, take, ap, sym, ◌∙◌, append_assoc}
use Rattle.serde_json.specs.Written.{comma_if}
use Rattle.repl_log.specs.{EntryValue, value_of, listed}
use Rattle.repl_log.proofs.{entry_text, listed_more}
use Rattle.repl_log.proofs.written.push_entries.Goals as goal

pub loop-i-preserved : goal.loop-i-preserved
loop-i-preserved c =
    let log : List EntryValue = c.args.log.now in
    let start : List ℕ = c.args.out.now.items in
    let i = c.loop-i.i in
    let comma : List ℕ = comma_if (nat_lt 0 i) in
    let entry : List ℕ = entry_text (value_of c.in-Some.entry) in
    let before : List ℕ = listed false (take i log) in
    c.in_ok-push_entry.ensures
    ∙ ap (λ l. l ++ entry) (c.in_ok-push_comma.ensures ∙ ap (λ l. l ++ comma) c.loop-i.invariant)
    ∙ append_assoc (start ++ before) comma entry
    ∙ append_assoc start before (comma ++ entry)
    ∙ ap (λ l. start ++ l) (sym (listed_more log i (value_of c.in-Some.entry) (sym c.in-Some.ensures)))
