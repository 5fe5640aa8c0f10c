use Rattle.proof_prelude.proofs.{ap, sym, ◌∙◌, bytes_eq, if◌then◌else◌, Some, None, string_bytes}
use Rattle.journal_core.specs.{block_hash, sum_line}
use Rattle.journal_core.proofs.{end_is}
use Rattle.journal_core.proofs.blocks.Blocks.hash_in.Goals as goal

pub returns-then-is_same : goal.returns-then-is_same
returns-then-is_same c = λ place at.
    let b = c.args.self.now in
    let seq = c.args.seq.now in
    let hash = string_bytes c.in_ok-hash.hash in
    let line = c.args.line.now in
    let h = c.in_ok-hash.ensures ∙ ap (λ z. block_hash z seq c.as_slice-2.result.now) c.as_slice.ensures.value ∙ ap (λ z. block_hash b.chain.items seq z) c.as_slice-2.ensures.value in
    let r = c.in_ok-right.ensures ∙ ap (λ z. sum_line b.count z seq) c.as_bytes.ensures.value in
    let test = sym (ap (bytes_eq line) c.as_slice-3.ensures.value) ∙ sym c.is_same.ensures ∙ c.if-is_same.true in
    sym (end_is b place line seq hash c.in_ok-right.right.items at c.requires h r ∙ ap (λ t. if t then Some hash else None) test)

pub returns-else-is_same : goal.returns-else-is_same
returns-else-is_same c = λ place at.
    let b = c.args.self.now in
    let seq = c.args.seq.now in
    let hash = string_bytes c.in_ok-hash.hash in
    let line = c.args.line.now in
    let h = c.in_ok-hash.ensures ∙ ap (λ z. block_hash z seq c.as_slice-2.result.now) c.as_slice.ensures.value ∙ ap (λ z. block_hash b.chain.items seq z) c.as_slice-2.ensures.value in
    let r = c.in_ok-right.ensures ∙ ap (λ z. sum_line b.count z seq) c.as_bytes.ensures.value in
    let test = sym (ap (bytes_eq line) c.as_slice-3.ensures.value) ∙ sym c.is_same.ensures ∙ c.if-is_same.false in
    sym (end_is b place line seq hash c.in_ok-right.right.items at c.requires h r ∙ ap (λ t. if t then Some hash else None) test)
