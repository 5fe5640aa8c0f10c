use Rattle.proof_prelude.proofs.{ℕ, Vec, Global, ap, sym, refl, ◌∙◌, arith, length, option_map, string_bytes}
use Rattle.journal_core.proofs.{at_closed}
use Rattle.journal_core.proofs.blocks.Blocks.close.Goals as goal

pub returns : goal.returns
returns c = λ place at whole.
    let h = sym (c.in_ok-hash.ensures place at) ∙ ap (option_map string_bytes) c.in-Some.is in
    let old = c.args.self.now in
    let items = λ (v : Vec ℕ Global). v.items in
    at_closed old _ place c.args.line.now (string_bytes c.in-Some.hash) c.replace.result.items at h (c.in_ok-self-3.ensures.items ∙ c.as_bytes.ensures.value) c.in_ok-seq.ensures (ap items c.replace.ensures.after ∙ c.new.ensures.items) refl
    (omega (arith, c.in_ok-bytes.ensures, c.in_ok-self.ensures, ap length c.as_slice-2.ensures.value)) (omega (arith, c.in_ok-lines.ensures, c.in_ok-self-2.ensures)) (at.whole ∙ whole) (ap items c.replace.ensures.value)
