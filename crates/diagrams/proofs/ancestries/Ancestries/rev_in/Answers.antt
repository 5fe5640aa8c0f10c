use Rattle.proof_prelude.proofs.{◌+◌, ◌-◌, ◌<◌, ◌≡◌, ◌∙◌, ap, arith, slice_get, suc}
use Rattle.diagrams.specs.Branches.{count_of}
use Rattle.diagrams.proofs.BranchLemmas.{copied, stored_at, stored_later, stored_before, stored_none}
use Rattle.diagrams.proofs.ancestries.Ancestries.rev_in.Goals as goal

pub returns-in_default : goal.returns-in_default
returns-in_default c = stored_none c.args.self.now.branches.entries c.args.self.now.linked c.args.branch c.args.index c.in_default.ensures.entry

pub returns-then-index-before : goal.returns-then-index-before
returns-then-index-before c =
    let low : c.args.index < count_of c.in-Some.start.now.from = omega arith in
    stored_before c.args.self.now.branches.entries c.args.self.now.linked c.args.branch c.args.index (c.in-Some.start.now, c.in-Some.rest.now) c.in-Some.ensures.entry low

pub returns-then-index-before-2 : goal.returns-then-index-before-2
returns-then-index-before-2 c =
    stored_at c.args.self.now.branches.entries c.args.self.now.linked c.args.branch c.args.index 0 (c.in-Some.start.now, c.in-Some.rest.now) c.in-Some.ensures.entry (omega arith)

pub returns : goal.returns
returns c =
    let k = c.args.index - c.count_of-before.result - 1 in
    let after : c.args.index ≡ count_of c.in-Some.start.now.from + suc k = omega arith in
    copied c.as_slice.result.now k c.get.result c.get.ensures.lookup
    ∙ ap (λ l. slice_get l k) c.as_slice.ensures.value
    ∙ stored_later c.args.self.now.branches.entries c.args.self.now.linked c.args.branch c.args.index k (c.in-Some.start.now, c.in-Some.rest.now) c.in-Some.ensures.entry after
