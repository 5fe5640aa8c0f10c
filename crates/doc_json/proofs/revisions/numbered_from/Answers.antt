use Rattle.proof_prelude.proofs.{inl, inr, sym, ap, ◌∙◌, arith, Ok, option_map}
use Rattle.doc_json.proofs.{start_refused, count_refused, is_ancestry, is_read}
use Rattle.doc_json.proofs.revisions.numbered_from.Goals as goal
use Rattle.doc_json.proofs.revisions.numbered_from.Goals.{then-start-gt4294967295-via-then-start-gt4294967295, then-start-gt4294967295-via-else-start-gt4294967295+then-count-lt1, then-start-gt4294967295-via-else-start-gt4294967295+else-count-lt1+then-count-start}

pub returns-then-start-gt4294967295-clause-none : goal.returns-then-start-gt4294967295-clause-none
returns-then-start-gt4294967295-clause-none g c =
    let ids = c.args.ids.now in
    elim c.then-start-gt4294967295.branch [
      | then-start-gt4294967295-via-then-start-gt4294967295 w ↦ start_refused c.args.start _ (omega (arith, w.if-start-gt4294967295.true))
      | then-start-gt4294967295-via-else-start-gt4294967295+then-count-lt1 w ↦ count_refused g.V.JsonValue.seen c.args.start ids (inl (omega (arith, w.if-count-lt1.true)))
      | then-start-gt4294967295-via-else-start-gt4294967295+else-count-lt1+then-count-start w ↦ count_refused g.V.JsonValue.seen c.args.start ids (inr (omega (arith, w.if-count-start.true)))
    ]

pub from_revs-requires : goal.from_revs-requires
from_revs-requires g c =
    let ids = c.args.ids.now in
    is_ancestry g.V.JsonValue.seen c.args.start ids c.in-Some.revs.items (ap (option_map (λ v. v.items)) (sym c.in-Some.is) ∙ c.in_ok-revs.ensures) (omega arith) (omega arith) (omega arith)

pub returns-in-Some-clause-some : goal.returns-in-Some-clause-some
returns-in-Some-clause-some g c =
    let ids = c.args.ids.now in
    is_read g.V.JsonValue.seen c.args.start ids c.in-Some.revs.items (ap (option_map (λ v. v.items)) (sym c.in-Some.is) ∙ c.in_ok-revs.ensures) (omega arith) (omega arith) (omega arith)
    ∙ ap Ok (sym c.from_revs.ensures)
