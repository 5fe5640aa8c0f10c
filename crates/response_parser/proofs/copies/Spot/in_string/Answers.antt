use Rattle.proof_prelude.proofs.{sym, subst}
use Rattle.response_parser.specs.Runs.{Continues}
use Rattle.response_parser.proofs.{continues_run, continues_then}
use Rattle.response_parser.proofs.copies.Spot.in_string.Goals as goal

pub returns-then-bytes-end-lt2-clause-continues : goal.returns-then-bytes-end-lt2-clause-continues
returns-then-bytes-end-lt2-clause-continues c =
    let s = c.args.self in
    let b = c.args.bytes.now in
    subst (λ q. Continues b s.count q s.nesting c.plain_end-end.result q s.nesting) (sym c.requires.quoted) (continues_run b s.count s.nesting c.plain_end-end.result c.plain_end-end.ensures.value)

pub returns-else-bytes-end-lt2-clause-continues : goal.returns-else-bytes-end-lt2-clause-continues
returns-else-bytes-end-lt2-clause-continues c =
    let s = c.args.self in
    let b = c.args.bytes.now in
    let r = c.after_string.result in
    let run = subst (λ q. Continues b s.count q s.nesting c.plain_end-end.result q s.nesting) (sym c.requires.quoted) (continues_run b s.count s.nesting c.plain_end-end.result c.plain_end-end.ensures.value) in
    continues_then b s.count c.plain_end-end.result r.count s.quoted s.quoted r.quoted s.nesting s.nesting r.nesting run c.after_string.ensures.continues
