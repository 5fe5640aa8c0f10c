use Rattle.proof_prelude.proofs.{[], ◌++◌, map, sym, ap, ◌∙◌, append-nil}
use Rattle.rev_core.specs.{rev_text}
use Rattle.output_parser.proofs.{no_piece, pieces, pieces_first, pieces_last, read_more, revs_more}
use Rattle.output_parser.proofs.revs.read_revs.Goals as goal

pub returns-in_default-revision-clause-none : goal.returns-in_default-revision-clause-none
returns-in_default-revision-clause-none c =
    λ revs p.
    let done = c.loop-word.revs.items in
    let cut = c.in-Some.ensures.some in
    let more = c.loop-word.invariant.0 ∙ ap (λ ts. map rev_text done ++ ts) (pieces_first c.loop-word.rest.now c.in-Some.word.now c.in-Some.more.now cut.0 cut.1) in
    no_piece done revs c.in-Some.word.now (pieces c.in-Some.more.now) (sym p.listed ∙ more) p.each c.in_default-revision.ensures.none

pub loop-word-preserved : goal.loop-word-preserved
loop-word-preserved c =
    let done = c.loop-word.revs.items in
    let cut = c.in-Some.ensures.some in
    let is = c.in-Some-revision.ensures.some in
    let more = c.loop-word.invariant.0 ∙ ap (λ ts. map rev_text done ++ ts) (pieces_first c.loop-word.rest.now c.in-Some.word.now c.in-Some.more.now cut.0 cut.1) in
    rw c.in_ok-push.ensures.items
    (read_more (pieces c.args.text.now) (pieces c.in-Some.more.now) done c.in-Some-revision.rev c.in-Some.word.now more is.0, revs_more done c.in-Some-revision.rev c.loop-word.invariant.1 is.1)

pub returns-in_default-revision-2-clause-none : goal.returns-in_default-revision-2-clause-none
returns-in_default-revision-2-clause-none c =
    λ revs p.
    let done = c.loop-word.revs.items in
    let more = c.loop-word.invariant.0 ∙ ap (λ ts. map rev_text done ++ ts) (pieces_last c.loop-word.rest.now c.in_default.ensures.none) in
    no_piece done revs c.loop-word.rest.now [] (sym p.listed ∙ more) p.each c.in_default-revision-2.ensures.none

pub returns-clause-some : goal.returns-clause-some
returns-clause-some c =
    let done = c.loop-word.revs.items in
    let is = c.in-Some-revision-2.ensures.some in
    let more = c.loop-word.invariant.0 ∙ ap (λ ts. map rev_text done ++ ts) (pieces_last c.loop-word.rest.now c.in_default.ensures.none) in
    rw c.in_ok-push-2.ensures.items
    (record {
      listed = read_more (pieces c.args.text.now) [] done c.in-Some-revision-2.rev c.loop-word.rest.now more is.0 ∙ append-nil _;
      each = revs_more done c.in-Some-revision-2.rev c.loop-word.invariant.1 is.1;
    })
