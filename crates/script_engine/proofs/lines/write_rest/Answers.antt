use Rattle.proof_prelude.proofs.{◌++◌, [], sym, ap, ◌∙◌, append_assoc, if◌then◌else◌, Appends-trans}
use Rattle.script_engine.proofs.{write_not_cut}
use Rattle.script_engine.proofs.lines.write_rest.Goals as goal

pub returns-in-Err-clause-cut : goal.returns-in-Err-clause-cut
returns-in-Err-clause-cut g c =
    let i = c.loop-more.invariant in
    λ e. (i.written.0, g.S.Serve.left c.args.server.now c.loop-more.rest, i.written.2, i.written.1, i.left)

pub returns-in-Err-write_all-clause-cut : goal.returns-in-Err-write_all-clause-cut
returns-in-Err-write_all-clause-cut g c = λ e. absurd (write_not_cut (sym c.in-Err-write_all.ensures.fault ∙ e))

pub returns-in-Err-write_all-clause-err : goal.returns-in-Err-write_all-clause-err
returns-in-Err-write_all-clause-err g c =
    let i = c.loop-more.invariant.written in
    let part = c.in-Err-write_all.ensures.err in
    let tail = if c.in-Ok.more then g.S.Serve.left c.args.server.now c.more.new.rest else [] in (
      i.0 ++ part.0,
      part.1 ++ tail,
      i.2
          ∙ ap (λ t. i.0 ++ t) (sym c.in-Ok.ensures.piece)
          ∙ ap (λ t. i.0 ++ (t ++ tail)) (sym c.as_slice.ensures.value ∙ part.2)
          ∙ ap (λ t. i.0 ++ t) (append_assoc part.0 part.1 tail)
          ∙ sym (append_assoc i.0 part.0 (part.1 ++ tail)),
      Appends-trans _ _ _ i.0 part.0 i.1 part.3,
    )

pub loop-more-preserved : goal.loop-more-preserved
loop-more-preserved g c =
    let i = c.loop-more.invariant.written in
    let ok = c.in-Ok-write_all.ensures.ok in
    let left = g.S.Serve.left c.args.server.now c.more.new.rest in
    let bytes = c.as_slice.result.now in
    let tail = if c.in-Ok.more then left else [] in
    record {
      fits = c.in-Ok.ensures.fits;
      left = (c.in-Ok.ensures.some c.if-not-more.false).1;
      written = (
        i.0 ++ bytes,
        Appends-trans _ _ _ i.0 bytes i.1 ok.0,
        i.2
            ∙ ap (λ t. i.0 ++ t) (sym c.in-Ok.ensures.piece)
            ∙ ap (λ t. i.0 ++ (t ++ tail)) (sym c.as_slice.ensures.value)
            ∙ sym (append_assoc i.0 bytes tail)
            ∙ ap (λ more. (i.0 ++ bytes) ++ (if more then left else [])) c.if-not-more.false,
      );
      counted = ok.1 ∙ c.loop-more.invariant.counted;
    }
