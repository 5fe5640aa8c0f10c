use Rattle.proof_prelude.proofs.{◌≡◌, ◌++◌, [], Some, ap, ◌∙◌, sym, subst, refl, false, append-nil, Appends, Appends-kept, Appends-nil, Appends-trans, Keeps-refl}
use Rattle.script_engine.specs.{counted, chunk_of}
use Rattle.script_engine.proofs.{a_chunk, no_chunk}
use Rattle.response_parser.specs.State.{State}
use Rattle.response_parser.specs.{after, front_length_of, front_of, is_refused, start, state_of}
use Rattle.response_output.specs.{IsWhole, Tracks, ended_of, words_of_wording}
use Rattle.response_output.specs.declared.run.AnswerFault.TheVariants.{Device}
use Rattle.response_output.proofs.{Converts-end, Converts-refused, Ran-fed, Stopped-within, Ran-none, start_going, Ran-more, Ran-end, Stopped-before, Stopped-in, Answered-end, Stopped-end, Stopped-refused, Tracks-begun, Tracks-refused, Tracks-same, Tracks-start}
use Rattle.response_output.proofs.run.run_chunks.Goals as goal

pub loop-more-init : goal.loop-more-init
loop-more-init g c =
    let w = words_of_wording c.args.wording.now in
    let wanted = (state_of c.args.reading.now).wanted in
    let held = g.W.ScriptWrite.held c.args.writer.now in
    record {
      so_far = (
        start wanted,
        [],
        subst (λ z. Tracks (start wanted) z (front_of c.args.front.now) (front_length_of c.args.front.now) w []) (sym c.requires.begins) (Tracks-start (start wanted) (front_of c.args.front.now) (front_length_of c.args.front.now) w c.requires.nothing),
        Ran-none wanted w (g.R.ScriptRead.left c.args.reader.now) held,
        ([], Appends-nil (g.R.ScriptRead.taken c.args.reader.now), Ran-none wanted w (Some []) held),
      );
      going = subst (λ (z : State). is_refused z.place ≡ false) (sym c.requires.begins) (start_going wanted);
      chunks = c.requires.room;
      reads = record { made = ap (counted (g.R.ScriptRead.reads c.args.reader.now)) (sym c.requires.unread); unfailing = refl };
      writer = refl;
    }

pub returns-in-Err-clause-fault : goal.returns-in-Err-clause-fault
returns-in-Err-clause-fault g c =
    let i = c.loop-more.invariant.so_far in
    Stopped-before i.3 i.2 c.in-Err.fault (g.R.ScriptRead.left c.next.new.reader) c.in-Err.ensures.kept (subst (λ f. IsWhole f []) (sym c.in-Err.ensures.fault) refl)

pub returns-then-not-more-clause-ok : goal.returns-then-not-more-clause-ok
returns-then-not-more-clause-ok g c =
    let i = c.loop-more.invariant.so_far in
    let none = no_chunk (g.R.ScriptRead.left c.loop-more.reader) (g.R.ScriptRead.left c.next.new.reader) (chunk_of c.next.new.self) c.if-not-more.true c.in-Ok.ensures.chunk in
    Answered-end (Ran-end i.3 (g.R.ScriptRead.left c.next.new.reader) none.0) (g.W.ScriptWrite.held c.finish.new.writer) c.finish.result none.1 (Tracks-refused i.2 ∙ c.loop-more.invariant.going) (c.finish.ensures.finishes i.0 i.1 i.2)

pub returns-then-not-more-clause-fault : goal.returns-then-not-more-clause-fault
returns-then-not-more-clause-fault g c =
    let i = c.loop-more.invariant.so_far in
    let none = no_chunk (g.R.ScriptRead.left c.loop-more.reader) (g.R.ScriptRead.left c.next.new.reader) (chunk_of c.next.new.self) c.if-not-more.true c.in-Ok.ensures.chunk in
    Stopped-end (Ran-end i.3 (g.R.ScriptRead.left c.next.new.reader) none.0) (g.W.ScriptWrite.held c.finish.new.writer) c.finish.result none.1 (Tracks-refused i.2 ∙ c.loop-more.invariant.going) (c.finish.ensures.finishes i.0 i.1 i.2)

pub returns-in-Err-feed-clause-fault : goal.returns-in-Err-feed-clause-fault
returns-in-Err-feed-clause-fault g c =
    let i = c.loop-more.invariant.so_far in
    let some = a_chunk (g.R.ScriptRead.left c.loop-more.reader) (g.R.ScriptRead.left c.next.new.reader) (chunk_of c.next.new.self) c.bytes.result.now c.if-not-more.false c.bytes.ensures c.in-Ok.ensures.chunk in
    Stopped-in i.3 c.in-Err-feed.fault (g.R.ScriptRead.left c.next.new.reader) (g.W.ScriptWrite.held c.feed.new.writer) c.bytes.result.now some.0 (c.in-Err-feed.ensures.err i.0 i.1 i.2)

pub returns-then-is_refused-clause-fault : goal.returns-then-is_refused-clause-fault
returns-then-is_refused-clause-fault g c =
    let i = c.loop-more.invariant.so_far in
    let f = c.in-Ok-feed.ensures.ok i.0 i.1 i.2 in
    let some = a_chunk (g.R.ScriptRead.left c.loop-more.reader) (g.R.ScriptRead.left c.next.new.reader) (chunk_of c.next.new.self) c.bytes.result.now c.if-not-more.false c.bytes.ensures c.in-Ok.ensures.chunk in
    Stopped-refused (Ran-more i.3 c.bytes.result.now some.0 f) c.ended.result (Tracks-begun f.tracks) (c.ended.ensures ∙ sym (ap ended_of (Tracks-same f.tracks))) (Tracks-refused f.tracks ∙ sym c.is_refused.ensures ∙ c.if-is_refused.true)

pub loop-more-preserved : goal.loop-more-preserved
loop-more-preserved g c =
    let i = c.loop-more.invariant.so_far in
    let f = c.in-Ok-feed.ensures.ok i.0 i.1 i.2 in
    let some = a_chunk (g.R.ScriptRead.left c.loop-more.reader) (g.R.ScriptRead.left c.next.new.reader) (chunk_of c.next.new.self) c.bytes.result.now c.if-not-more.false c.bytes.ensures c.in-Ok.ensures.chunk in
    record {
      so_far = (
        after i.0 c.bytes.result.now,
        f.part',
        f.tracks,
        Ran-more i.3 c.bytes.result.now some.0 f,
        (
          i.4.0 ++ c.bytes.result.now,
          Appends-trans _ _ _ i.4.0 c.bytes.result.now i.4.1 (subst (Appends (g.R.ScriptRead.taken c.loop-more.reader) (g.R.ScriptRead.taken c.next.new.reader)) (sym c.bytes.ensures) c.in-Ok.ensures.took),
          Ran-fed i.4.2 c.bytes.result.now f,
        ),
      );
      going = sym c.is_refused.ensures ∙ c.if-is_refused.false;
      chunks = c.in-Ok.ensures.room;
      reads = c.in-Ok.ensures.reads _ _ c.loop-more.invariant.reads;
      writer = c.in-Ok-feed.ensures.counted ∙ c.loop-more.invariant.writer;
    }

-- ---- for the bytes that the reads returned

pub returns-in-Err-clause-took : goal.returns-in-Err-clause-took
returns-in-Err-clause-took g c =
    let i = c.loop-more.invariant.so_far in
    (i.4.0, Appends-kept _ _ _ i.4.0 i.4.1 c.in-Err.ensures.none_taken, Stopped-before i.4.2 i.2 c.in-Err.fault (Some []) (Keeps-refl (Some [])) (subst (λ f. IsWhole f []) (sym c.in-Err.ensures.fault) refl))

pub returns-then-not-more-clause-took : goal.returns-then-not-more-clause-took
returns-then-not-more-clause-took g c =
    let i = c.loop-more.invariant.so_far in
    let none = no_chunk (g.R.ScriptRead.left c.loop-more.reader) (g.R.ScriptRead.left c.next.new.reader) (chunk_of c.next.new.self) c.if-not-more.true c.in-Ok.ensures.chunk in
    let took = subst (λ l. Appends (g.R.ScriptRead.taken c.args.reader.now) (g.R.ScriptRead.taken c.next.new.reader) l) (ap (λ l. i.4.0 ++ l) none.2 ∙ append-nil i.4.0) (Appends-trans _ _ _ i.4.0 (chunk_of c.next.new.self) i.4.1 c.in-Ok.ensures.took) in
    (i.4.0, took, Converts-end i.4.2 (g.W.ScriptWrite.held c.finish.new.writer) c.finish.result (Tracks-refused i.2 ∙ c.loop-more.invariant.going) (c.finish.ensures.finishes i.0 i.1 i.2))

pub returns-in-Err-feed-clause-took : goal.returns-in-Err-feed-clause-took
returns-in-Err-feed-clause-took g c =
    let i = c.loop-more.invariant.so_far in (
      i.4.0 ++ c.bytes.result.now,
      Appends-trans _ _ _ i.4.0 c.bytes.result.now i.4.1 (subst (Appends (g.R.ScriptRead.taken c.loop-more.reader) (g.R.ScriptRead.taken c.next.new.reader)) (sym c.bytes.ensures) c.in-Ok.ensures.took),
      Stopped-within i.4.2 c.in-Err-feed.fault (g.W.ScriptWrite.held c.feed.new.writer) c.bytes.result.now (c.in-Err-feed.ensures.err i.0 i.1 i.2),
    )

pub returns-then-is_refused-clause-took : goal.returns-then-is_refused-clause-took
returns-then-is_refused-clause-took g c =
    let i = c.loop-more.invariant.so_far in
    let f = c.in-Ok-feed.ensures.ok i.0 i.1 i.2 in (
      i.4.0 ++ c.bytes.result.now,
      Appends-trans _ _ _ i.4.0 c.bytes.result.now i.4.1 (subst (Appends (g.R.ScriptRead.taken c.loop-more.reader) (g.R.ScriptRead.taken c.next.new.reader)) (sym c.bytes.ensures) c.in-Ok.ensures.took),
      Converts-refused (Ran-fed i.4.2 c.bytes.result.now f) c.ended.result (Tracks-begun f.tracks) (c.ended.ensures ∙ sym (ap ended_of (Tracks-same f.tracks))) (Tracks-refused f.tracks ∙ sym c.is_refused.ensures ∙ c.if-is_refused.true),
    )
