use Rattle.proof_prelude.proofs.{◌≡◌, ◌==◌, ◌++◌, ℕ, List, [], ◌∷◌, length, true, false, take, arith, ◌∙◌, refl, sym, ap, subst, append-nil, common_steps}
use Rattle.response_parser.specs.{after, front_length_of, front_of, state_of}
use Rattle.response_output.specs.{Breaks, Feeds, words_of_wording}
use Rattle.response_output.proofs.{Breaks-behind, Feeds-joined, Feeds-none}
use Rattle.response_output.proofs.run.feed.Goals as goal

pub loop-rest-init : goal.loop-rest-init
loop-rest-init g c = ([], refl, (λ s part t. Feeds-none (g.W.ScriptWrite.held c.args.writer.now) t), refl)

pub returns-in-Err-clause-err : goal.returns-in-Err-clause-err
returns-in-Err-clause-err g c = λ s part t.
    let i = c.loop-rest.invariant in
    let p = i.2 s part t in
    subst (λ l. Breaks c.in-Err.fault s (words_of_wording c.args.wording.now) part l (g.W.ScriptWrite.held c.args.writer.now) (g.W.ScriptWrite.held c.feed_some.new.writer)) (sym i.1)
    (Breaks-behind p c.in-Err.fault c.loop-rest.rest.now (g.W.ScriptWrite.held c.feed_some.new.writer) (c.in-Err.ensures.err (after s i.0) p.part' p.tracks))

pub loop-rest-preserved : goal.loop-rest-preserved
loop-rest-preserved g c =
    let i = c.loop-rest.invariant in
    let some = take c.in-Ok.count c.loop-rest.rest.now in
    (i.0 ++ some, grind (arith, common_steps, i.1), (λ s part t. let p = i.2 s part t in Feeds-joined p (c.in-Ok.ensures.ok (after s i.0) p.part' p.tracks)), c.in-Ok.ensures.counted ∙ i.3)

some : (b : ℕ) (l : List ℕ) → (length (b ∷ l) == 0) ≡ false
some b l = grind arith

empty : (l : List ℕ) → (length l == 0) ≡ true → l ≡ []
empty [] h = refl
empty (b ∷ l) h = let no = sym h ∙ some b l in absurd (cc)

pub returns-clause-ok : goal.returns-clause-ok
returns-clause-ok g c = λ s part t.
    let i = c.loop-rest.invariant in
    let none = empty c.loop-rest.rest.now (sym c.is_empty.ensures ∙ c.loop-rest-test.false) in
    let same : i.0 ≡ c.args.bytes.now = sym (append-nil i.0) ∙ ap (λ l. i.0 ++ l) (sym none) ∙ sym i.1 in
    subst (λ l. Feeds s (words_of_wording c.args.wording.now) part l (state_of c.loop-rest.reading) (front_of c.loop-rest.front) (front_length_of c.loop-rest.front) (words_of_wording c.loop-rest.wording) (g.W.ScriptWrite.held c.args.writer.now) (g.W.ScriptWrite.held c.loop-rest.writer)) same
    (i.2 s part t)
