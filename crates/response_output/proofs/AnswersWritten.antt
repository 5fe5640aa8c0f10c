-- The output for texts that are responses, or lines, by their grammar.
use Rattle.proof_prelude.proofs.{◌≡◌, ℕ, List, [], ◌∷◌, ◌++◌, Bool, true, false, cond, refl, sym, ap, subst, ◌∙◌, append_assoc, append-nil, inl, inr, Result, Ok, Err, Option, Some, IfOk, IfErr, Appends}
use Rattle.script_engine.specs.{Gives}
use Rattle.response_parser.specs.{wants_documents, is_strict, start, step, is_refused, after, pieces, Piece, end_of, has_rest, last_end, whole, IsAnswered, IsChangeScript, Place, Refusal}
use Rattle.response_parser.specs.State.{State}
use Rattle.response_parser.specs.LineGrammar.{IsScript}
use Rattle.response_parser.specs.FeedGrammar.{AreLeaves}
use Rattle.response_output.specs.Words.{Words}
use Rattle.response_output.specs.{Answered, Converts, IsBegun, Stopped, ReadsAnswers, all_text, ended_of, judged_by, AnswerFault}
use Rattle.response_parser.specs.declared.place.Place.TheVariants.{Between, Refused}
use Rattle.response_parser.specs.declared.place.Wanted.{Wanted}
use Rattle.response_parser.specs.declared.place.Wanted.TheVariants.{Changes, Leaves}
use Rattle.response_output.specs.declared.run.AnswerFault.TheVariants.{Device, LateMember, Refused as Refusing}
use Rattle.response_output.proofs.Running.{Ran, Stopped-refused}
use Rattle.response_parser.proofs.{after-append, pieces-append, answers_read, changes_read, leaves_read, lines_read, ends_lines, lines_end, stood_before, line_end_given}

refused_is : (p : Place) → is_refused p ≡ true → (why : Refusal) × (p ≡ Refused why)
refused_is (Refused why) h = (why, refl)
refused_is _ h = absurd (cc)

stays_once : (s : State) (why : Refusal) (b : ℕ) → is_refused (step (record s { place = Refused why }) b).place ≡ true
unfolding step
stays_once s why b = refl

refused_stays : (s : State) (bytes : List ℕ) → is_refused s.place ≡ true → is_refused (after s bytes).place ≡ true
refused_stays s [] h = h
refused_stays s (b ∷ bytes) h =
    let is = refused_is s.place h in
    let same : s ≡ record s { place = Refused is.0 } = λ i. record s { place = is.1 i } in
    refused_stays (step s b) bytes (subst (λ z. is_refused (step z b).place ≡ true) (sym same) (stays_once s is.0 b))

pub given_text : (left : Option (List ℕ)) (t bytes : List ℕ) → left ≡ Some t → Gives left bytes → t ≡ bytes
given_text left t bytes e g = subst (λ (o : Option (List ℕ)). Gives o bytes) e g

ok_err : {why : Refusal} (o : Result (Unit {0}) Refusal) → o ≡ Ok tt → o ≡ Err why → ⊥
ok_err o e f = let clash = sym e ∙ f in absurd (cc)

refused_not_ok : (p : Place) → is_refused p ≡ true → end_of p ≡ Ok tt → ⊥
refused_not_ok p h e = let is = refused_is p h in ok_err (end_of p) e (ap end_of is.1)

-- a text that is parsed to its end, and contains these items
module _ (wanted : Wanted) (t : List ℕ) (ps : List Piece) (well : end_of (after (start wanted) (whole (start wanted) t)).place ≡ Ok tt) (holds : pieces (start wanted) (whole (start wanted) t) ≡ ps) where
  reads_all : (w : Words) (left held held' : Option (List ℕ)) (x : Result ℕ AnswerFault) → left ≡ Some t → IfOk x (Answered wanted w left held held') → IfErr x (Stopped wanted w left held held') → ReadsAnswers w ps held held' x
  reads_all w left held held' (Ok passed) e ok err =
      let all : ok.0 ≡ whole (start wanted) t = ok.1.2 ∙ ap (whole (start wanted)) (sym (given_text left t ok.1.0 e ok.1.1)) in
      subst (λ z. Appends held held' (all_text w z)) (ap (pieces (start wanted)) all ∙ holds) ok.2
  reads_all w left held held' (Err (Refusing why at)) e ok (bytes, inl (rest, gives, refused), begun, ended, taken) =
      let tail = last_end (after (start wanted) t) in
      let same : whole (start wanted) t ≡ bytes ++ (rest ++ tail) = ap (λ l. l ++ tail) (given_text left t (bytes ++ rest) e gives) ∙ append_assoc bytes rest tail in
      let bad = subst (λ (z : State). is_refused z.place ≡ true) (sym (after-append (start wanted) bytes (rest ++ tail))) (refused_stays (after (start wanted) bytes) (rest ++ tail) refused) in
      absurd (refused_not_ok (after (start wanted) (whole (start wanted) t)).place (subst (λ z. is_refused (after (start wanted) z).place ≡ true) (sym same) bad) well)
  reads_all w left held held' (Err (Refusing why at)) e ok (bytes, inr (input, gives, is, going), begun, ended, taken) =
      let all : bytes ≡ whole (start wanted) t = is ∙ ap (whole (start wanted)) (sym (given_text left t input e gives)) in
      absurd (ok_err (end_of (after (start wanted) (whole (start wanted) t)).place) well (ap (λ z. end_of (after (start wanted) z).place) (sym all) ∙ ended))
  reads_all w left held held' (Err (LateMember at)) e ok (read, (input, gives, is), q) =
      let all : read ≡ whole (start wanted) t = is ∙ ap (whole (start wanted)) (sym (given_text left t input e gives)) in (
        pieces (start wanted) q.front,
        pieces (after (start wanted) q.front) (q.last ∷ q.behind),
        q.begun,
        sym holds ∙ ap (pieces (start wanted)) (sym all ∙ q.bytes_are) ∙ pieces-append (start wanted) q.front (q.last ∷ q.behind),
        subst (Appends held held') q.text_is q.written,
      )
  reads_all w left held held' (Err (Device fault)) e ok err = tt

-- ---- CouchDB responses

whole_text : (w : Wanted) (t : List ℕ) → (after (start w) t).place ≡ Between → whole (start w) t ≡ t
whole_text w t e = ap (λ p. t ++ cond (has_rest p) (10 ∷ []) []) e ∙ append-nil t

pub reads_answers : (wanted : Wanted) → wants_documents wanted ≡ true → is_strict wanted ≡ false → (w : Words) (left held held' : Option (List ℕ)) (x : Result ℕ AnswerFault)
    → IfOk x (Answered wanted w left held held') → IfErr x (Stopped wanted w left held held')
    → (t : List ℕ) (ps : List Piece) → left ≡ Some t → IsAnswered wanted t ps → ReadsAnswers w ps held held' x
reads_answers wanted docs lenient w left held held' x ok err t ps e h =
    let read = answers_read wanted docs lenient t ps h in
    let all = whole_text wanted t read.0 in
    reads_all wanted t ps (ap (λ z. end_of (after (start wanted) z).place) all ∙ ap end_of read.0) (ap (pieces (start wanted)) all ∙ read.1) w left held held' x e ok err

-- ---- leaves

pub reads_leaves : (wanted : Wanted) → wanted ≡ Leaves → (w : Words) (left held held' : Option (List ℕ)) (x : Result ℕ AnswerFault)
    → IfOk x (Answered wanted w left held held') → IfErr x (Stopped wanted w left held held')
    → (t : List ℕ) (ps : List Piece) → left ≡ Some t → AreLeaves t ps → ReadsAnswers w ps held held' x
reads_leaves wanted is w left held held' x ok err t ps e h =
    let read = subst (λ z. ((after (start z) t).place ≡ Between) × (pieces (start z) t ≡ ps)) (sym is) (leaves_read t ps h) in
    let all = whole_text wanted t read.0 in
    reads_all wanted t ps (ap (λ z. end_of (after (start wanted) z).place) all ∙ ap end_of read.0) (ap (pieces (start wanted)) all ∙ read.1) w left held held' x e ok err

-- ---- script output

-- the last line with or without its end, if a line end is added
module _ (wanted : Wanted) (t : List ℕ) (ps : List Piece) (well : (p : Place) × ((after (start wanted) (t ++ 10 ∷ [])).place ≡ p) × (ends_lines p ≡ true)) (holds : pieces (start wanted) (t ++ 10 ∷ []) ≡ ps) where
  lines_whole : (rest : Bool) → has_rest (after (start wanted) t).place ≡ rest
      → (end_of (after (start wanted) (whole (start wanted) t)).place ≡ Ok tt) × (pieces (start wanted) (whole (start wanted) t) ≡ ps)
  lines_whole true e =
      let all : whole (start wanted) t ≡ t ++ 10 ∷ [] = ap (λ b. t ++ cond b (10 ∷ []) []) e in
      (ap (λ z. end_of (after (start wanted) z).place) all ∙ ap end_of well.1 ∙ lines_end well.0 well.2, ap (pieces (start wanted)) all ∙ holds)
  lines_whole false e =
      let s = after (start wanted) t in
      let all : whole (start wanted) t ≡ t = ap (λ b. t ++ cond b (10 ∷ []) []) e ∙ append-nil t in
      let line : (step s 10).place ≡ well.0 = ap (λ (z : State). z.place) (sym (after-append (start wanted) t (10 ∷ []))) ∙ well.1 in
      let stood = stood_before s (ap ends_lines line ∙ well.2) e in
      let none = line_end_given s stood in
      let same : pieces (start wanted) t ≡ ps =
      sym (append-nil (pieces (start wanted) t)) ∙ ap (λ l. pieces (start wanted) t ++ (l ++ [])) (sym none) ∙ sym (pieces-append (start wanted) t (10 ∷ [])) ∙ holds in
      (ap (λ z. end_of (after (start wanted) z).place) all ∙ lines_end s.place stood, ap (pieces (start wanted)) all ∙ same)

  reads_lines : (w : Words) (left held held' : Option (List ℕ)) (x : Result ℕ AnswerFault) → left ≡ Some t → IfOk x (Answered wanted w left held held') → IfErr x (Stopped wanted w left held held') → ReadsAnswers w ps held held' x
  reads_lines w left held held' x e ok err = let read = lines_whole (has_rest (after (start wanted) t).place) refl in reads_all wanted t ps read.0 read.1 w left held held' x e ok err

pub reads_script : (wanted : Wanted) → wants_documents wanted ≡ true → is_strict wanted ≡ true → (w : Words) (left held held' : Option (List ℕ)) (x : Result ℕ AnswerFault)
    → IfOk x (Answered wanted w left held held') → IfErr x (Stopped wanted w left held held')
    → (t : List ℕ) (ps : List Piece) → left ≡ Some t → IsScript wanted t ps → ReadsAnswers w ps held held' x
reads_script wanted docs strict w left held held' x ok err t ps e h = let read = lines_read wanted docs strict (t ++ 10 ∷ []) ps h in reads_lines wanted t ps read.0 read.1 w left held held' x e ok err

pub reads_changes : (wanted : Wanted) → wanted ≡ Changes → (w : Words) (left held held' : Option (List ℕ)) (x : Result ℕ AnswerFault)
    → IfOk x (Answered wanted w left held held') → IfErr x (Stopped wanted w left held held')
    → (t : List ℕ) (ps : List Piece) → left ≡ Some t → IsChangeScript t ps → ReadsAnswers w ps held held' x
reads_changes wanted is w left held held' x ok err t ps e h = let read = changes_read wanted is (t ++ 10 ∷ []) ps h in reads_lines wanted t ps read.0 read.1 w left held held' x e ok err

-- ---- a run that ended at a rejected byte

converts_by : (wanted : Wanted) (w : Words) (left held held' : Option (List ℕ)) (o : Result (Unit {0}) Refusal) (x : Result ℕ AnswerFault) (passed taken : ℕ) → x ≡ judged_by passed taken o → (o ≡ Ok tt → ⊥) → IfErr x (Stopped wanted w left held held') → Converts x wanted w left held held'
converts_by wanted w left held held' (Ok u) x passed taken is bad h = absurd (bad refl)
converts_by wanted w left held held' (Err why) x passed taken is bad h =
    subst (λ z. Converts z wanted w left held held') (sym is) (subst (λ z. IfErr z (Stopped wanted w left held held')) is h)

pub Converts-refused : {wanted : Wanted} {w : Words} {s : State} {w' : Words} {part : List ℕ} {left left' held held' : Option (List ℕ)} (r : Ran wanted w s w' part left left' held held') (x : Result ℕ AnswerFault) → IsBegun s w' part → x ≡ ended_of s → is_refused s.place ≡ true → Converts x wanted w left held held'
Converts-refused {wanted} {w} {s} {left = left} {held = held} {held'} r x b is h =
    converts_by wanted w left held held' (end_of s.place) x s.passed s.taken is (refused_not_ok s.place h) (Stopped-refused r x b is h)
