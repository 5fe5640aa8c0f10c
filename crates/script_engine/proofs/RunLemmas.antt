-- A script as far as it was read.
use Rattle.proof_prelude.proofs.{inl, inr, ◌≡◌, Bool, ℕ, ◌+◌, ◌*◌, ◌<◌, ◌≤◌, List, [], ◌++◌, length, true, false, refl, sym, ap, subst, ◌∙◌, arith, append_assoc, append-nil, length-append, Option, Some, None, unwrap_or, min, Consumes, Appends, Keeps, IsAtEnd, Appends-nil, Appends-trans, Appends-kept, Consumes-nil, Consumes-trans, Consumes-kept}
use Rattle.script_engine.specs.{ReadsChunk, Gives, full, FeedsUntil, IsInAnswer, IsOfWriter, IsFaultOf, IsToldUntil, LeavesAs, ScriptFault, has_line_end, lines_of, Answering, AnswersEnded, IsAnswered, IsAnsweredSoFar, AnswersFirst, Place, start, Begins, Cuts, Feeds, Finishes, FinishesCut, FinishesInPart}
use Rattle.script_engine.specs.declared.fault.ScriptFault.TheVariants.{Read, Write, Memory, Cut}
use Rattle.script_engine.specs.Served.{Served}
use Rattle.script_engine.proofs.CutLemmas.{Cuts-begins, Cuts-joined, Cuts-more, answers_cut}
use Rattle.script_engine.proofs.ServedLemmas.{Served-none, Served-joined, Begins-joined, Begins-more, is_answered, is_answered_so_far}

-- these bytes were read in this number of reads, and run, and their output is written
pub record Ran {S : Type 0} (f : Answering S (List ℕ)) (g : S) (p : Place S) (left left' held held' : Option (List ℕ)) (turns : ℕ) : Type 0 where
  pub input : List ℕ
  pub text : List ℕ
  pub served : Served f (start g) input p text
  pub taken : Consumes left left' input
  pub written : Appends held held' text
  pub few : length input ≤ 65536 * turns

-- ---- known bytes

-- the bytes that were read and those that are left are all bytes
pub Gives-left : (a b : Option (List ℕ)) (x : List ℕ) → Consumes a b x → Gives a (x ++ unwrap_or b [])
Gives-left None b x p = tt
Gives-left (Some a) None x p = absurd p
Gives-left (Some a) (Some b) x p = p

pub Gives-end : (a b : Option (List ℕ)) (x : List ℕ) → Consumes a b x → IsAtEnd b → Gives a x
Gives-end None b x p e = tt
Gives-end (Some a) None x p e = absurd p
Gives-end (Some a) (Some b) x p e = p ∙ ap (λ z. x ++ z) e ∙ append-nil x

-- ---- a chunk

-- the reader was at its end
pub no_chunk : {more : Bool} (left left' : Option (List ℕ)) (chunk : List ℕ) → more ≡ false → ReadsChunk more left left' chunk → Keeps left left' × IsAtEnd left' × (chunk ≡ [])
no_chunk left left' chunk e h = subst (λ b. ReadsChunk b left left' chunk) e h

-- there was a chunk
pub a_chunk : {more : Bool} (left left' : Option (List ℕ)) (chunk bytes : List ℕ) → more ≡ true → bytes ≡ chunk → ReadsChunk more left left' chunk → Consumes left left' bytes × (0 < length bytes) × (length bytes ≤ 65536)
a_chunk left left' chunk bytes e is h = subst (ReadsChunk true left left') (sym is) (subst (λ b. ReadsChunk b left left' chunk) e h)

-- ---- reads

pub Ran-none : {S : Type 0} {f : Answering S (List ℕ)} {g : S} (p : Place S) (left held : Option (List ℕ)) (turns : ℕ) → p ≡ start g → Ran f g p left left held held turns
Ran-none {f} {g} p left held turns e = record {
  input = [];
  text = [];
  served = subst (λ q. Served f (start g) [] q []) (sym e) (Served-none (start g));
  taken = Consumes-nil left;
  written = Appends-nil held;
  few = omega arith;
}

pub Ran-more : {S : Type 0} {f : Answering S (List ℕ)} {g : S} {p : Place S} {left left' held held' : Option (List ℕ)} {turns : ℕ} (q : Place S) (left'' held'' : Option (List ℕ)) (bytes : List ℕ) (turns' : ℕ) → turns' ≡ turns + 1 → Ran f g p left left' held held' turns → Consumes left' left'' bytes → length bytes ≤ 65536 → Feeds f p bytes q held' held'' →
    Ran f g q left left'' held held'' turns'
Ran-more {turns = turns} q left'' held'' bytes turns' e r c most (t, s, w) = record {
  input = r.input ++ bytes;
  text = r.text ++ t;
  served = Served-joined r.served s;
  taken = Consumes-trans _ _ _ r.input bytes r.taken c;
  written = Appends-trans _ _ _ r.text t r.written w;
  few = omega (arith, r.few, length-append r.input bytes, e);
}

-- the line number is far below its limit
pub Ran-number : {S : Type 0} {f : Answering S (List ℕ)} {g : S} {p : Place S} {left left' held held' : Option (List ℕ)} {turns : ℕ} → Ran f g p left left' held held' turns → turns ≤ 4294967295 → p.number + 65536 < 18446744073709551616
Ran-number r h = omega (arith, r.served.number_is, r.served.few, r.few)

-- what the writer has accepted is unchanged
pub Ran-kept : {S : Type 0} {f : Answering S (List ℕ)} {g : S} {p : Place S} {left left' held held' : Option (List ℕ)} {turns : ℕ} (held'' : Option (List ℕ)) → Ran f g p left left' held held' turns → Keeps held' held'' → Ran f g p left left' held held'' turns
Ran-kept {held = held} {held'} held'' r k = record {
  input = r.input;
  text = r.text;
  served = r.served;
  taken = r.taken;
  written = Appends-kept held held' held'' r.text r.written k;
  few = r.few;
}

-- the output of all complete lines is written
pub Ran-ended : {S : Type 0} {f : Answering S (List ℕ)} {g : S} {p : Place S} {left left' held held' : Option (List ℕ)} {turns : ℕ} (left'' : Option (List ℕ)) → Ran f g p left left' held held' turns → Keeps left' left'' → has_line_end p.begun ≡ false →
    (taken : List ℕ) × (text : List ℕ) × Consumes left left'' taken × Appends held held' text × AnswersEnded f g taken text p.state
Ran-ended {p = p} {left} {left'} left'' r k e =
    (r.input, r.text, Consumes-kept left left' left'' r.input r.taken k, r.written, (r.served.lines, p.begun, r.served.told, r.served.cut, e, r.served.run, r.served.text_is))

-- ---- errors

-- the written text is a prefix of the output of some complete input that begins so
pub record SoFar {S : Type 0} (fault : ScriptFault) (f : Answering S (List ℕ)) (g : S) (left held held' : Option (List ℕ)) : Type 0 where
  pub input : List ℕ
  pub text : List ℕ
  pub gives : Gives left input
  pub written : Appends held held' text
  pub answered : IsToldUntil fault f g input text

begins : {S : Type 0} {f : Answering S (List ℕ)} → {p q : Place S} {xs t : List ℕ} → Served f p xs q t → Begins f p xs t
begins {f} {p} {q} {xs} {t} s = record { front = xs; back = []; new = q; more = []; bytes_are = sym (append-nil xs); serves = subst (λ z. Served f p xs q z) (sym (append-nil t)) s }

-- the first lines of an input of which a prefix was run, whichever bytes follow
answers_whole : {S : Type 0} {f : Answering S (List ℕ)} {g : S} {q : Place S} {xs text : List ℕ} (rest input : List ℕ) → xs ++ rest ≡ input → Served f (start g) xs q text → IsAnsweredSoFar f g input text × AnswersFirst f g input text
answers_whole {f = f} {g} {q} {xs} {text} rest input e s =
    (is_answered_so_far input (Begins-more rest (begins s)) (ap lines_of e), (s.lines, lines_of (q.begun ++ rest), s.told, q.state, ap lines_of (sym e) ∙ s.cut rest, s.run, s.text_is))

-- nothing was read
pub SoFar-none : {S : Type 0} {f : Answering S (List ℕ)} {g : S} (left held : Option (List ℕ)) → SoFar Memory f g left held held
SoFar-none {g = g} left held = record {
  input = [] ++ unwrap_or left [];
  text = [];
  gives = Gives-left left left [] (Consumes-nil left);
  written = Appends-nil held;
  answered = answers_whole (unwrap_or left []) (unwrap_or left []) refl (Served-none (start g));
}

-- the script stopped between two reads
pub SoFar-stopped : {S : Type 0} {f : Answering S (List ℕ)} {g : S} {p : Place S} {left left' held held' : Option (List ℕ)} {turns : ℕ} (left'' : Option (List ℕ)) → Ran f g p left left' held held' turns → Keeps left' left'' → SoFar Read f g left held held'
SoFar-stopped {left = left} {left'} left'' r k = record {
  input = r.input ++ unwrap_or left'' [];
  text = r.text;
  gives = Gives-left left left'' r.input (Consumes-kept left left' left'' r.input r.taken k);
  written = r.written;
  answered = answers_whole (unwrap_or left'' []) (r.input ++ unwrap_or left'' []) refl r.served;
}

so_far : {S : Type 0} (f : Answering S (List ℕ)) (g : S) (input text : List ℕ) (fault : ScriptFault) → IsToldUntil fault f g input text → IsAnsweredSoFar f g input text
so_far f g input text Read h = h.0
so_far f g input text Write h = h
so_far f g input text Memory h = h.0
so_far f g input text Cut h = h.0

-- in addition a write failed
SoFar-write : {S : Type 0} {fault : ScriptFault} {f : Answering S (List ℕ)} {g : S} {left held held' : Option (List ℕ)} → SoFar fault f g left held held' → SoFar Write f g left held held'
SoFar-write {fault = fault} {f} {g} s = record {
  input = s.input;
  text = s.text;
  gives = s.gives;
  written = s.written;
  answered = so_far f g s.input s.text fault s.answered;
}

-- the script stopped because its output could not be flushed
pub SoFar-unsent : {S : Type 0} {f : Answering S (List ℕ)} {g : S} {p : Place S} {left left' held held' : Option (List ℕ)} {turns : ℕ} (left'' : Option (List ℕ)) → Ran f g p left left' held held' turns → Keeps left' left'' → SoFar Write f g left held held'
SoFar-unsent left'' r k = SoFar-write (SoFar-stopped left'' r k)

-- the script stopped within a chunk
pub SoFar-fed : {S : Type 0} {f : Answering S (List ℕ)} {g : S} {p : Place S} {left left' held held' : Option (List ℕ)} {turns : ℕ} (fault : ScriptFault) (left'' held'' : Option (List ℕ)) (bytes : List ℕ) → Ran f g p left left' held held' turns → Consumes left' left'' bytes → FeedsUntil fault f p bytes held' held'' → SoFar fault f g left held held''
SoFar-fed Read left'' held'' bytes r c x = absurd x
SoFar-fed {left = left} {left'} Write left'' held'' bytes r c (t, b, w) = record {
  input = (r.input ++ bytes) ++ unwrap_or left'' [];
  text = r.text ++ t;
  gives = Gives-left left left'' (r.input ++ bytes) (Consumes-trans left left' left'' r.input bytes r.taken c);
  written = Appends-trans _ _ _ r.text t r.written w;
  answered = is_answered_so_far ((r.input ++ bytes) ++ unwrap_or left'' []) (Begins-more (unwrap_or left'' []) (Begins-joined r.served b)) refl;
}
SoFar-fed {left = left} {left'} Cut left'' held'' bytes r c (t, b, w) =
    let cut = Cuts-more (unwrap_or left'' []) (Cuts-joined r.served b) in
    record {
      input = (r.input ++ bytes) ++ unwrap_or left'' [];
      text = r.text ++ t;
      gives = Gives-left left left'' (r.input ++ bytes) (Consumes-trans left left' left'' r.input bytes r.taken c);
      written = Appends-trans _ _ _ r.text t r.written w;
      answered = (is_answered_so_far ((r.input ++ bytes) ++ unwrap_or left'' []) (Cuts-begins cut) refl, answers_cut ((r.input ++ bytes) ++ unwrap_or left'' []) cut refl);
    }
SoFar-fed {left = left} {left'} Memory left'' held'' bytes r c (new, rest, fed) = record {
  input = (r.input ++ bytes) ++ unwrap_or left'' [];
  text = r.text ++ fed.feeds.0;
  gives = Gives-left left left'' (r.input ++ bytes) (Consumes-trans left left' left'' r.input bytes r.taken c);
  written = Appends-trans _ _ _ r.text fed.feeds.0 r.written fed.feeds.2;
  answered = answers_whole (rest ++ unwrap_or left'' []) _ (sym (append_assoc (r.input ++ fed.front) rest (unwrap_or left'' [])) ∙ ap (λ z. z ++ unwrap_or left'' []) (append_assoc r.input fed.front rest ∙ ap (λ z. r.input ++ z) (sym fed.bytes_are))) (Served-joined r.served fed.feeds.1);
}

-- what the writer has accepted is unchanged
pub SoFar-kept : {S : Type 0} {fault : ScriptFault} {f : Answering S (List ℕ)} {g : S} {left held held' : Option (List ℕ)} (held'' : Option (List ℕ)) → SoFar fault f g left held held' → Keeps held' held'' → SoFar fault f g left held held''
SoFar-kept {held = held} {held'} held'' s k = record {
  input = s.input;
  text = s.text;
  gives = s.gives;
  written = Appends-kept held held' held'' s.text s.written k;
  answered = s.answered;
}

-- the output is flushed, which may fail
pub SoFar-left : {S : Type 0} {f : Answering S (List ℕ)} {g : S} {left held held' : Option (List ℕ)} (fault stands : ScriptFault) (w w' : ℕ) → SoFar fault f g left held held' → LeavesAs fault stands w w' → SoFar stands f g left held held'
SoFar-left {f = f} {g} {left} {held} {held'} Read stands w w' s (inl h) = subst (λ e. SoFar e f g left held held') (sym h.0) s
SoFar-left {f = f} {g} {left} {held} {held'} Read stands w w' s (inr h) = subst (λ e. SoFar e f g left held held') (sym h.0) (SoFar-write s)
SoFar-left {f = f} {g} {left} {held} {held'} Write stands w w' s h = subst (λ e. SoFar e f g left held held') (sym h.0) s
SoFar-left {f = f} {g} {left} {held} {held'} Memory stands w w' s (inl h) = subst (λ e. SoFar e f g left held held') (sym h.0) s
SoFar-left {f = f} {g} {left} {held} {held'} Memory stands w w' s (inr h) = subst (λ e. SoFar e f g left held held') (sym h.0) (SoFar-write s)
SoFar-left {f = f} {g} {left} {held} {held'} Cut stands w w' s (inl h) = subst (λ e. SoFar e f g left held held') (sym h.0) s
SoFar-left {f = f} {g} {left} {held} {held'} Cut stands w w' s (inr h) = subst (λ e. SoFar e f g left held held') (sym h.0) (SoFar-write s)

-- nothing was read, and earlier output is flushed
pub SoFar-not_begun : {S : Type 0} {f : Answering S (List ℕ)} {g : S} (left held held' : Option (List ℕ)) (stands : ScriptFault) {w w' : ℕ} → Keeps held held' → LeavesAs Memory stands w w' → SoFar stands f g left held held'
SoFar-not_begun left held held' stands {w} {w'} k l = SoFar-left Memory stands w w' (SoFar-kept held' (SoFar-none left held) k) l

-- ---- the end

same_lines : {S : Type 0} {f : Answering S (List ℕ)} {g : S} {p : Place S} {xs t : List ℕ} (bytes : List ℕ) → Served f (start g) xs p t → lines_of (p.begun ++ bytes) ≡ lines_of p.begun → lines_of (xs ++ bytes) ≡ lines_of xs
same_lines {p} {xs} bytes s e = s.cut bytes ∙ ap (λ z. s.lines ++ z) (e ∙ ap lines_of (sym (append-nil p.begun))) ∙ sym (s.cut []) ∙ ap lines_of (append-nil xs)

-- the script stopped in its last line
pub SoFar-finished : {S : Type 0} {f : Answering S (List ℕ)} {g : S} {p : Place S} {left left' held held' : Option (List ℕ)} {turns : ℕ} (held'' : Option (List ℕ)) → Ran f g p left left' held held' turns → IsAtEnd left' → FinishesInPart f p held' held'' → SoFar Write f g left held held''
SoFar-finished {left = left} {left'} held'' r e (bytes, l, (t, b, w)) = record {
  input = r.input;
  text = r.text ++ t;
  gives = Gives-end left left' r.input r.taken e;
  written = Appends-trans _ _ _ r.text t r.written w;
  answered = is_answered_so_far r.input (Begins-joined r.served b) (same_lines bytes r.served l);
}

-- the script stopped within the output of its last line
pub SoFar-cut : {S : Type 0} {f : Answering S (List ℕ)} {g : S} {p : Place S} {left left' held held' : Option (List ℕ)} {turns : ℕ} (held'' : Option (List ℕ)) → Ran f g p left left' held held' turns → IsAtEnd left' → FinishesCut f p held' held'' → SoFar Cut f g left held held''
SoFar-cut {left = left} {left'} held'' r e (bytes, l, (t, b, w)) =
    let cut = Cuts-joined r.served b in
    let same = same_lines bytes r.served l in
    record {
      input = r.input;
      text = r.text ++ t;
      gives = Gives-end left left' r.input r.taken e;
      written = Appends-trans _ _ _ r.text t r.written w;
      answered = (is_answered_so_far r.input (Cuts-begins cut) same, answers_cut r.input cut same);
    }

-- the script stopped while a line's output was written
pub SoFar-in_answer : {S : Type 0} {f : Answering S (List ℕ)} {g : S} {left held held' : Option (List ℕ)} (fault : ScriptFault) (w w' : ℕ) → IsInAnswer fault w w' → SoFar Write f g left held held' → (fault ≡ Cut → SoFar Cut f g left held held') → SoFar fault f g left held held'
SoFar-in_answer Read w w' h s k = absurd h
SoFar-in_answer Write w w' h s k = s
SoFar-in_answer Memory w w' h s k = absurd h
SoFar-in_answer Cut w w' h s k = k refl

-- the script stopped when the output of all lines was flushed
pub FinishesInPart-whole : {S : Type 0} {f : Answering S (List ℕ)} {p q : Place S} (held held' held'' : Option (List ℕ)) → Finishes f p q held held' → Keeps held' held'' → FinishesInPart f p held held''
FinishesInPart-whole held held' held'' (bytes, l, n, (t, s, w)) k = (bytes, l, (t, begins s, Appends-kept held held' held'' t w k))

pub Finishes-kept : {S : Type 0} {f : Answering S (List ℕ)} {p q : Place S} (held held' held'' : Option (List ℕ)) → Finishes f p q held held' → Keeps held' held'' → Finishes f p q held held''
Finishes-kept held held' held'' (bytes, l, n, (t, s, w)) k = (bytes, l, n, (t, s, Appends-kept held held' held'' t w k))

-- the script ended
pub Ran-finished : {S : Type 0} {f : Answering S (List ℕ)} {g : S} {p : Place S} {left left' held held' : Option (List ℕ)} {turns : ℕ} (q : Place S) (held'' : Option (List ℕ)) → Ran f g p left left' held held' turns → IsAtEnd left' → Finishes f p q held' held'' →
    (input : List ℕ) × (text : List ℕ) × Gives left input × Appends held held'' text × IsAnswered f g input q.clean text q.state
Ran-finished {left = left} {left'} q held'' r e (bytes, l, n, (t, s, w)) =
    (r.input, r.text ++ t, Gives-end left left' r.input r.taken e, Appends-trans _ _ _ r.text t r.written w, is_answered r.input (Served-joined r.served s) n (same_lines bytes r.served l))

-- nothing more was read
pub Ran-end : {S : Type 0} {f : Answering S (List ℕ)} {g : S} {p : Place S} {left left' held held' : Option (List ℕ)} {turns : ℕ} (left'' : Option (List ℕ)) → Ran f g p left left' held held' turns → Keeps left' left'' → Ran f g p left left'' held held' turns
Ran-end {left = left} {left'} left'' r k = record {
  input = r.input;
  text = r.text;
  served = r.served;
  taken = Consumes-kept left left' left'' r.input r.taken k;
  written = r.written;
  few = r.few;
}

-- ---- what the reads returned

-- a run, and the bytes that it served are those that the reads returned
pub record Took {S : Type 0} (f : Answering S (List ℕ)) (g : S) (p : Place S) (left left' taken taken' held held' : Option (List ℕ)) (turns : ℕ) : Type 0 where
  pub ran : Ran f g p left left' held held' turns
  pub took : Appends taken taken' ran.input

pub Took-none : {S : Type 0} {f : Answering S (List ℕ)} {g : S} (p : Place S) (left taken held : Option (List ℕ)) (turns : ℕ) → p ≡ start g → Took f g p left left taken taken held held turns
unfolding Ran-none
Took-none p left taken held turns e = record { ran = Ran-none p left held turns e; took = Appends-nil taken }

pub Took-more : {S : Type 0} {f : Answering S (List ℕ)} {g : S} {p : Place S} {left left' taken taken' held held' : Option (List ℕ)} {turns : ℕ} (q : Place S) (left'' taken'' held'' : Option (List ℕ)) (bytes : List ℕ) (turns' : ℕ) → turns' ≡ turns + 1 → Took f g p left left' taken taken' held held' turns → Consumes left' left'' bytes → Appends taken' taken'' bytes → length bytes ≤ 65536 → Feeds f p bytes q held' held'' →
    Took f g q left left'' taken taken'' held held'' turns'
unfolding Ran-more
Took-more {taken = taken} {taken'} q left'' taken'' held'' bytes turns' e r c a most (t, s, w) = record {
  ran = Ran-more q left'' held'' bytes turns' e r.ran c most (t, s, w);
  took = Appends-trans taken taken' taken'' r.ran.input bytes r.took a;
}

pub Took-kept : {S : Type 0} {f : Answering S (List ℕ)} {g : S} {p : Place S} {left left' taken taken' held held' : Option (List ℕ)} {turns : ℕ} (held'' : Option (List ℕ)) → Took f g p left left' taken taken' held held' turns → Keeps held' held'' → Took f g p left left' taken taken' held held'' turns
unfolding Ran-kept
Took-kept held'' r k = record { ran = Ran-kept held'' r.ran k; took = r.took }

-- the input ended
pub Took-end : {S : Type 0} {f : Answering S (List ℕ)} {g : S} {p : Place S} {left left' taken taken' held held' : Option (List ℕ)} {turns : ℕ} (left'' taken'' : Option (List ℕ)) (chunk : List ℕ) → Took f g p left left' taken taken' held held' turns → Keeps left' left'' → Appends taken' taken'' chunk → chunk ≡ [] → Took f g p left left'' taken taken'' held held' turns
unfolding Ran-end
Took-end {taken = taken} {taken'} left'' taken'' chunk r k a e = record {
  ran = Ran-end left'' r.ran k;
  took = subst (λ z. Appends taken taken'' z) (ap (λ z. r.ran.input ++ z) e ∙ append-nil r.ran.input) (Appends-trans taken taken' taken'' r.ran.input chunk r.took a);
}

-- the run, as if the reader had held the bytes that were served, and a rest
pub Ran-before : {S : Type 0} {f : Answering S (List ℕ)} {g : S} {p : Place S} {left left' held held' : Option (List ℕ)} {turns : ℕ} (rest : List ℕ) (r : Ran f g p left left' held held' turns) → Ran f g p (Some (r.input ++ rest)) (Some rest) held held' turns
Ran-before rest r = record { input = r.input; text = r.text; served = r.served; taken = refl; written = r.written; few = r.few }

-- the run, as if the reader had held exactly the bytes that were served
pub Ran-all : {S : Type 0} {f : Answering S (List ℕ)} {g : S} {p : Place S} {left left' held held' : Option (List ℕ)} {turns : ℕ} (r : Ran f g p left left' held held' turns) → Ran f g p (Some r.input) (Some []) held held' turns
Ran-all r = record { input = r.input; text = r.text; served = r.served; taken = sym (append-nil r.input); written = r.written; few = r.few }

-- the text is a prefix of the output for what the reads returned
pub SoFar-took : {S : Type 0} {fault : ScriptFault} {f : Answering S (List ℕ)} {g : S} {held held' : Option (List ℕ)} (taken taken' : Option (List ℕ)) (bytes : List ℕ) → Appends taken taken' bytes → SoFar fault f g (Some bytes) held held' →
    (input : List ℕ) × (text : List ℕ) × Appends taken taken' input × Appends held held' text × IsToldUntil fault f g input text
SoFar-took taken taken' bytes a s = (s.input, s.text, subst (λ z. Appends taken taken' z) s.gives a, s.written, s.answered)

-- the text is the output for what the reads returned
pub Took-finished : {S : Type 0} {f : Answering S (List ℕ)} {g : S} {p : Place S} {left left' taken taken' held held' : Option (List ℕ)} {turns : ℕ} (q : Place S) (held'' : Option (List ℕ)) → Took f g p left left' taken taken' held held' turns → Finishes f p q held' held'' →
    (input : List ℕ) × (text : List ℕ) × Appends taken taken' input × Appends held held'' text × IsAnswered f g input q.clean text q.state
Took-finished {taken = taken} {taken'} q held'' r h =
    let e = Ran-finished q held'' (Ran-all r.ran) refl h in
    (e.0, e.1, subst (λ z. Appends taken taken' z) e.2 r.took, e.3, e.4)

-- the text is the output of all lines that end in what the reads returned
pub Took-ended : {S : Type 0} {f : Answering S (List ℕ)} {g : S} {p : Place S} {left left' taken taken' held held' : Option (List ℕ)} {turns : ℕ} (taken'' : Option (List ℕ)) → Took f g p left left' taken taken' held held' turns → Keeps taken' taken'' → has_line_end p.begun ≡ false →
    (input : List ℕ) × (text : List ℕ) × Appends taken taken'' input × Appends held held' text × AnswersEnded f g input text p.state
Took-ended {p = p} {taken = taken} {taken'} taken'' r k e =
    (r.ran.input, r.ran.text, Appends-kept taken taken' taken'' r.ran.input r.took k, r.ran.written, (r.ran.served.lines, p.begun, r.ran.served.told, r.ran.served.cut, e, r.ran.served.run, r.ran.served.text_is))

-- ---- the device that failed

IsRead : ScriptFault → Type 0
IsRead Read = Unit {0}
IsRead _ = ⊥

pub write_not_read : Write ≡ Read → ⊥
unfolding IsRead
write_not_read e = subst IsRead (sym e) tt

pub memory_not_read : Memory ≡ Read → ⊥
unfolding IsRead
memory_not_read e = subst IsRead (sym e) tt

pub cut_not_read : Cut ≡ Read → ⊥
unfolding IsRead
cut_not_read e = subst IsRead (sym e) tt

-- an error within a line's output comes from the writer, or from memory
pub IsInAnswer-of_writer : (fault : ScriptFault) (w w1 w' : ℕ) → w1 ≡ w → IsInAnswer fault w1 w' → IsOfWriter fault w w'
IsInAnswer-of_writer Read w w1 w' e h = absurd h
IsInAnswer-of_writer Write w w1 w' e h = h ∙ ap (λ n. min (n + 1) full) e
IsInAnswer-of_writer Memory w w1 w' e h = absurd h
IsInAnswer-of_writer Cut w w1 w' e h = h ∙ e

-- an allocation failed before anything was read
pub LeavesAs-memory : {A : ScriptFault} (left : ScriptFault) (old new : ℕ) → A ≡ Memory → LeavesAs A left old new → LeavesAs Memory left old new
LeavesAs-memory left old new e h = subst (λ f. LeavesAs f left old new) e h

-- an error of the writer or of memory, after which the output is flushed
pub IsFaultOf-left : (fault stands : ScriptFault) (k k' r r' w w1 w2 w3 : ℕ) → r' ≡ r → w1 ≡ w → IsOfWriter fault w1 w2 → LeavesAs fault stands w2 w3 → IsFaultOf stands k k' r r' w w3
IsFaultOf-left Read stands k k' r r' w w1 w2 w3 e f h l = absurd h
IsFaultOf-left Write stands k k' r r' w w1 w2 w3 e f h l = subst (λ s. IsFaultOf s k k' r r' w w3) (sym l.0) (e, l.1 ∙ h ∙ ap (λ n. min (n + 1) full) f)
IsFaultOf-left Memory stands k k' r r' w w1 w2 w3 e f h (inl l) = subst (λ s. IsFaultOf s k k' r r' w w3) (sym l.0) (e, l.1 ∙ h ∙ f)
IsFaultOf-left Memory stands k k' r r' w w1 w2 w3 e f h (inr l) = subst (λ s. IsFaultOf s k k' r r' w w3) (sym l.0) (e, l.1 ∙ ap (λ n. min (n + 1) full) (h ∙ f))
IsFaultOf-left Cut stands k k' r r' w w1 w2 w3 e f h (inl l) = subst (λ s. IsFaultOf s k k' r r' w w3) (sym l.0) (e, l.1 ∙ h ∙ f)
IsFaultOf-left Cut stands k k' r r' w w1 w2 w3 e f h (inr l) = subst (λ s. IsFaultOf s k k' r r' w w3) (sym l.0) (e, l.1 ∙ ap (λ n. min (n + 1) full) (h ∙ f))

-- a script that stopped within bytes it had read did not stop at a read
pub not_read : (fault stands : ScriptFault) (w1 w2 w3 : ℕ) → IsOfWriter fault w1 w2 → LeavesAs fault stands w2 w3 → stands ≡ Read → ⊥
not_read Read stands w1 w2 w3 h l e = absurd h
not_read Write stands w1 w2 w3 h l e = write_not_read (sym l.0 ∙ e)
not_read Memory stands w1 w2 w3 h (inl l) e = memory_not_read (sym l.0 ∙ e)
not_read Memory stands w1 w2 w3 h (inr l) e = write_not_read (sym l.0 ∙ e)
not_read Cut stands w1 w2 w3 h (inl l) e = cut_not_read (sym l.0 ∙ e)
not_read Cut stands w1 w2 w3 h (inr l) e = write_not_read (sym l.0 ∙ e)

-- a script that has not begun is in its initial state
pub place_equal : {S : Type 0} (s : S) (b : List ℕ) (n : ℕ) (clean : Bool) → b ≡ [] → n ≡ 1 → clean ≡ true → (record { state = s; begun = b; number = n; clean = clean }) ≡ start s
place_equal s b n clean e f h = λ i. record { state = s; begun = e i; number = f i; clean = h i }
