-- Bytes that were read, and what they wrote.
use Rattle.proof_prelude.proofs.{◌≡◌, ℕ, zero, suc, ◌+◌, ◌-◌, ◌<◌, List, [], ◌∷◌, ◌++◌, length, take, drop, slice_index, Bool, true, false, inl, inr, Option, Some, Result, Ok, Err, OnErr, OnOk, refl, sym, ap, subst, ◌∙◌, arith, eqb-true, append_assoc, append-nil, All-push, All-nil, Appends, Appends-nil, Appends-trans}
use Rattle.memchr.specs.Find.{IsFirstByte, is_byte}
use Rattle.script_engine.specs.{has_line_end, is_line_end}
use Rattle.script_engine.proofs.{open-joined, rest_all}
use Rattle.line_reader.specs.{joined, HasRun, IsDoneOn, IsStoppedOn, Steps, more, none}

pub joined-append : (lines : List (List ℕ)) (line : List ℕ) → joined (lines ++ line ∷ []) ≡ joined lines ++ (line ++ 10 ∷ [])
joined-append [] line = refl
joined-append (l ∷ lines) line = ap (λ z. l ++ 10 ∷ z) (joined-append lines line) ∙ sym (append_assoc l (10 ∷ joined lines) (line ++ 10 ∷ []))

-- nothing was read
pub HasRun-none : {S : Type 0} {steps : Steps S} (start : S) (held : Option (List ℕ)) (begun : List ℕ) → begun ≡ [] → HasRun steps start held [] start begun held
HasRun-none start held begun e = record {
  lines = [];
  text = [];
  splits = record { whole = sym e; lines_whole = All-nil _; rest_begun = ap has_line_end e };
  runs = none;
  written = Appends-nil held;
}

-- bytes without a line end were read
pub HasRun-begun : {S : Type 0} {steps : Steps S} {start state : S} {held held' : Option (List ℕ)} {taken begun : List ℕ} (bytes begun' : List ℕ) → HasRun steps start held taken state begun held' → has_line_end bytes ≡ false → begun' ≡ begun ++ bytes → HasRun steps start held (taken ++ bytes) state begun' held'
HasRun-begun {taken = taken} {begun} bytes begun' h none_ends e = record {
  lines = h.lines;
  text = h.text;
  splits = record {
    whole = ap (λ z. z ++ bytes) h.splits.whole ∙ append_assoc (joined h.lines) begun bytes ∙ ap (λ z. joined h.lines ++ z) (sym e);
    lines_whole = h.splits.lines_whole;
    rest_begun = ap has_line_end e ∙ open-joined begun bytes h.splits.rest_begun none_ends;
  };
  runs = h.runs;
  written = h.written;
}

line_whole : (lines : List (List ℕ)) (taken begun : List ℕ) → taken ≡ joined lines ++ begun → taken ++ 10 ∷ [] ≡ joined (lines ++ begun ∷ []) ++ []
line_whole lines taken begun e = ap (λ z. z ++ 10 ∷ []) e ∙ append_assoc (joined lines) begun (10 ∷ []) ∙ sym (joined-append lines begun) ∙ sym (append-nil (joined (lines ++ begun ∷ [])))

-- a line end was read, and the line was run
pub HasRun-line : {S : Type 0} {steps : Steps S} {start state : S} {held held' : Option (List ℕ)} {taken begun : List ℕ} (line added written : List ℕ) (new : S) (begun' : List ℕ) (held'' : Option (List ℕ)) → HasRun steps start held taken state begun held' → line ≡ begun → steps state line added new → written ≡ added → begun' ≡ [] → Appends held' held'' written → HasRun steps start held (taken ++ 10 ∷ []) new begun' held''
HasRun-line {steps = steps} {start} {state} {held} {held'} {taken} {begun} line added written new begun' held'' h is step a e w = record {
  lines = h.lines ++ begun ∷ [];
  text = h.text ++ added;
  splits = record {
    whole = line_whole h.lines taken begun h.splits.whole ∙ ap (λ z. joined (h.lines ++ begun ∷ []) ++ z) (sym e);
    lines_whole = All-push (λ line. has_line_end line ≡ false) h.lines begun h.splits.lines_whole h.splits.rest_begun;
    rest_begun = ap has_line_end e;
  };
  runs = more begun added new h.runs (subst (λ z. steps state z added new) is step);
  written = Appends-trans held held' held'' h.text added h.written (subst (Appends held' held'') a w);
}

-- the end of the input was read
pub HasRun-done : {S : Type 0} {steps ends : Steps S} {start state : S} {held held' : Option (List ℕ)} {input begun : List ℕ} (rest last_text written : List ℕ) (new : S) (held'' : Option (List ℕ)) → HasRun steps start held input state begun held' → rest ≡ begun → ends state rest last_text new → written ≡ last_text → Appends held' held'' written → IsDoneOn steps ends start (λ bytes. bytes ≡ input) held new held''
HasRun-done {steps = steps} {ends} {start} {state} {held} {held'} {input} {begun} rest last_text written new held'' h is ended a w = record {
  input = input;
  lines = h.lines;
  rest = begun;
  text = h.text;
  last_text = last_text;
  last = state;
  gives = refl;
  splits = h.splits;
  runs = h.runs;
  ended = subst (λ z. ends state z last_text new) is ended;
  written = Appends-trans held held' held'' h.text last_text h.written (subst (Appends held' held'') a w);
}

-- the input, of which more is known
pub IsDone-given : {S : Type 0} {steps ends : Steps S} {start state : S} {held held' : Option (List ℕ)} {input : List ℕ} (given : List ℕ → Type 0) → given input → IsDoneOn steps ends start (λ bytes. bytes ≡ input) held state held' → IsDoneOn steps ends start given held state held'
IsDone-given given gives d = record {
  input = d.input;
  lines = d.lines;
  rest = d.rest;
  text = d.text;
  last_text = d.last_text;
  last = d.last;
  gives = subst given (sym d.gives) gives;
  splits = d.splits;
  runs = d.runs;
  ended = d.ended;
  written = d.written;
}

-- the same bytes
pub HasRun-same : {S : Type 0} {steps : Steps S} {start state : S} {held held' : Option (List ℕ)} {taken begun : List ℕ} (taken' : List ℕ) → taken ≡ taken' → HasRun steps start held taken state begun held' → HasRun steps start held taken' state begun held'
HasRun-same {steps = steps} {start} {state} {held} {held'} {taken} {begun} taken' e h = subst (λ z. HasRun steps start held z state begun held') e h

-- ---- a task that an error stopped

-- nothing of the next text is written
pub HasRun-stopped : {S : Type 0} {steps : Steps S} (ends : Steps S) {start state : S} {held held' : Option (List ℕ)} {taken begun : List ℕ} (after : List ℕ) (given : List ℕ → Type 0) → given (taken ++ after) → HasRun steps start held taken state begun held' → IsStoppedOn false steps ends start given held held'
HasRun-stopped ends {start} {state} {held} {held'} {taken} {begun} after given gives h = record {
  input = taken ++ after;
  lines = h.lines;
  rest = begun ++ after;
  text = h.text;
  front = [];
  state = state;
  gives = gives;
  splits = ap (λ z. z ++ after) h.splits.whole ∙ append_assoc (joined h.lines) begun after;
  lines_whole = h.splits.lines_whole;
  runs = h.runs;
  is_front = inl refl;
  written = subst (Appends held held') (sym (append-nil h.text)) h.written;
}

-- a prefix of the text of the next line is written
pub HasRun-cut : {S : Type 0} {steps : Steps S} (ends : Steps S) {start state : S} {held held' : Option (List ℕ)} {taken begun : List ℕ} (line added written front back after : List ℕ) (new : S) (held'' : Option (List ℕ)) → HasRun steps start held taken state begun held' → line ≡ begun → steps state line added new → written ≡ added → written ≡ front ++ back → Appends held' held'' front → IsStoppedOn false steps ends start (λ input. input ≡ (taken ++ 10 ∷ []) ++ after) held held''
HasRun-cut {steps = steps} ends {start} {state} {held} {held'} {taken} {begun} line added written front back after new held'' h is step a e w = record {
  input = (taken ++ 10 ∷ []) ++ after;
  lines = h.lines;
  rest = begun ++ 10 ∷ after;
  text = h.text;
  front = front;
  state = state;
  gives = refl;
  splits = append_assoc taken (10 ∷ []) after ∙ ap (λ z. z ++ 10 ∷ after) h.splits.whole ∙ append_assoc (joined h.lines) begun (10 ∷ after);
  lines_whole = h.splits.lines_whole;
  runs = h.runs;
  is_front = inr (begun, after, back, new, refl, h.splits.rest_begun, subst (λ z. steps state z (front ++ back) new) is (subst (λ z. steps state line z new) (sym a ∙ e) step));
  written = Appends-trans held held' held'' h.text front h.written w;
}

-- a prefix of the text of the input's end is written
pub HasRun-cut_end : {S : Type 0} {steps ends : Steps S} {start state : S} {held held' : Option (List ℕ)} {input begun : List ℕ} (rest added written front back : List ℕ) (new : S) (held'' : Option (List ℕ)) → HasRun steps start held input state begun held' → rest ≡ begun → ends state rest added new → written ≡ added → written ≡ front ++ back → Appends held' held'' front → IsStoppedOn true steps ends start (λ bytes. bytes ≡ input) held held''
HasRun-cut_end {steps = steps} {ends} {start} {state} {held} {held'} {input} {begun} rest added written front back new held'' h is end a e w = record {
  input = input;
  lines = h.lines;
  rest = begun;
  text = h.text;
  front = front;
  state = state;
  gives = refl;
  splits = h.splits.whole;
  lines_whole = h.splits.lines_whole;
  runs = h.runs;
  is_front = (back, new, h.splits.rest_begun, subst (λ z. ends state z (front ++ back) new) is (subst (λ z. ends state rest z new) (sym a ∙ e) end));
  written = Appends-trans held held' held'' h.text front h.written w;
}

-- the input, of which more is known
pub IsStopped-given : {S : Type 0} {at_end : Bool} {steps ends : Steps S} {start : S} {held held' : Option (List ℕ)} {input : List ℕ} (given : List ℕ → Type 0) → given input → IsStoppedOn at_end steps ends start (λ bytes. bytes ≡ input) held held' → IsStoppedOn at_end steps ends start given held held'
IsStopped-given given gives d = record {
  input = d.input;
  lines = d.lines;
  rest = d.rest;
  text = d.text;
  front = d.front;
  state = d.state;
  gives = subst given (sym d.gives) gives;
  splits = d.splits;
  lines_whole = d.lines_whole;
  runs = d.runs;
  is_front = d.is_front;
  written = d.written;
}

-- ---- bytes up to a line end

pub regroup : (taken front piece : List ℕ) → ((taken ++ front) ++ piece) ++ 10 ∷ [] ≡ taken ++ (front ++ (piece ++ 10 ∷ []))
regroup taken front piece = simp append_assoc

cut_at : (xs : List ℕ) (i : ℕ) → i < length xs → is_line_end (slice_index xs i) ≡ true → take i xs ++ (10 ∷ drop (suc i) xs) ≡ xs
cut_at [] i h e = absurd (omega arith)
cut_at (x ∷ xs) zero h e = let is : x ≡ 10 = eqb-true x 10 e in ap (λ b. b ∷ xs) (sym is)
cut_at (x ∷ xs) (suc i) h e = ap (λ z. x ∷ z) (cut_at xs i (omega arith) e)

-- the bytes after the first line end
pub after_line : (bytes front rest : List ℕ) (i : ℕ) → IsFirstByte (is_byte 10) rest (Some i) → bytes ≡ front ++ rest → bytes ≡ (front ++ (take i rest ++ 10 ∷ [])) ++ take (length rest - (i + 1)) (drop (i + 1) rest)
after_line bytes front rest i h e =
    let s : i + 1 ≡ suc i = omega arith in
    let whole : take i rest ++ (10 ∷ drop (i + 1) rest) ≡ rest = ap (λ n. take i rest ++ (10 ∷ drop n rest)) s ∙ cut_at rest i h.0.high h.1 in
    e ∙ ap (λ z. front ++ z) (sym whole) ∙ ap (λ z. front ++ z) (sym (append_assoc (take i rest) (10 ∷ []) (drop (i + 1) rest)))
    ∙ sym (append_assoc front (take i rest ++ 10 ∷ []) (drop (i + 1) rest))
    ∙ ap (λ z. (front ++ (take i rest ++ 10 ∷ [])) ++ z) (sym (rest_all rest (i + 1)))

pub on_ok : {T E P Q : Type 0} (r : Result T E) → (P → Q) → OnOk r P → OnOk r Q
on_ok (Ok x) f h = f h
on_ok (Err e) f h = h

pub on_err : {T E P : Type 0} (r : Result T E) → P → OnErr r P
on_err (Ok x) h = tt
on_err (Err e) h = h

pub on_err_map : {T E P Q : Type 0} (r : Result T E) → (P → Q) → OnErr r P → OnErr r Q
on_err_map (Ok x) f h = tt
on_err_map (Err e) f h = f h
