-- Responses as far as they were read, and the output for them.
use Rattle.proof_prelude.proofs.{◌≡◌, ℕ, ◌==◌, length, List, [], ◌∷◌, ◌++◌, Bool, true, false, cond, Option, Some, Result, Ok, Err, IfOk, IfErr, refl, sym, ap, subst, ◌∙◌, append_assoc, append-nil, inl, inr, take, drop, take-append-drop, unwrap_or, Appends, Consumes, Keeps, IsAtEnd, Appends-nil, Appends-trans, Consumes-nil, Consumes-trans, Consumes-kept, Keeps-refl}
use Rattle.script_engine.specs.{ScriptFault}
use Rattle.script_engine.specs.declared.fault.ScriptFault.TheVariants.{Write}
use Rattle.script_engine.proofs.{Gives-left, Gives-end}
use Rattle.response_parser.specs.State.{State}
use Rattle.response_parser.specs.{start, is_refused, Piece, Place, after, given, has_rest, piece_of, pieces, end_of, last_end, whole, Refusal, Found, Name}
use Rattle.response_parser.specs.Fronts.{Cut, IsLate}
use Rattle.response_parser.specs.Mirrors.{Like, equal, alike, IsWithin, in_value, in_string, in_escape, Mirrors, Rejected}
use Rattle.response_output.specs.Words.{Words}
use Rattle.response_output.specs.{before, text_for, words_then, texts, words_behind, last_text, Fed, Feeds, IsBegun, IsLateAt, IsWhole, Begins, Breaks, EndsAnswers, EndsInPart, Finishes, IsAll, IsLeft, Answered, Converts, Stopped, Tracks, all_text, judged_by, ended_of, AnswerFault}
use Rattle.response_output.specs.Runs.{tracks_whole, tracks_long, tracks_stuck}
use Rattle.response_parser.specs.declared.place.Wanted.{Wanted}
use Rattle.response_parser.specs.declared.place.Wanted.TheVariants.{Documents}
use Rattle.response_parser.specs.declared.place.Place.TheVariants.{Refused as AtRefused}
use Rattle.response_parser.specs.declared.place.Found.TheVariants.{Nothing, Document, Id, Rev}
use Rattle.response_output.specs.declared.run.AnswerFault.TheVariants.{Refused, LateMember, Device}
use Rattle.response_parser.proofs.{after-append, pieces-append}
use Rattle.response_parser.proofs.Mirroring.{written}

-- ---- texts

pub texts-append : (w : Words) (ps qs : List Piece) → texts w (ps ++ qs) ≡ texts w ps ++ texts (words_behind w ps) qs
texts-append w [] qs = refl
texts-append w (p ∷ ps) qs =
    ap (λ l. text_for w p.0 p.1 ++ l) (texts-append (words_then w p.0 p.1) ps qs)
    ∙ sym (append_assoc (text_for w p.0 p.1) (texts (words_then w p.0 p.1) ps) (texts (words_behind (words_then w p.0 p.1) ps) qs))

pub words-append : (w : Words) (ps qs : List Piece) → words_behind w (ps ++ qs) ≡ words_behind (words_behind w ps) qs
words-append w [] qs = refl
words-append w (p ∷ ps) qs = words-append (words_then w p.0 p.1) ps qs

pub texts-piece : (w : Words) (f : Found) (t : List ℕ) → texts w (piece_of f t) ≡ text_for w f t
texts-piece w Nothing t = refl
texts-piece w Document t = append-nil (text_for w Document t)
texts-piece w Id t = refl
texts-piece w Rev t = append-nil (text_for w Rev t)

-- ---- the stored parser

like_same : {s r : State} → Like s r → s ≡ record r { text = s.text }
like_same {s} {r} (equal e) = e ∙ ap (λ (z : State). record r { text = z.text }) (sym e)
like_same (alike e h) = e

within_end : (n : Name) (p : Place) → IsWithin n p → end_of p ≡ Ok tt → ⊥
within_end n _ in_value e = absurd (cc)
within_end n _ in_string e = absurd (cc)
within_end n _ in_escape e = absurd (cc)

refused_end : (p : Place) → is_refused p ≡ true → end_of p ≡ Ok tt → ⊥
refused_end (AtRefused why) h e = absurd (cc)
refused_end _ h e = absurd (cc)

module _ {s r : State} {front : List ℕ} {at : ℕ} {w : Words} {part : List ℕ} where
  pub Tracks-begun : Tracks s r front at w part → IsBegun s w part
  Tracks-begun (tracks_whole l f p) = inl p
  Tracks-begun (tracks_long c n m f a e p) = inr (c.written, written m, p)
  Tracks-begun (tracks_stuck c j p) = inr (c.written, j.written, p)

  pub Tracks-same : Tracks s r front at w part → s ≡ record r { text = s.text }
  Tracks-same (tracks_whole l f p) = like_same l
  Tracks-same (tracks_long c n m f a e p) = m.same
  Tracks-same (tracks_stuck c j p) = like_same j.like

  pub Tracks-kept : {r' : State} {front' : List ℕ} {at' : ℕ} → Tracks s r front at w part → r' ≡ r → front' ≡ front → at' ≡ at → Tracks s r' front' at' w part
  Tracks-kept {r'} {front'} {at'} t a b e =
      subst (λ z. Tracks s z front' at' w part) (sym a) (subst (λ z. Tracks s r z at' w part) (sym b) (subst (λ z. Tracks s r front z w part) (sym e) t))

  pub Tracks-refused : Tracks s r front at w part → is_refused s.place ≡ is_refused r.place
  Tracks-refused t = ap (λ (z : State). is_refused z.place) (Tracks-same t)

  pub Tracks-rest : {q : Bool} → Tracks s r front at w part → has_rest r.place ≡ q → last_end s ≡ cond q (10 ∷ []) []
  Tracks-rest t e = ap (λ (z : State). last_end z) (Tracks-same t) ∙ ap (λ q. cond q (10 ∷ []) []) e

  -- at the end of complete responses, no item has begun
  pub Tracks-ok : Tracks s r front at w part → end_of r.place ≡ Ok tt → part ≡ []
  Tracks-ok (tracks_whole l f p) e = p
  Tracks-ok (tracks_long c n m f a k p) e = absurd (within_end n r.place m.place e)
  Tracks-ok (tracks_stuck c j p) e = absurd (refused_end r.place j.refused e)

pub Tracks-start : (s : State) (front : List ℕ) (at : ℕ) (w : Words) → front ≡ [] → Tracks s s front at w []
Tracks-start s front at w e = tracks_whole (equal refl) e refl

-- ---- bytes in order

pub Feeds-none : {s r : State} {front : List ℕ} {at : ℕ} {w : Words} {part : List ℕ} (held : Option (List ℕ)) → Tracks s r front at w part → Feeds s w part [] r front at w held held
Feeds-none {part = part} held t = record { part' = part; tracks = t; words = refl; text = []; text_is = append-nil part; written = Appends-nil held }

-- three texts in order
in_order : (a b c d e f g : List ℕ) → a ++ b ≡ c ++ d → d ++ e ≡ f ++ g → a ++ (b ++ e) ≡ (c ++ f) ++ g
in_order a b c d e f g h k =
    sym (append_assoc a b e) ∙ ap (λ l. l ++ e) h ∙ append_assoc c d e ∙ ap (λ l. c ++ l) k ∙ sym (append_assoc c f g)

module _ {s : State} {w : Words} {part xs : List ℕ} {r' : State} {front' : List ℕ} {at' : ℕ} {w' : Words} {a b : Option (List ℕ)} (p : Feeds s w part xs r' front' at' w' a b) where
  both_texts : (ys : List ℕ) → texts w (pieces s (xs ++ ys)) ≡ texts w (pieces s xs) ++ texts w' (pieces (after s xs) ys)
  both_texts ys =
      ap (texts w) (pieces-append s xs ys) ∙ texts-append w (pieces s xs) (pieces (after s xs) ys)
      ∙ ap (λ z. texts w (pieces s xs) ++ texts z (pieces (after s xs) ys)) (sym p.words)

  both_words : (ys : List ℕ) → words_behind w (pieces s (xs ++ ys)) ≡ words_behind w' (pieces (after s xs) ys)
  both_words ys =
      ap (words_behind w) (pieces-append s xs ys) ∙ words-append w (pieces s xs) (pieces (after s xs) ys)
      ∙ ap (λ z. words_behind z (pieces (after s xs) ys)) (sym p.words)

  both_text : (ys text rest : List ℕ) → p.part' ++ text ≡ texts w' (pieces (after s xs) ys) ++ rest → part ++ (p.text ++ text) ≡ texts w (pieces s (xs ++ ys)) ++ rest
  both_text ys text rest e =
      in_order part p.text (texts w (pieces s xs)) p.part' text (texts w' (pieces (after s xs) ys)) rest p.text_is e
      ∙ ap (λ l. l ++ rest) (sym (both_texts ys))

  pub Feeds-joined : {ys : List ℕ} {r'' : State} {front'' : List ℕ} {at'' : ℕ} {w'' : Words} {c : Option (List ℕ)} → Feeds (after s xs) w' p.part' ys r'' front'' at'' w'' b c → Feeds s w part (xs ++ ys) r'' front'' at'' w'' a c
  Feeds-joined {ys} {r''} {front''} {at''} {w''} {c} q = record {
    part' = q.part';
    tracks = subst (λ z. Tracks z r'' front'' at'' w'' q.part') (sym (after-append s xs ys)) q.tracks;
    words = q.words ∙ sym (both_words ys);
    text = p.text ++ q.text;
    text_is = both_text ys q.text q.part' q.text_is;
    written = Appends-trans a b c p.text q.text p.written q.written;
  }

  begins_behind : {fault : ScriptFault} {ys : List ℕ} {c : Option (List ℕ)} → Begins fault (after s xs) w' p.part' ys b c → Begins fault s w part (xs ++ ys) a c
  begins_behind {fault} {ys} {c} q = record {
    before = xs ++ q.before;
    behind = q.behind;
    bytes_are = ap (λ l. xs ++ l) q.bytes_are ∙ sym (append_assoc xs q.before q.behind);
    last = q.last;
    begun = subst (λ z. IsBegun z (words_behind w (pieces s (xs ++ q.before))) q.last) (sym (after-append s xs q.before)) (subst (λ z. IsBegun (after (after s xs) q.before) z q.last) (sym (both_words q.before)) q.begun);
    text = p.text ++ q.text;
    missing = q.missing;
    text_is = ap (λ l. part ++ l) (append_assoc p.text q.text q.missing) ∙ both_text q.before (q.text ++ q.missing) q.last q.text_is;
    written = Appends-trans a b c p.text q.text p.written q.written;
    complete = q.complete;
  }

  late_behind : {at : ℕ} {ys : List ℕ} {c : Option (List ℕ)} → IsLateAt at (after s xs) w' p.part' ys b c → IsLateAt at s w part (xs ++ ys) a c
  late_behind {at} {ys} {c} q =
      let same : after s ((xs ++ q.front) ++ q.last ∷ []) ≡ after (after s xs) (q.front ++ q.last ∷ []) = ap (after s) (append_assoc xs q.front (q.last ∷ [])) ∙ after-append s xs (q.front ++ q.last ∷ []) in
      record {
        front = xs ++ q.front;
        last = q.last;
        behind = q.behind;
        bytes_are = ap (λ l. xs ++ l) q.bytes_are ∙ sym (append_assoc xs q.front (q.last ∷ q.behind));
        begun = q.begun;
        late = subst (λ z. IsLate z q.begun) (sym same) q.late;
        text = p.text ++ q.text;
        text_is = both_text q.front q.text (before (words_behind w' (pieces (after s xs) q.front)) ++ q.begun) q.text_is
            ∙ ap (λ z. texts w (pieces s (xs ++ q.front)) ++ (before z ++ q.begun)) (sym (both_words q.front));
        written = Appends-trans a b c p.text q.text p.written q.written;
        at_is = q.at_is ∙ ap (λ (z : State). z.taken) (sym same);
      }

  pub Breaks-behind : (fault : AnswerFault) (ys : List ℕ) (c : Option (List ℕ)) → Breaks fault (after s xs) w' p.part' ys b c → Breaks fault s w part (xs ++ ys) a c
  Breaks-behind (Refused why at) ys c q = q
  Breaks-behind (LateMember at) ys c q = late_behind q
  Breaks-behind (Device fault) ys c q = begins_behind q

-- if more bytes follow
pub Breaks-more : (fault : AnswerFault) (s : State) (w : Words) (part xs : List ℕ) (a b : Option (List ℕ)) (ys : List ℕ) → Breaks fault s w part xs a b → Breaks fault s w part (xs ++ ys) a b
Breaks-more (Refused why at) s w part xs a b ys q = q
Breaks-more (LateMember at) s w part xs a b ys q = record {
  front = q.front;
  last = q.last;
  behind = q.behind ++ ys;
  bytes_are = ap (λ l. l ++ ys) q.bytes_are ∙ append_assoc q.front (q.last ∷ q.behind) ys;
  begun = q.begun;
  late = q.late;
  text = q.text;
  text_is = q.text_is;
  written = q.written;
  at_is = q.at_is;
}
Breaks-more (Device fault) s w part xs a b ys q = record {
  before = q.before;
  behind = q.behind ++ ys;
  bytes_are = ap (λ l. l ++ ys) q.bytes_are ∙ append_assoc q.before q.behind ys;
  last = q.last;
  begun = q.begun;
  text = q.text;
  missing = q.missing;
  text_is = q.text_is;
  written = q.written;
  complete = q.complete;
}

-- nothing of the bytes is written
pub Begins-nothing : {s r : State} {front : List ℕ} {at : ℕ} {w : Words} {part : List ℕ} (fault : ScriptFault) (bytes : List ℕ) (a b : Option (List ℕ)) → Tracks s r front at w part → Appends a b [] → IsWhole fault [] → Begins fault s w part bytes a b
Begins-nothing {part = part} fault bytes a b t put is_whole = record {
  before = [];
  behind = bytes;
  bytes_are = refl;
  last = part;
  begun = Tracks-begun t;
  text = [];
  missing = [];
  text_is = append-nil part;
  written = put;
  complete = is_whole;
}

-- ---- the end

-- the end after a last line
module _ {s : State} {w : Words} {part : List ℕ} {r' : State} {front' : List ℕ} {at' : ℕ} {w' : Words} {a b : Option (List ℕ)} (p : Feeds s w part (last_end s) r' front' at' w' a b) where
  end_same : after s (last_end s) ≡ record r' { text = (after s (last_end s)).text }
  end_same = Tracks-same p.tracks

  all_with : (last : List ℕ) → end_of r'.place ≡ Ok tt → last ≡ last_text w' → part ++ (p.text ++ last) ≡ all_text w (pieces s (last_end s))
  all_with last e is =
      let none = Tracks-ok p.tracks e in
      let ps = pieces s (last_end s) in
      sym (append_assoc part p.text last) ∙ ap (λ l. l ++ last) p.text_is ∙ ap (λ l. (texts w ps ++ l) ++ last) none ∙ ap (λ l. l ++ last) (append-nil (texts w ps))
      ∙ ap (λ l. texts w ps ++ l) is ∙ ap (λ z. texts w ps ++ last_text z) p.words

  pub Finishes-end : (c : Option (List ℕ)) (x : Result ℕ AnswerFault) → EndsAnswers r' w' b c x → Finishes s w part a c x
  Finishes-end c (Ok passed) e = (
    p.text ++ last_text w',
    Appends-trans a b c p.text (last_text w') p.written e.0,
    all_with (last_text w') e.1 refl,
    ap (λ (z : State). end_of z.place) end_same ∙ e.1,
    e.2 ∙ ap (λ (z : State). z.passed) (sym end_same),
  )
  Finishes-end c (Err (Refused why at)) e = (
    p.text,
    p.part',
    subst (Appends a c) (append-nil p.text) (Appends-trans a b c p.text [] p.written e.0),
    p.text_is,
    subst (λ z. IsBegun (after s (last_end s)) z p.part') p.words (Tracks-begun p.tracks),
    ap (λ (z : State). end_of z.place) end_same ∙ e.1,
    e.2 ∙ ap (λ (z : State). z.taken) (sym end_same),
  )
  Finishes-end c (Err (LateMember at)) e = absurd e
  Finishes-end c (Err (Device fault)) e =
      inr (
        p.text ++ last_text w',
        all_with (last_text w') e.1 refl,
        record {
          text = p.text ++ e.0.text;
          missing = e.0.missing;
          is = ap (λ l. p.text ++ l) e.0.is ∙ sym (append_assoc p.text e.0.text e.0.missing);
          written = Appends-trans a b c p.text e.0.text p.written e.0.written;
          failed = e.0.failed;
        },
      )

pub Finishes-breaks : (s : State) (w : Words) (part : List ℕ) (a b : Option (List ℕ)) (fault : AnswerFault) → Breaks fault s w part (last_end s) a b → Finishes s w part a b (Err fault)
Finishes-breaks s w part a b (Refused why at) q = absurd q
Finishes-breaks s w part a b (LateMember at) q = q
Finishes-breaks s w part a b (Device fault) q = inl q

-- ---- chunk after chunk

-- this input was read, and its contents are written
pub record Ran (wanted : Wanted) (w : Words) (s : State) (w' : Words) (part : List ℕ) (left left' held held' : Option (List ℕ)) : Type 0 where
  pub input : List ℕ
  pub fed : Fed (start wanted) w input s w' part held held'
  pub taken : Consumes left left' input

pub Ran-none : (wanted : Wanted) (w : Words) (left held : Option (List ℕ)) → Ran wanted w (start wanted) w [] left left held held
Ran-none wanted w left held = record { input = []; fed = record { state = refl; words = refl; written = Appends-nil held }; taken = Consumes-nil left }

module _ {wanted : Wanted} {w : Words} {s : State} {w' : Words} {part : List ℕ} {left left' held held' : Option (List ℕ)} (r : Ran wanted w s w' part left left' held held') where
  -- the input so far, as bytes that were read at once
  fed_texts : (ys : List ℕ) → texts w (pieces (start wanted) (r.input ++ ys)) ≡ texts w (pieces (start wanted) r.input) ++ texts w' (pieces s ys)
  fed_texts ys =
      ap (texts w) (pieces-append (start wanted) r.input ys) ∙ texts-append w (pieces (start wanted) r.input) (pieces (after (start wanted) r.input) ys)
      ∙ ap (λ z. texts w (pieces (start wanted) r.input) ++ texts z (pieces (after (start wanted) r.input) ys)) (sym r.fed.words)
      ∙ ap (λ z. texts w (pieces (start wanted) r.input) ++ texts w' (pieces z ys)) (sym r.fed.state)

  fed_words : (ys : List ℕ) → words_behind w (pieces (start wanted) (r.input ++ ys)) ≡ words_behind w' (pieces s ys)
  fed_words ys =
      ap (words_behind w) (pieces-append (start wanted) r.input ys) ∙ words-append w (pieces (start wanted) r.input) (pieces (after (start wanted) r.input) ys)
      ∙ ap (λ z. words_behind z (pieces (after (start wanted) r.input) ys)) (sym r.fed.words) ∙ ap (λ z. words_behind w' (pieces z ys)) (sym r.fed.state)

  fed_state : (ys : List ℕ) → after (start wanted) (r.input ++ ys) ≡ after s ys
  fed_state ys = after-append (start wanted) r.input ys ∙ ap (λ z. after z ys) (sym r.fed.state)

  -- what is written, with a text that follows
  fed_text : (ys text rest : List ℕ) → part ++ text ≡ texts w' (pieces s ys) ++ rest → (texts w (pieces (start wanted) r.input) ++ part) ++ text ≡ texts w (pieces (start wanted) (r.input ++ ys)) ++ rest
  fed_text ys text rest e =
      append_assoc (texts w (pieces (start wanted) r.input)) part text ∙ ap (λ l. texts w (pieces (start wanted) r.input) ++ l) e
      ∙ sym (append_assoc (texts w (pieces (start wanted) r.input)) (texts w' (pieces s ys)) rest) ∙ ap (λ l. l ++ rest) (sym (fed_texts ys))

  abbrev so_far : List ℕ
  so_far = texts w (pieces (start wanted) r.input) ++ part

  pub Ran-more : {r'' : State} {front'' : List ℕ} {at'' : ℕ} {w'' : Words} {left'' held'' : Option (List ℕ)} (bytes : List ℕ) → Consumes left' left'' bytes → (f : Feeds s w' part bytes r'' front'' at'' w'' held' held'') → Ran wanted w (after s bytes) w'' f.part' left left'' held held''
  Ran-more {left'' = left''} {held''} bytes c f = record {
    input = r.input ++ bytes;
    fed = record {
      state = sym (fed_state bytes);
      words = f.words ∙ sym (fed_words bytes);
      written = subst (Appends held held'') (fed_text bytes f.text f.part' f.text_is) (Appends-trans held held' held'' so_far f.text r.fed.written f.written);
    };
    taken = Consumes-trans _ _ _ r.input bytes r.taken c;
  }

  -- nothing more was read
  pub Ran-end : (left'' : Option (List ℕ)) → Keeps left' left'' → Ran wanted w s w' part left left'' held held'
  Ran-end left'' k = record { input = r.input; fed = r.fed; taken = Consumes-kept left left' left'' r.input r.taken k }

  breaks_all : (fault : AnswerFault) (bytes : List ℕ) (held'' : Option (List ℕ)) → Breaks fault s w' part bytes held' held'' → Breaks fault (start wanted) w [] (r.input ++ bytes) held held''
  breaks_all (Refused why at) bytes held'' q = q
  breaks_all (LateMember at) bytes held'' q =
      let same : after (start wanted) ((r.input ++ q.front) ++ q.last ∷ []) ≡ after s (q.front ++ q.last ∷ []) = ap (after (start wanted)) (append_assoc r.input q.front (q.last ∷ [])) ∙ fed_state (q.front ++ q.last ∷ []) in
      record {
        front = r.input ++ q.front;
        last = q.last;
        behind = q.behind;
        bytes_are = ap (λ l. r.input ++ l) q.bytes_are ∙ sym (append_assoc r.input q.front (q.last ∷ q.behind));
        begun = q.begun;
        late = subst (λ z. IsLate z q.begun) (sym same) q.late;
        text = so_far ++ q.text;
        text_is = fed_text q.front q.text (before (words_behind w' (pieces s q.front)) ++ q.begun) q.text_is
            ∙ ap (λ z. texts w (pieces (start wanted) (r.input ++ q.front)) ++ (before z ++ q.begun)) (sym (fed_words q.front));
        written = Appends-trans held held' held'' so_far q.text r.fed.written q.written;
        at_is = q.at_is ∙ ap (λ (z : State). z.taken) (sym same);
      }
  breaks_all (Device fault) bytes held'' q = record {
    before = r.input ++ q.before;
    behind = q.behind;
    bytes_are = ap (λ l. r.input ++ l) q.bytes_are ∙ sym (append_assoc r.input q.before q.behind);
    last = q.last;
    begun = subst (λ z. IsBegun z (words_behind w (pieces (start wanted) (r.input ++ q.before))) q.last) (sym (fed_state q.before)) (subst (λ z. IsBegun (after s q.before) z q.last) (sym (fed_words q.before)) q.begun);
    text = so_far ++ q.text;
    missing = q.missing;
    text_is = append_assoc so_far q.text q.missing ∙ fed_text q.before (q.text ++ q.missing) q.last q.text_is;
    written = Appends-trans held held' held'' so_far q.text r.fed.written q.written;
    complete = q.complete;
  }

  -- everything that is read, with what is left
  all_read : (left'' : Option (List ℕ)) (bytes : List ℕ) → Consumes left left'' (r.input ++ bytes) → IsLeft wanted left (whole (start wanted) ((r.input ++ bytes) ++ unwrap_or left'' []))
  all_read left'' bytes c = ((r.input ++ bytes) ++ unwrap_or left'' [], Gives-left left left'' (r.input ++ bytes) c, refl)

  stopped_by : (fault : AnswerFault) (read : List ℕ) (held'' : Option (List ℕ)) → IsLeft wanted left read → Breaks fault (start wanted) w [] read held held'' → Stopped wanted w left held held'' fault
  stopped_by (Refused why at) read held'' l q = absurd q
  stopped_by (LateMember at) read held'' l q = (read, l, q)
  stopped_by (Device fault) read held'' l q = (read, l, inl q)

  -- the run stopped within a chunk
  pub Stopped-in : (fault : AnswerFault) (left'' held'' : Option (List ℕ)) (bytes : List ℕ) → Consumes left' left'' bytes → Breaks fault s w' part bytes held' held'' → Stopped wanted w left held held'' fault
  Stopped-in fault left'' held'' bytes c b =
      let rest = unwrap_or left'' [] in
      let input = (r.input ++ bytes) ++ rest in
      let tail = last_end (after (start wanted) input) in
      let cut : whole (start wanted) input ≡ (r.input ++ bytes) ++ (rest ++ tail) = append_assoc (r.input ++ bytes) rest tail in
      stopped_by fault (whole (start wanted) input) held'' (all_read left'' bytes (Consumes-trans left left' left'' r.input bytes r.taken c))
      (subst (λ l. Breaks fault (start wanted) w [] l held held'') (sym cut) (Breaks-more fault (start wanted) w [] (r.input ++ bytes) held held'' (rest ++ tail) (breaks_all fault bytes held'' b)))

  -- at a byte that was rejected
  ended_err : (o : Result (Unit {0}) Refusal) (x : Result ℕ AnswerFault) → IsBegun s w' part → end_of s.place ≡ o → x ≡ judged_by s.passed s.taken o → is_refused s.place ≡ true → IfErr x (Stopped wanted w left held held')
  ended_err (Ok u) x b e is h = subst (λ z. IfErr z (Stopped wanted w left held held')) (sym is) tt
  ended_err (Err why) x b e is h =
      subst (λ z. IfErr z (Stopped wanted w left held held')) (sym is) (
        r.input,
        inl (unwrap_or left' [], Gives-left left left' r.input r.taken, subst (λ (z : State). is_refused z.place ≡ true) r.fed.state h),
        (part, subst (λ z. IsBegun (after (start wanted) r.input) z part) r.fed.words (subst (λ z. IsBegun z w' part) r.fed.state b), r.fed.written),
        ap (λ z. end_of z.place) (sym r.fed.state) ∙ e,
        ap (λ (z : State). z.taken) r.fed.state,
      )

  pub Stopped-refused : (x : Result ℕ AnswerFault) → IsBegun s w' part → x ≡ ended_of s → is_refused s.place ≡ true → IfErr x (Stopped wanted w left held held')
  Stopped-refused x b is h = ended_err (end_of s.place) x b refl is h

  -- ---- at the end of the reader

  abbrev tail : List ℕ
  tail = last_end s

  at_left : IsAtEnd left' → IsLeft wanted left (r.input ++ tail)
  at_left end = (r.input, Gives-end left left' r.input r.taken end, ap (λ z. r.input ++ last_end z) r.fed.state)

  at_end : IsAtEnd left' → is_refused s.place ≡ false → IsAll wanted left (r.input ++ tail)
  at_end end going = (r.input, Gives-end left left' r.input r.taken end, ap (λ z. r.input ++ last_end z) r.fed.state, subst (λ (z : State). is_refused z.place ≡ false) r.fed.state going)

  same_all : (whole : List ℕ) → part ++ whole ≡ all_text w' (pieces s tail) → so_far ++ whole ≡ all_text w (pieces (start wanted) (r.input ++ tail))
  same_all whole e =
      fed_text tail whole (last_text (words_behind w' (pieces s tail))) e
      ∙ ap (λ z. texts w (pieces (start wanted) (r.input ++ tail)) ++ last_text z) (sym (fed_words tail))

  pub Answered-end : (held'' : Option (List ℕ)) (x : Result ℕ AnswerFault) → IsAtEnd left' → is_refused s.place ≡ false → Finishes s w' part held' held'' x → IfOk x (Answered wanted w left held held'')
  Answered-end held'' (Ok passed) end going f = (
    r.input ++ tail,
    at_end end going,
    subst (Appends held held'') (same_all f.0 f.2) (Appends-trans held held' held'' so_far f.0 r.fed.written f.1),
    ap (λ (z : State). end_of z.place) (fed_state tail) ∙ f.3,
    f.4 ∙ ap (λ (z : State). z.passed) (sym (fed_state tail)),
  )
  Answered-end held'' (Err fault) end going f = tt

  pub Stopped-end : (held'' : Option (List ℕ)) (x : Result ℕ AnswerFault) → IsAtEnd left' → is_refused s.place ≡ false → Finishes s w' part held' held'' x → IfErr x (Stopped wanted w left held held'')
  Stopped-end held'' (Ok passed) end going f = tt
  Stopped-end held'' (Err (Refused why at)) end going (text, part', put, is, begun, ended, at_is) = (
    r.input ++ tail,
    inr (at_end end going),
    (
      part',
      subst (λ z. IsBegun (after (start wanted) (r.input ++ tail)) z part') (sym (fed_words tail)) (subst (λ z. IsBegun z (words_behind w' (pieces s tail)) part') (sym (fed_state tail)) begun),
      subst (Appends held held'') (fed_text tail text part' is) (Appends-trans held held' held'' so_far text r.fed.written put),
    ),
    ap (λ (z : State). end_of z.place) (fed_state tail) ∙ ended,
    at_is ∙ ap (λ (z : State). z.taken) (sym (fed_state tail)),
  )
  Stopped-end held'' (Err (LateMember at)) end going q = (r.input ++ tail, at_left end, breaks_all (LateMember at) tail held'' q)
  Stopped-end held'' (Err (Device fault)) end going (inl b) = (r.input ++ tail, at_left end, inl (breaks_all (Device fault) tail held'' b))
  Stopped-end held'' (Err (Device fault)) end going (inr (all, is, e)) = (
    r.input ++ tail,
    at_left end,
    inr (record {
      text = so_far ++ e.text;
      missing = e.missing;
      is = sym (same_all all is) ∙ ap (λ l. so_far ++ l) e.is ∙ sym (append_assoc so_far e.text e.missing);
      written = Appends-trans held held' held'' so_far e.text r.fed.written e.written;
      failed = e.failed;
    }),
  )

-- ---- as if the reader had held exactly the bytes that its reads returned

module _ {wanted : Wanted} {w : Words} {s : State} {w' : Words} {part : List ℕ} {held held' : Option (List ℕ)} {input : List ℕ} (r : Ran wanted w s w' part (Some input) (Some []) held held') where
  -- and then these
  ran_ahead : (bytes : List ℕ) → Ran wanted w s w' part (Some (input ++ bytes)) (Some bytes) held held'
  ran_ahead bytes = record { input = r.input; fed = r.fed; taken = ap (λ l. l ++ bytes) (r.taken ∙ append-nil r.input) }

  pub Ran-fed : {r'' : State} {front'' : List ℕ} {at'' : ℕ} {w'' : Words} {held'' : Option (List ℕ)} (bytes : List ℕ) → (f : Feeds s w' part bytes r'' front'' at'' w'' held' held'') → Ran wanted w (after s bytes) w'' f.part' (Some (input ++ bytes)) (Some []) held held''
  Ran-fed bytes f = Ran-more (ran_ahead bytes) bytes (sym (append-nil bytes)) f

  pub Stopped-within : (fault : AnswerFault) (held'' : Option (List ℕ)) (bytes : List ℕ) → Breaks fault s w' part bytes held' held'' → Stopped wanted w (Some (input ++ bytes)) held held'' fault
  Stopped-within fault held'' bytes b = Stopped-in (ran_ahead bytes) fault (Some []) held'' bytes (sym (append-nil bytes)) b

  pub Converts-end : (held'' : Option (List ℕ)) (x : Result ℕ AnswerFault) → is_refused s.place ≡ false → Finishes s w' part held' held'' x → Converts x wanted w (Some input) held held''
  Converts-end held'' (Ok passed) going f = Answered-end r held'' (Ok passed) refl going f
  Converts-end held'' (Err fault) going f = Stopped-end r held'' (Err fault) refl going f

-- no further chunk was read
module _ {wanted : Wanted} {w : Words} {s : State} {w' : Words} {part : List ℕ} {left left' held held' : Option (List ℕ)} {q : State} {front : List ℕ} {at : ℕ} (r : Ran wanted w s w' part left left' held held') (t : Tracks s q front at w' part) where
  pub Stopped-before : (fault : ScriptFault) (left'' : Option (List ℕ)) → Keeps left' left'' → IsWhole fault [] → Stopped wanted w left held held' (Device fault)
  Stopped-before fault left'' k is_whole = Stopped-in r (Device fault) left'' held' [] (Consumes-kept left' left' left'' [] (Consumes-nil left') k) (Begins-nothing fault [] held' held' t (Appends-nil held') is_whole)

-- no byte is rejected before the first one
pub start_going : (w : Wanted) → is_refused (start w).place ≡ false
start_going Documents = refl
start_going _ = refl

-- nothing was read
pub Stopped-none : (wanted : Wanted) (w : Words) (left held : Option (List ℕ)) (fault : ScriptFault) → IsWhole fault [] → Stopped wanted w left held held (Device fault)
Stopped-none wanted w left held fault is_whole = Stopped-before (Ran-none wanted w left held) (Tracks-start (start wanted) [] 0 w refl) fault left (Keeps-refl left) is_whole
