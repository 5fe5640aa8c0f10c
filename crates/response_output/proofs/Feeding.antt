-- The bytes that the parser reads at once, and the output for them.
use Rattle.proof_prelude.proofs.{◌≡◌, ℕ, ◌+◌, ◌-◌, ◌<◌, ◌≤◌, ◌==◌, ◌&&◌, nat_eq, length, drop, take, get_or, List, [], ◌∷◌, ◌++◌, Bool, true, false, cond, Option, Result, Ok, Err, refl, sym, ap, subst, ◌∙◌, append_assoc, append-nil, inl, inr, take-append-drop, take_more, starts_with, arith, Appends, Appends-nil}
use Rattle.doc_envelope.specs.Names.{id_of}
use Rattle.script_engine.specs.{ScriptFault}
use Rattle.script_engine.specs.declared.fault.ScriptFault.TheVariants.{Write}
use Rattle.response_parser.specs.State.{State}
use Rattle.response_parser.specs.{Piece, after, given, is_refused, is_piece, piece_of, pieces, Found, Name, Place}
use Rattle.response_parser.specs.Fronts.{Cut, IsLate}
use Rattle.response_parser.specs.Mirrors.{Like, Mirrors, Rejected}
use Rattle.response_parser.specs.Passing.{Passes, FollowsFront}
use Rattle.response_parser.specs.declared.place.Place.TheVariants.{Quoted, Refused as AtRefused}
use Rattle.response_parser.specs.declared.place.Found.TheVariants.{Nothing, Document, Id, Rev}
use Rattle.response_output.specs.Words.{Words, counted_up, id_kept}
use Rattle.response_output.specs.{before, behind, document_text, part_text, rest_text, text_for, texts, with_document, words_behind, Begins, IsBegun, IsWhole, Breaks, Feeds, IsLateAt, RestBreaks, Tracks, WritesInPart, AnswerFault}
use Rattle.response_output.specs.Runs.{tracks_whole, tracks_long, tracks_stuck, in_part, nothing}
use Rattle.response_output.specs.declared.run.AnswerFault.TheVariants.{Refused, LateMember, Device}
use Rattle.response_parser.proofs.{after-append, pieces-append}
use Rattle.response_parser.proofs.Mirroring.{Outcome, going, rejected, found, late, begins_front, front_begins, like_after, like_pieces}
use Rattle.response_parser.proofs.MirroredBytes.{bytes_out, goes, like_found, like_taken, quiet_after, rejected_after, rejected_none}
use Rattle.response_parser.proofs.Passed.{FirstRun, first_run, NextRun, next_run}
use Rattle.response_output.proofs.Running.{Tracks-begun, Begins-nothing}

-- ---- a run that is not stored

-- the run follows the item that the output has begun
pub record RunFed (s : State) (r' : State) (front front' : List ℕ) (at' : ℕ) (w : Words) (part bytes : List ℕ) : Type 0 where
  pub part' : List ℕ
  pub text : part ++ part_text w front' (length front) bytes ≡ part'
  pub tracks : Tracks (after s bytes) r' front' at' w part'
  pub none : pieces s bytes ≡ []
  pub told : length front ≤ length front'

drop_front : (x y : List ℕ) → drop (length x) (x ++ y) ≡ y
drop_front [] y = refl
drop_front (a ∷ x) y = drop_front x y

length_front : (x y : List ℕ) → length x ≤ length (x ++ y)
length_front [] y = grind arith
length_front (a ∷ x) y = let h = length_front x y in grind arith

length_same : (x : List ℕ) → length x ≤ length x
length_same x = omega arith

part_first : (w : Words) (front front' bytes : List ℕ) → front ≡ [] → part_text w front' (length front) bytes ≡ before w ++ (front' ++ bytes)
part_first w front front' bytes e = ap (λ l. part_text w front' (length l) bytes) e

part_next : (w : Words) (front front' d bytes : List ℕ) → (length front == 0) ≡ false → front' ≡ front ++ d → part_text w front' (length front) bytes ≡ d ++ bytes
part_next w front front' d bytes some e =
    ap (λ q. cond q (before w) [] ++ (drop (length front) front' ++ bytes)) some
    ∙ ap (λ l. drop (length front) l ++ bytes) e ∙ ap (λ l. l ++ bytes) (drop_front front d)

abbrev with_id : Words → List ℕ → Words
with_id w id = counted_up (id_kept w id)

not_in_string : (p : Place) (n : Name) → p ≡ Quoted n → is_refused p ≡ true → ⊥
not_in_string p n e h = let no = ap is_refused (sym e) ∙ h in absurd (cc)

pub run_fed : {s r r' : State} {front front' : List ℕ} {at at' : ℕ} {w : Words} {part : List ℕ} (bytes : List ℕ) → Tracks s r front at w part → Passes r bytes r' front at front' at' → RunFed s r' front front' at' w part bytes
run_fed {s} {r} {r'} {front} {front'} {at} {at'} {w} {part} bytes (tracks_whole l f p) passes =
    let x = first_run s r r' bytes front front' at at' l f passes in
    record {
      part' = before w ++ (front' ++ bytes);
      text = ap (λ y. y ++ part_text w front' (length front) bytes) p ∙ part_first w front front' bytes f;
      tracks = tracks_long x.cut x.name x.mirrors x.front_is x.at_is x.some (ap (λ y. before w ++ y) (sym x.written));
      none = x.none;
      told = subst (λ y. length y ≤ length front') (sym f) (grind arith);
    }
run_fed {s} {r} {r'} {front} {front'} {at} {at'} {w} {part} bytes (tracks_long c n m f a e p) passes =
    let x = next_run c n s r r' bytes front front' at at' m f a passes in
    let g = x.gained in
    record {
      part' = before w ++ x.cut.written;
      text = ap (λ y. y ++ part_text w front' (length front) bytes) p ∙ ap (λ y. (before w ++ c.written) ++ y) (part_next w front front' g bytes e x.gains)
          ∙ append_assoc (before w) c.written (g ++ bytes) ∙ ap (λ y. before w ++ y) (sym (append_assoc c.written g bytes) ∙ sym x.written);
      tracks = tracks_long x.cut x.name x.mirrors x.front_is x.at_is x.some refl;
      none = x.none;
      told = subst (λ y. length front ≤ length y) (sym x.gains) (length_front front g);
    }
run_fed {r = r} bytes (tracks_stuck c j p) passes = absurd (not_in_string r.place passes.name passes.place j.refused)

told_by : (r : State) {front front' : List ℕ} (at at' : ℕ) → FollowsFront r front at front' at' → length front ≤ length front'
told_by r {front} {front'} at at' (inl (some, same, fronts, lengths)) = subst (λ l. length front ≤ length l) (sym fronts) (length_same front)
told_by r {front} {front'} at at' (inr (starts, begins, some, lengths)) =
    subst (λ l. length front ≤ length l) (sym (begins_front front' front begins)) (length_front front (drop (length front) front'))

pub passed_told : {r r' : State} {bytes front front' : List ℕ} {at at' : ℕ} → Passes r bytes r' front at front' at' → length front ≤ length front'
passed_told {r} {at = at} {at'} p = told_by r at at' p.follows

-- the run was written
pub Feeds-run : {s r' : State} {front front' : List ℕ} {at' : ℕ} {w w' : Words} {part bytes : List ℕ} {a b : Option (List ℕ)} → RunFed s r' front front' at' w part bytes → Appends a b (part_text w front' (length front) bytes) → w' ≡ w
    → Feeds s w part bytes r' front' at' w' a b
Feeds-run {s} {r'} {front} {front'} {at'} {w} {w'} {part} {bytes} x put words = record {
  part' = x.part';
  tracks = subst (λ z. Tracks (after s bytes) r' front' at' z x.part') (sym words) x.tracks;
  words = words ∙ ap (words_behind w) (sym x.none);
  text = part_text w front' (length front) bytes;
  text_is = x.text ∙ ap (λ ps. texts w ps ++ x.part') (sym x.none);
  written = put;
}

-- the run was written in part
pub Begins-run : {s r r' : State} {front front' : List ℕ} {at at' : ℕ} {w : Words} {part : List ℕ} {a b : Option (List ℕ)} (fault : ScriptFault) (n : ℕ) (bytes : List ℕ) → Tracks s r front at w part
    → RunFed s r' front front' at' w part (take n bytes) → WritesInPart fault (part_text w front' (length front) (take n bytes)) a b → Begins fault s w part bytes a b
Begins-run {a = a} {b} fault n bytes t x (nothing put is_whole) = Begins-nothing fault bytes a b t put is_whole
Begins-run {s} {w = w} {part} {a} {b} fault n bytes t x (in_part text missing is put fails) = record {
  before = take n bytes;
  behind = drop n bytes;
  bytes_are = sym (take-append-drop n bytes);
  last = x.part';
  begun = subst (λ z. IsBegun (after s (take n bytes)) z x.part') (ap (words_behind w) (sym x.none)) (Tracks-begun x.tracks);
  text = text;
  missing = missing;
  text_is = ap (λ l. part ++ l) (sym is) ∙ x.text ∙ ap (λ ps. texts w ps ++ x.part') (sym x.none);
  written = put;
  complete = subst (λ z. IsWhole z missing) (sym fails) tt;
}

-- ---- bytes that the parser reads

-- the states after the bytes
pub data Reads (s r' : State) (front : List ℕ) (at : ℕ) (w : Words) (part bytes : List ℕ) : Type 0 where
  reads : Like (after s bytes) r' → front ≡ [] → part ≡ [] → pieces s bytes ≡ given r' → Reads s r' front at w part bytes
  reads_long : (c : Cut) (n : Name) → Outcome c n (after s bytes) r' → front ≡ c.front → at ≡ length c.stored → (length front == 0) ≡ false → part ≡ before w ++ c.written
      → pieces s bytes ≡ given (after s bytes) → Reads s r' front at w part bytes
  reads_none : (c : Cut) → Rejected c (after s bytes) r' → part ≡ before w ++ c.written → pieces s bytes ≡ [] → Reads s r' front at w part bytes

last_byte : (k : ℕ) (bytes : List ℕ) → 0 < k → k ≤ length bytes → take k bytes ≡ take (k - 1) bytes ++ get_or bytes (k - 1) 0 ∷ []
last_byte k bytes h e = ap (λ n. take n bytes) (one_less k h) ∙ take_more bytes (k - 1) 0 (less k (length bytes) h e) where
  one_less : (k : ℕ) → 0 < k → k ≡ (k - 1) + 1
  one_less k h = omega (arith, h)

  less : (k n : ℕ) → 0 < k → k ≤ n → k - 1 < n
  less k n h e = omega (arith, h, e)

pub bytes_read : {s r r' : State} {front : List ℕ} {at : ℕ} {w : Words} {part : List ℕ} (k : ℕ) (bytes : List ℕ) → 0 < k → k ≤ length bytes → Tracks s r front at w part → r' ≡ after r (take k bytes)
    → pieces r (take k bytes) ≡ given r' → pieces r (take (k - 1) bytes) ≡ [] → Reads s r' front at w part (take k bytes)
bytes_read {s} {r} {r'} {front} {at} {w} {part} k bytes some within (tracks_whole l f p) read whole first =
    reads (subst (λ z. Like (after s (take k bytes)) z) (sym read) (like_after l (take k bytes))) f p (like_pieces l (take k bytes) ∙ whole)
bytes_read {s} {r} {r'} {front} {at} {w} {part} k bytes some within (tracks_long c n m f a e p) read whole first =
    let b = get_or bytes (k - 1) 0 in
    let cut = last_byte k bytes some within in
    let out = bytes_out m (take (k - 1) bytes) b first in
    reads_long c n (subst (λ z. Outcome c n (after s (take k bytes)) z) (sym read) (subst (λ x. Outcome c n (after s x) (after r x)) (sym cut) out.0)) f a e p
    (subst (λ x. pieces s x ≡ given (after s x)) (sym cut) out.1)
bytes_read {s} {r} {r'} {front} {at} {w} {part} k bytes some within (tracks_stuck c j p) read whole first =
    reads_none c (subst (λ z. Rejected c (after s (take k bytes)) z) (sym read) (rejected_after j (take k bytes))) p (rejected_none j (take k bytes)).0

-- the number of bytes that were read
read_taken : {s r' : State} {front : List ℕ} {at : ℕ} {w : Words} {part bytes : List ℕ} → Reads s r' front at w part bytes → (after s bytes).taken ≡ r'.taken
read_taken (reads l f p ps) = like_taken l
read_taken (reads_long c n (going m) f a e p ps) = ap (λ (z : State). z.taken) m.same
read_taken (reads_long c n (rejected l x q y) f a e p ps) = like_taken l
read_taken (reads_long c n (found tail l q x y i) f a e p ps) = like_taken l
read_taken (reads_long c n (late q l x y) f a e p ps) = l
read_taken (reads_none c j p ps) = like_taken j.like

-- the bytes before the last one
quiet_full : {s r : State} {front : List ℕ} {at : ℕ} {w : Words} {part : List ℕ} (bytes : List ℕ) → Tracks s r front at w part → (length front == 0) ≡ false → pieces r bytes ≡ [] → pieces s bytes ≡ []
quiet_full bytes (tracks_whole l f p) some h = like_pieces l bytes ∙ h
quiet_full bytes (tracks_long c n m f a e p) some h = (quiet_after (goes m) bytes h).1
quiet_full bytes (tracks_stuck c j p) some h = (rejected_none j bytes).0

less_one : (k n : ℕ) → k ≤ n → k - 1 ≤ n
less_one k n h = omega (arith, h)

le_trans : (k m n : ℕ) → k ≤ m → m ≤ n → k ≤ n
le_trans k m n h e = omega (arith, h, e)

-- the same for the first part of the bytes
pub part_read : {s r r' : State} {front : List ℕ} {at : ℕ} {w : Words} {part : List ℕ} (k : ℕ) (first bytes : List ℕ) → 0 < k → k ≤ length first → length first ≤ length bytes → ((n : ℕ) → n ≤ length first → take n first ≡ take n bytes)
    → Tracks s r front at w part → r' ≡ after r (take k first) → pieces r (take k first) ≡ given r' → pieces r (take (k - 1) first) ≡ [] → Reads s r' front at w part (take k bytes) × (k ≤ length bytes) × (pieces r (take (k - 1) bytes) ≡ [])
part_read {r = r} {r'} k first bytes some within shorter same t read all_found none =
    let all = same k within in
    let less = same (k - 1) (less_one k (length first) within) in
    let enough = le_trans k (length first) (length bytes) within shorter in
    let before = subst (λ l. pieces r l ≡ []) less none in
    (bytes_read k bytes some enough t (subst (λ l. r' ≡ after r l) all read) (subst (λ l. pieces r l ≡ given r') all all_found) before, enough, before)

none_given : (f : Found) (text : List ℕ) → f ≡ Nothing → piece_of f text ≡ []
none_given f text e = ap (λ z. piece_of z text) e

-- the items that were found, if no document is complete whose output has begun
pub record Told (s r' : State) (front : List ℕ) (at : ℕ) (w : Words) (part bytes : List ℕ) : Type 0 where
  pub part' : List ℕ
  pub tracks : Tracks (after s bytes) r' front at (words_behind w (given r')) part'
  pub words : words_behind w (given r') ≡ words_behind w (pieces s bytes)
  pub text : part ++ texts w (given r') ≡ texts w (pieces s bytes) ++ part'

-- nothing was found
told_none : {s r' : State} {front : List ℕ} {at : ℕ} {w : Words} {part bytes : List ℕ} → given r' ≡ [] → pieces s bytes ≡ [] → Tracks (after s bytes) r' front at w part → Told s r' front at w part bytes
told_none {s} {r'} {front} {at} {w} {part} {bytes} none quiet t = record {
  part' = part;
  tracks = subst (λ l. Tracks (after s bytes) r' front at (words_behind w l) part) (sym none) t;
  words = ap (words_behind w) (none ∙ sym quiet);
  text = ap (λ l. part ++ texts w l) none ∙ append-nil part ∙ ap (λ l. texts w l ++ part) (sym quiet);
}

pub found_told : {s r' : State} {front : List ℕ} {at : ℕ} {w : Words} {part bytes : List ℕ} → Reads s r' front at w part bytes → (r'.found ≡ Document → (length front == 0) ≡ true) → Told s r' front at w part bytes
found_told {s} {r'} {front} {at} {w} {part} {bytes} (reads l f p ps) other = record {
  part' = [];
  tracks = tracks_whole l f refl;
  words = ap (words_behind w) (sym ps);
  text = ap (λ x. x ++ texts w (given r')) p ∙ ap (texts w) (sym ps) ∙ sym (append-nil (texts w (pieces s bytes)));
}
found_told {s} {r'} {bytes = bytes} (reads_none c j p ps) other = told_none (none_given r'.found r'.text j.found) ps (tracks_stuck c j p)
found_told {s} {r'} {bytes = bytes} (reads_long c n (going m) f d e p ps) other =
    told_none (none_given r'.found r'.text m.document.found) (ps ∙ none_given (after s bytes).found (after s bytes).text (ap (λ (z : State). z.found) m.same ∙ m.document.found)) (tracks_long c n m f d e p)
found_told {s} {r'} {bytes = bytes} (reads_long c n (rejected l x q y) f d e p ps) other =
    told_none (none_given r'.found r'.text q) (ps ∙ none_given (after s bytes).found (after s bytes).text (like_found l ∙ q)) (tracks_stuck c (record { like = l; refused = x; found = q; written = y }) p)
found_told (reads_long c n (found tail l q x y i) f d e p ps) other = let no = other q in absurd (cc)
found_told (reads_long c n (late q l x y) f d e p ps) other = let no = other q in absurd (cc)

pub Feeds-told : {s r' : State} {front : List ℕ} {at : ℕ} {w w' : Words} {part bytes : List ℕ} {a b : Option (List ℕ)} → Told s r' front at w part bytes → Appends a b (texts w (given r')) → w' ≡ words_behind w (given r')
    → Feeds s w part bytes r' front at w' a b
Feeds-told {s} {r'} {front} {at} {w} {w'} {part} {bytes} x put words = record {
  part' = x.part';
  tracks = subst (λ z. Tracks (after s bytes) r' front at z x.part') (sym words) x.tracks;
  words = words ∙ x.words;
  text = texts w (given r');
  text_is = x.text;
  written = put;
}

-- a text was written in part
pub Begins-told : {s r r' : State} {front : List ℕ} {at : ℕ} {w : Words} {part : List ℕ} {a b : Option (List ℕ)} (fault : ScriptFault) (k : ℕ) (bytes : List ℕ) → Tracks s r front at w part → Told s r' front at w part (take k bytes)
    → WritesInPart fault (texts w (given r')) a b → Begins fault s w part bytes a b
Begins-told {a = a} {b} fault k bytes t x (nothing put is_whole) = Begins-nothing fault bytes a b t put is_whole
Begins-told {s} {w = w} {part} fault k bytes t x (in_part text missing is put fails) = record {
  before = take k bytes;
  behind = drop k bytes;
  bytes_are = sym (take-append-drop k bytes);
  last = x.part';
  begun = subst (λ z. IsBegun (after s (take k bytes)) z x.part') x.words (Tracks-begun x.tracks);
  text = text;
  missing = missing;
  text_is = ap (λ l. part ++ l) (sym is) ∙ x.text;
  written = put;
  complete = subst (λ z. IsWhole z missing) (sym fails) tt;
}

-- ---- the end of a document whose output has begun

-- the document's output, after the part that was written
pub record Ended (s r' : State) (front : List ℕ) (w : Words) (part bytes : List ℕ) : Type 0 where
  pub tracks : Like (after s bytes) r'
  pub words : with_document w r'.text ≡ words_behind w (pieces s bytes)
  pub text : part ++ rest_text w r'.text (length front) ≡ texts w (pieces s bytes)

ended_found : {s r' : State} {front : List ℕ} {w : Words} {part bytes : List ℕ} (c : Cut) (tail : List ℕ) → Like (after s bytes) r' → r'.found ≡ Document → r'.text ≡ c.front ++ tail → (after s bytes).text ≡ c.written ++ tail
    → id_of (c.written ++ tail) ≡ id_of (c.front ++ tail) → front ≡ c.front → part ≡ before w ++ c.written → pieces s bytes ≡ given (after s bytes) → Ended s r' front w part bytes
ended_found {s} {r'} {front} {w} {part} {bytes} c tail l q x y i f p ps =
    let z = after s bytes in
    let piece : pieces s bytes ≡ (Document, c.written ++ tail) ∷ [] = ps ∙ ap (λ g. piece_of g z.text) (like_found l ∙ q) ∙ ap (λ t. (Document, t) ∷ []) y in
    let rest : rest_text w r'.text (length front) ≡ tail ++ behind w = ap (λ t. drop (length front) t ++ behind w) x ∙ ap (λ t. drop (length t) (c.front ++ tail) ++ behind w) f ∙ ap (λ t. t ++ behind w) (drop_front c.front tail) in
    record {
      tracks = l;
      words = ap (with_document w) x ∙ ap (with_id w) (sym i) ∙ ap (words_behind w) (sym piece);
      text = ap (λ t. t ++ rest_text w r'.text (length front)) p ∙ ap (λ t. (before w ++ c.written) ++ t) rest
          ∙ append_assoc (before w) c.written (tail ++ behind w) ∙ ap (λ t. before w ++ t) (sym (append_assoc c.written tail (behind w)))
          ∙ sym (append-nil (document_text w (c.written ++ tail))) ∙ ap (texts w) (sym piece);
    }

pub ended_rest : {s r' : State} {front : List ℕ} {at : ℕ} {w : Words} {part bytes : List ℕ} → Reads s r' front at w part bytes → r'.found ≡ Document → (length front == 0) ≡ false → starts_with nat_eq r'.text front ≡ true → Ended s r' front w part bytes
ended_rest (reads l f p ps) q some begins = let no = sym some ∙ ap (λ x. length x == 0) f in absurd (cc)
ended_rest (reads_none c j p ps) q some begins = let no = sym q ∙ j.found in absurd (cc)
ended_rest (reads_long c n (going m) f d e p ps) q some begins = let no = sym q ∙ m.document.found in absurd (cc)
ended_rest (reads_long c n (rejected l x k y) f d e p ps) q some begins = let no = sym q ∙ k in absurd (cc)
ended_rest (reads_long c n (found tail l k x y i) f d e p ps) q some begins = ended_found c tail l k x y i f p ps
ended_rest {r' = r'} (reads_long c n (late k l x y) f d e p ps) q some begins = let no = sym begins ∙ ap (λ t. starts_with nat_eq r'.text t) f ∙ x in absurd (cc)

pub Feeds-rest : {s r' : State} {front front' : List ℕ} {at' : ℕ} {w w' : Words} {part bytes : List ℕ} {a b : Option (List ℕ)} → Ended s r' front w part bytes → front' ≡ [] → Appends a b (rest_text w r'.text (length front)) → w' ≡ with_document w r'.text
    → Feeds s w part bytes r' front' at' w' a b
Feeds-rest {s} {r'} {front} {w = w} {w'} {part} {bytes} x none put words = record {
  part' = [];
  tracks = tracks_whole x.tracks none refl;
  words = words ∙ x.words;
  text = rest_text w r'.text (length front);
  text_is = x.text ∙ sym (append-nil (texts w (pieces s bytes)));
  written = put;
}

late_at : {s r' : State} {front : List ℕ} {at : ℕ} {w : Words} {part : List ℕ} {a b : Option (List ℕ)} (k : ℕ) (bytes : List ℕ) (taken : ℕ) → 0 < k → k ≤ length bytes → pieces s (take (k - 1) bytes) ≡ [] → Reads s r' front at w part (take k bytes)
    → r'.found ≡ Document → (length front == 0) ≡ false → starts_with nat_eq r'.text front ≡ false → (after s (take k bytes)).taken ≡ taken → Appends a b [] → IsLateAt taken s w part bytes a b
late_at k bytes taken some within quiet (reads l f p ps) q full differs at_is put = let no = sym full ∙ ap (λ x. length x == 0) f in absurd (cc)
late_at k bytes taken some within quiet (reads_none c j p ps) q full differs at_is put = let no = sym q ∙ j.found in absurd (cc)
late_at k bytes taken some within quiet (reads_long c n (going m) f d e p ps) q full differs at_is put = let no = sym q ∙ m.document.found in absurd (cc)
late_at k bytes taken some within quiet (reads_long c n (rejected l x z y) f d e p ps) q full differs at_is put = let no = sym q ∙ z in absurd (cc)
late_at {r' = r'} k bytes taken some within quiet (reads_long c n (found tail l z x y i) f d e p ps) q full differs at_is put =
    let no = sym differs ∙ ap (λ t. starts_with nat_eq r'.text t) f ∙ ap (λ t. starts_with nat_eq t c.front) x ∙ front_begins c.front tail in absurd (cc)
late_at {s} {w = w} {part} k bytes taken some within quiet (reads_long c n (late z l x y) f d e p ps) q full differs at_is put =
    let cut = last_byte k bytes some within in
    record {
      front = take (k - 1) bytes;
      last = get_or bytes (k - 1) 0;
      behind = drop k bytes;
      bytes_are = sym (take-append-drop k bytes) ∙ ap (λ l. l ++ drop k bytes) cut ∙ append_assoc (take (k - 1) bytes) (get_or bytes (k - 1) 0 ∷ []) (drop k bytes);
      begun = c.written;
      late = subst (λ l. IsLate (after s l) c.written) cut y;
      text = [];
      text_is = append-nil part ∙ p ∙ ap (λ l. texts w l ++ (before (words_behind w l) ++ c.written)) (sym quiet);
      written = put;
      at_is = sym at_is ∙ ap (λ l. (after s l).taken) cut;
    }

pub Breaks-rest : {s r r' : State} {front : List ℕ} {at : ℕ} {w : Words} {part : List ℕ} (a b : Option (List ℕ)) (fault : AnswerFault) (k : ℕ) (bytes : List ℕ) → 0 < k → k ≤ length bytes → pieces r (take (k - 1) bytes) ≡ [] → Tracks s r front at w part
    → Reads s r' front at w part (take k bytes) → r'.found ≡ Document → (length front == 0) ≡ false → RestBreaks fault r' w front a b → Breaks fault s w part bytes a b
Breaks-rest a b (Refused why at) k bytes some within quiet t x q full h = absurd h
Breaks-rest {s} {r' = r'} a b (LateMember at) k bytes some within quiet t x q full (differs, put, taken) =
    late_at k bytes at some within (quiet_full (take (k - 1) bytes) t full quiet) x q full differs (read_taken x ∙ sym taken) put
Breaks-rest a b (Device fault) k bytes some within quiet t x q full (begins, nothing put is_whole) = Begins-nothing fault bytes a b t put is_whole
Breaks-rest {s} {r' = r'} {w = w} {part} a b (Device fault) k bytes some within quiet t x q full (begins, in_part text missing is put fails) =
    let e = ended_rest x q full begins in
    record {
      before = take k bytes;
      behind = drop k bytes;
      bytes_are = sym (take-append-drop k bytes);
      last = [];
      begun = inl refl;
      text = text;
      missing = missing;
      text_is = ap (λ l. part ++ l) (sym is) ∙ e.text ∙ sym (append-nil (texts w (pieces s (take k bytes))));
      written = put;
      complete = subst (λ z. IsWhole z missing) (sym fails) tt;
    }
