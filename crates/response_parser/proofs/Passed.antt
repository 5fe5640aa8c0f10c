-- A run of a long document that is not stored.
use Rattle.proof_prelude.proofs.{◌≡◌, ℕ, ◌≤◌, ◌+◌, ◌==◌, length, drop, slice_index, List, [], ◌∷◌, ◌++◌, true, false, refl, sym, ap, subst, ◌∙◌, append-nil, length-append, inl, inr, arith, list_all, and_parts}
use Rattle.doc_envelope.specs.Streams.{IsRun, is_streamable, start, run, next}
use Rattle.doc_envelope.specs.{is_log}
use Rattle.json.specs.Run.{is_plain as is_plain_byte}
use Rattle.response_parser.specs.{after, pieces, Name}
use Rattle.response_parser.specs.State.{State}
use Rattle.response_parser.specs.Runs.{IsInValue, Copies, more_by}
use Rattle.response_parser.specs.Fronts.{Cut, IsCut, IsStart, long}
use Rattle.response_parser.specs.Mirrors.{Like, equal, alike, is_idle, IsWithin, in_string, Mirrors}
use Rattle.response_parser.specs.Passing.{IsLong, FollowsFront, Passes}
use Rattle.response_parser.specs.declared.place.Place.TheVariants.{Quoted}
use Rattle.response_parser.specs.declared.place.Found.TheVariants.{Nothing}
use Rattle.response_parser.proofs.RunTexts.{copies_run}
use Rattle.response_parser.proofs.Mirroring.{begins_front, full_first, some_first}

plain_byte : (b : ℕ) → is_streamable b ≡ true → is_plain_byte b ≡ true
plain_byte b h = grind arith

plain_run : (xs : List ℕ) → IsRun xs → list_all is_plain_byte xs ≡ true
plain_run [] h = refl
plain_run (x ∷ xs) h =
    let parts = and_parts (is_streamable x) (list_all is_streamable xs) h in
    rw (plain_byte x parts.0, plain_run xs parts.1) refl

-- the full parser stores the run
module _ (name : Name) (r : State) (u bytes : List ℕ) (place : r.place ≡ Quoted name) (found : r.found ≡ Nothing) (begun : (length u == 0) ≡ false) (is : IsRun bytes) where
  abbrev s : State
  s = record r { text = u }

  value : IsInValue s name true s.nesting
  value = record { place = place; nesting_is = refl; found = found; begun = begun }

  copies : Copies s bytes name true s.nesting
  copies = copies_run name s s.nesting bytes (plain_run bytes is) value

  run_state : after s bytes ≡ record r { text = u ++ bytes; taken = more_by r.taken bytes }
  run_state = copies.state ∙ (λ i. record r { place = sym place i; text = u ++ bytes; taken = more_by r.taken bytes })

  run_none : pieces s bytes ≡ []
  run_none = copies.none

-- the states after the run
module _ (name : Name) (r r' : State) (u bytes : List ℕ) (place : r.place ≡ Quoted name) (is_long : IsLong name r) (object : slice_index u 0 ≡ 123) (is : IsRun bytes) (read : r' ≡ record r { taken = more_by r.taken bytes }) where
  run_mirrors : (c : Cut) → IsCut r.wanted c → IsStart r.wanted c.stored c.front → c.full ≡ u ++ bytes → c.stored ≡ r.text → long ≤ length c.full
      → Mirrors c name (after (record r { text = u }) bytes) r'
  run_mirrors c begun starts full stored enough =
      let to = run_state name r u bytes place is_long.document.found (some_first u object) is in
      let at : Mirrors c name (record r { text = u ++ bytes; taken = more_by r.taken bytes }) (record r { taken = more_by r.taken bytes }) = record {
        place = subst (λ p. IsWithin name p) (sym place) in_string;
        same = refl;
        document = record { document = is_long.document.document; object = is_long.document.object; nested = is_long.document.nested; found = is_long.document.found };
        behind = [];
        full_text = sym full ∙ sym (append-nil c.full);
        stored_text = sym stored ∙ sym (append-nil c.stored);
        begun = begun;
        starts = starts;
        full_length = enough;
        stored_length = subst (λ x. long ≤ length x) (sym stored) is_long.length_is;
        log = λ h. ap is_log stored ∙ is_long.log h;
      } in
      subst (λ z. Mirrors c name z r') (sym to) (subst (λ z. Mirrors c name (record r { text = u ++ bytes; taken = more_by r.taken bytes }) z) (sym read) at)

long_more : (x y : List ℕ) → long ≤ length x → long ≤ length (x ++ y)
long_more x y h = omega (arith, length-append x y)

-- ---- the first run

abbrev first_cut : State → List ℕ → List ℕ → Cut
first_cut r front bytes = record { full = r.text ++ bytes; stored = r.text; written = front ++ bytes; front = front }

like_quoted : {s r : State} (name : Name) → Like s r → r.place ≡ Quoted name → s ≡ r
like_quoted name (equal e) h = e
like_quoted {s} {r} name (alike e h) k = let no = ap is_idle (sym k) ∙ h in absurd (cc)

pub record FirstRun (s r r' : State) (bytes front' : List ℕ) (at' : ℕ) : Type 0 where
  pub cut : Cut
  pub name : Name
  pub mirrors : Mirrors cut name (after s bytes) r'
  pub none : pieces s bytes ≡ []
  pub front_is : front' ≡ cut.front
  pub at_is : at' ≡ length cut.stored
  pub some : (length front' == 0) ≡ false
  pub written : cut.written ≡ front' ++ bytes

pub first_run : (s r r' : State) (bytes front front' : List ℕ) (at at' : ℕ) → Like s r → front ≡ [] → Passes r bytes r' front at front' at' → FirstRun s r r' bytes front' at'
first_run s r r' bytes front front' at at' like empty p =
    let same = like_quoted p.name like p.place in
    by p.follows where
      by : FollowsFront r front at front' at' → FirstRun s r r' bytes front' at'
      by (inl (some, same_length, fronts, lengths)) = let no = ap (λ l. length l == 0) (sym empty) ∙ some in absurd (cc)
      by (inr (starts, begins, some, length_is)) =
          let c = first_cut r front' bytes in
          let m = run_mirrors p.name r r' r.text bytes p.place p.long_is p.long_is.document.object p.run p.state c (run (start starts) starts bytes p.run) starts refl refl (long_more r.text bytes p.long_is.length_is) in
          let e = like_quoted p.name like p.place in
          record {
            cut = c;
            name = p.name;
            mirrors = subst (λ z. Mirrors c p.name (after z bytes) r') (sym e) m;
            none = ap (λ z. pieces z bytes) e ∙ run_none p.name r r.text bytes p.place p.long_is.document.found (some_first r.text p.long_is.document.object) p.run;
            front_is = refl;
            at_is = length_is;
            some = some;
            written = refl;
          }

-- ---- a further run

pub record NextRun (c : Cut) (s r r' : State) (bytes front front' : List ℕ) (at' : ℕ) : Type 0 where
  pub cut : Cut
  pub name : Name
  pub mirrors : Mirrors cut name (after s bytes) r'
  pub none : pieces s bytes ≡ []
  pub gained : List ℕ
  pub gains : front' ≡ front ++ gained
  pub front_is : front' ≡ cut.front
  pub at_is : at' ≡ length cut.stored
  pub some : (length front' == 0) ≡ false
  pub written : cut.written ≡ (c.written ++ gained) ++ bytes

no_more : (x y z : List ℕ) → z ≡ x ++ y → length z ≡ length x → y ≡ []
no_more x [] z e h = refl
no_more x (b ∷ y) z e h = let l : length z ≡ length x + length (b ∷ y) = ap length e ∙ length-append x (b ∷ y) in absurd (omega (arith, l, h))

module _ (c : Cut) (name : Name) (s r r' : State) (bytes front front' : List ℕ) (at at' : ℕ) (m : Mirrors c name s r) (front_is : front ≡ c.front) (at_is : at ≡ length c.stored) (p : Passes r bytes r' front at front' at') where
  abbrev u : List ℕ
  u = s.text

  full_object : slice_index u 0 ≡ 123
  full_object = full_first m

  after_none : pieces s bytes ≡ []
  after_none = ap (λ z. pieces z bytes) m.same ∙ run_none p.name r u bytes p.place p.long_is.document.found (some_first u full_object) p.run

  mirrors_by : (d : Cut) → IsCut r.wanted d → IsStart r.wanted d.stored d.front → d.full ≡ u ++ bytes → d.stored ≡ r.text → Mirrors d p.name (after s bytes) r'
  mirrors_by d begun starts full stored =
      subst (λ z. Mirrors d p.name (after z bytes) r') (sym m.same)
      (run_mirrors p.name r r' u bytes p.place p.long_is full_object p.run p.state d begun starts full stored
      (subst (λ x. long ≤ length x) (sym full) (long_more u bytes (subst (λ x. long ≤ length x) (sym m.full_text) (long_more c.full m.behind m.full_length)))))

  -- the text has not grown
  again : (length front == 0) ≡ false → length r.text ≡ at → front' ≡ front → at' ≡ at → NextRun c s r r' bytes front front' at'
  again some same fronts lengths =
      let none = no_more c.stored m.behind r.text m.stored_text (same ∙ at_is) in
      let d : Cut = record { full = c.full ++ bytes; stored = c.stored; written = c.written ++ bytes; front = c.front } in
      let full : d.full ≡ u ++ bytes = ap (λ l. l ++ bytes) (sym (append-nil c.full) ∙ ap (λ l. c.full ++ l) (sym none) ∙ sym m.full_text) in
      let stored : d.stored ≡ r.text = sym (append-nil c.stored) ∙ ap (λ l. c.stored ++ l) (sym none) ∙ sym m.stored_text in
      record {
        cut = d;
        name = p.name;
        mirrors = mirrors_by d (run m.begun m.starts bytes p.run) m.starts full stored;
        none = after_none;
        gained = [];
        gains = fronts ∙ sym (append-nil front);
        front_is = fronts ∙ front_is;
        at_is = lengths ∙ at_is;
        some = ap (λ l. length l == 0) fronts ∙ some;
        written = ap (λ l. l ++ bytes) (sym (append-nil c.written));
      }

  -- a new front
  anew : IsStart r.wanted r.text front' → front' ≡ front ++ drop (length front) front' → (length front' == 0) ≡ false → at' ≡ length r.text → NextRun c s r r' bytes front front' at'
  anew starts begins some lengths =
      let g = drop (length front) front' in
      let both : c.front ++ g ≡ front' = ap (λ l. l ++ g) (sym front_is) ∙ sym begins in
      let starts' : IsStart r.wanted (c.stored ++ m.behind) (c.front ++ g) = subst (λ x. IsStart r.wanted x (c.front ++ g)) m.stored_text (subst (IsStart r.wanted r.text) (sym both) starts) in
      let d : Cut = record { full = (c.full ++ m.behind) ++ bytes; stored = c.stored ++ m.behind; written = (c.written ++ g) ++ bytes; front = c.front ++ g } in
      record {
        cut = d;
        name = p.name;
        mirrors = mirrors_by d (run (next m.begun m.behind g starts') starts' bytes p.run) starts' (ap (λ l. l ++ bytes) (sym m.full_text)) (sym m.stored_text);
        none = after_none;
        gained = g;
        gains = begins;
        front_is = sym both;
        at_is = lengths ∙ ap length m.stored_text;
        some = some;
        written = refl;
      }

  by_front : FollowsFront r front at front' at' → NextRun c s r r' bytes front front' at'
  by_front (inl (some, same, fronts, lengths)) = again some same fronts lengths
  by_front (inr (starts, begins, some, lengths)) = anew starts (begins_front front' front begins) some lengths

  pub next_run : NextRun c s r r' bytes front front' at'
  next_run = by_front p.follows
