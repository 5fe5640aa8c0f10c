-- A run, exchange by exchange.
use Rattle.proof_prelude.proofs.{◌≡◌, ℕ, ◌⊎◌, inl, inr, true, true≢false, List, [], ◌∷◌, ◌++◌, Option, None, Some, MatchOption, refl, sym, ap, subst, ◌∙◌, append_assoc, append-nil, Appends, Appends-nil, Appends-trans, string_bytes, drop, Result, Ok, Err, IfOk, OnErr, unwrap_or}
use Rattle.relay_core.specs.declared.phase.Phase.{Phase}
use Rattle.relay_core.specs.declared.messages.Side.TheVariants.{Target}
use Rattle.relay_core.specs.Messages.{Text, Exchange, exchange_of, RequestView, get_log}
use Rattle.relay_core.specs.Views.{response_view}
use Rattle.relay_core.specs.Justified.{MayAsk, IsJustified}
use Rattle.relay_core.specs.Known.{asked_of, Knows}
use Rattle.relay_core.proofs.Knowing.{may_ask}
use Rattle.relay_requests.specs.Requests.{request_text}
use Rattle.relay_requests.specs.declared.options.RequestOptions.{RequestOptions}
use Rattle.couch_relay.specs.declared.exchange.Dated.{Dated}
use Rattle.std.specs.Str.{IsUtf8}
use Rattle.couch_relay.specs.Frames.{HeadView, IsFrame}
use Rattle.couch_relay.specs.Inbox.{Took}
use Rattle.script_engine.specs.declared.fault.ScriptFault.{ScriptFault}
use Rattle.couch_relay.specs.declared.options.Options.{Options}
use Rattle.couch_relay.specs.declared.options.NoOptions.{NoOptions}
use Rattle.couch_relay.specs.declared.options.NoOptions.TheVariants.{NoNumber}
use Rattle.couch_relay.specs.declared.run.Ended.{Ended}
use Rattle.couch_relay.specs.declared.run.Ended.TheVariants as end
use Rattle.couch_relay.specs.Options.{Says, Refuses}
use Rattle.couch_relay.specs.Runs.{Receives, Exchanged, IsRun, status_after, Ran, RanUntil, AreOptions, IsChoice, NoChoice, TakesChoice, ReadsChoice, FindsChoice, on_one_line, Runs, RunsUntil, RunsWords, IfRan}

-- what was read and written so far; the bytes that were pending at first and that are pending now; and the phase
pub record Going (o : RequestOptions) (taken taken' held held' : Option (List ℕ)) (before now : List ℕ) (phase : Phase) : Type 0 where
  pub history : List Exchange
  pub read : List ℕ
  pub written : List ℕ
  pub input : List ℕ
  pub exchanged : Exchanged o history read written
  pub justified : IsJustified history
  pub knows : Knows history phase
  pub took : Appends taken taken' input
  pub input_is : before ++ input ≡ read ++ now
  pub wrote : Appends held held' written

-- a run so far, as a result: what was read and written until a fault
abbrev pub Until : RequestOptions → Option (List ℕ) → Option (List ℕ) → Option (List ℕ) → Option (List ℕ) → List ℕ → Type 0
Until o taken taken' held held' before =
    (input : List ℕ) × (text : List ℕ) × Appends taken taken' input × Appends held held' text × RanUntil o (before ++ input) text

pub going_first : (o : RequestOptions) (taken held : Option (List ℕ)) (before : List ℕ) (phase : Phase) → ((h : List Exchange) → Knows h phase) → Going o taken taken held held before before phase
going_first o taken held before phase k = record {
  history = [];
  read = [];
  written = [];
  input = [];
  exchanged = (refl, refl);
  justified = tt;
  knows = k [];
  took = Appends-nil taken;
  input_is = append-nil before;
  wrote = Appends-nil held;
}

-- nothing was asked for
pub until_first : (o : RequestOptions) (taken held : Option (List ℕ)) (before : List ℕ) → Until o taken taken held held before
until_first o taken held before = (
  [],
  [],
  Appends-nil taken,
  Appends-nil held,
  record {
    read = [];
    left = before ++ [];
    written = [];
    next = get_log Target;
    front = [];
    back = request_text o (get_log Target);
    run = record { history = []; exchanged = (refl, refl); justified = tt; allowed = tt };
    input_is = refl;
    text_is = refl;
    request_is = refl;
  },
)

module _ (o : RequestOptions) (taken taken₁ held held₁ : Option (List ℕ)) (before now : List ℕ) (phase : Phase) (g : Going o taken taken₁ held held₁ before now phase) where
  -- the bytes that are read next
  next_input : (bytes : List ℕ) → before ++ (g.input ++ bytes) ≡ g.read ++ (now ++ bytes)
  next_input bytes = sym (append_assoc before g.input bytes) ∙ ap (λ (xs : List ℕ). xs ++ bytes) g.input_is ∙ append_assoc g.read now bytes

  abbrev asking : (q : RequestView) → q ≡ asked_of phase → IsRun o g.read g.written q
  asking q e = record {
    history = g.history;
    exchanged = g.exchanged;
    justified = g.justified;
    allowed = subst (λ (r : RequestView). MayAsk g.history r) (sym e) (may_ask g.history phase g.knows);
  }

  -- a fault stopped the run while a request was written
  pub until_sending : (held₂ : Option (List ℕ)) (q : RequestView) (front back : List ℕ) → q ≡ asked_of phase → request_text o q ≡ front ++ back → Appends held₁ held₂ front → Until o taken taken₁ held held₂ before
  until_sending held₂ q front back e parts w = (
    g.input,
    g.written ++ front,
    g.took,
    Appends-trans held held₁ held₂ g.written front g.wrote w,
    record { read = g.read; left = now; written = g.written; next = q; front = front; back = back; run = asking q e; input_is = g.input_is; text_is = refl; request_is = parts },
  )

  -- the run made its last turn
  pub until_turns : Until o taken taken₁ held held₁ before
  until_turns = (
    g.input,
    g.written,
    g.took,
    g.wrote,
    record { read = g.read; left = now; written = g.written; next = asked_of phase; front = []; back = request_text o (asked_of phase); run = asking (asked_of phase) refl; input_is = g.input_is; text_is = sym (append-nil g.written); request_is = refl },
  )

  module _ (held₂ : Option (List ℕ)) (q : RequestView) (is : q ≡ asked_of phase) (sent : Appends held₁ held₂ (request_text o q)) where
    wrote_all : Appends held held₂ (g.written ++ request_text o q)
    wrote_all = Appends-trans held held₁ held₂ g.written (request_text o q) g.wrote sent

    -- a fault stopped the run after a request was written
    pub until_receiving : (taken₂ : Option (List ℕ)) → Took taken₁ taken₂ → Until o taken taken₂ held held₂ before
    until_receiving taken₂ (bytes, took) = (
      g.input ++ bytes,
      g.written ++ request_text o q,
      Appends-trans taken taken₁ taken₂ g.input bytes g.took took,
      wrote_all,
      record { read = g.read; left = now ++ bytes; written = g.written; next = q; front = request_text o q; back = []; run = asking q is; input_is = next_input bytes; text_is = refl; request_is = sym (append-nil (request_text o q)) },
    )

    -- the run is over
    pub ran_over : {ended : Type 0} (status : ℕ) → Some status ≡ status_after q
        → (input : List ℕ) × (text : List ℕ) × Appends taken taken₁ input × Appends held held₂ text × Ran o ended (before ++ input) text status
    ran_over status e = (
      g.input,
      g.written ++ request_text o q,
      g.took,
      wrote_all,
      record { read = g.read; left = now; written = g.written; next = q; run = asking q is; input_is = g.input_is; text_is = refl; ends = inl (sym e) },
    )

    -- no response could be read
    pub ran_out : {ended : Type 0} (taken₂ : Option (List ℕ)) (after : List ℕ) → None ≡ status_after q → Receives q taken₁ taken₂ ended now after None
        → (input : List ℕ) × (text : List ℕ) × Appends taken taken₂ input × Appends held held₂ text × Ran o ended (before ++ input) text 3
    ran_out taken₂ after e (bytes, took, none) = (
      g.input ++ bytes,
      g.written ++ request_text o q,
      Appends-trans taken taken₁ taken₂ g.input bytes g.took took,
      wrote_all,
      record { read = g.read; left = now ++ bytes; written = g.written; next = q; run = asking q is; input_is = next_input bytes; text_is = refl; ends = inr (sym e, none, refl) },
    )

    -- a fault stopped the run after a response was read
    pub until_stepping : (ended : Type 0) (taken₂ : Option (List ℕ)) (after : List ℕ) (d : Dated) → Receives q taken₁ taken₂ ended now after (Some d) → Until o taken taken₂ held held₂ before
    until_stepping ended taken₂ after d (bytes, took, response) = until_receiving taken₂ (bytes, took)

    -- an exchange more
    pub going_next : (ended : Type 0) (taken₂ : Option (List ℕ)) (after : List ℕ) (d : Dated) (next : Phase) → Receives q taken₁ taken₂ ended now after (Some d)
        → Knows (exchange_of (asked_of phase) (response_view d.response) ∷ g.history) next → Going o taken taken₂ held held₂ before after next
    going_next ended taken₂ after d next (bytes, took, (frame, bytes_are, response)) k = record {
      history = exchange_of q (response_view d.response) ∷ g.history;
      read = g.read ++ frame;
      written = g.written ++ request_text o q;
      input = g.input ++ bytes;
      exchanged = record { read_before = g.read; written_before = g.written; before = g.exchanged; frame = frame; date = string_bytes d.date; is = response; read_is = refl; written_is = refl };
      justified = ((asking q is).allowed, g.justified);
      knows = subst (λ (r : RequestView). Knows (exchange_of r (response_view d.response) ∷ g.history) next) (sym is) k;
      took = Appends-trans taken taken₁ taken₂ g.input bytes g.took took;
      input_is = next_input bytes ∙ ap (λ (xs : List ℕ). g.read ++ xs) bytes_are ∙ sym (append_assoc g.read frame after);
      wrote = wrote_all;
    }

pub weaken : {T E : Type 0} {P Q : T → Type 0} (r : Result T E) → ((x : T) → P x → Q x) → IfOk r P → IfOk r Q
weaken (Ok x) f p = f x p
weaken (Err e) f p = tt

pub weaken_err : {T E P Q : Type 0} (r : Result T E) → (P → Q) → OnErr r P → OnErr r Q
weaken_err (Ok x) f p = tt
weaken_err (Err e) f p = f p

-- ---- with the selection of documents

module _ (options : Options) (taken taken₁ held : Option (List ℕ)) (ended₁ : Type 0) (pending : List ℕ) (choice : Text) (o : RequestOptions) (are : AreOptions options choice o) (found : FindsChoice options taken taken₁ ended₁ [] pending (Some choice)) where
  -- what follows the selection, and the selection before more bytes
  chosen : (bytes : List ℕ) → TakesChoice options (found.0 ++ bytes) choice (pending ++ bytes)
  chosen bytes = (
    λ e. let c = found.2.0 e in
        record {
          frame = c.frame;
          head = c.head;
          body = c.body;
          input_is = ap (λ (xs : List ℕ). xs ++ bytes) c.input_is ∙ append_assoc c.frame pending bytes;
          frame_is = c.frame_is;
          text = c.text;
          choice_is = c.choice_is;
        },
    λ e. let p = found.2.1 e in (p.0, ap (λ (xs : List ℕ). xs ++ bytes) p.1),
  )

  pub runs : {ended : Type 0} (taken₂ held₁ : Option (List ℕ)) (status : ℕ)
      → (input : List ℕ) × (text : List ℕ) × Appends taken₁ taken₂ input × Appends held held₁ text × Ran o ended (pending ++ input) text status
      → (input : List ℕ) × (text : List ℕ) × Appends taken taken₂ input × Appends held held₁ text × Runs options ended input text status
  runs taken₂ held₁ status (input, text, took, wrote, ran) =
      (found.0 ++ input, text, Appends-trans taken taken₁ taken₂ found.0 input found.1 took, wrote, inl (choice, pending ++ input, o, chosen input, are, ran))

  pub runs_until : (taken₂ held₁ : Option (List ℕ)) → Until o taken₁ taken₂ held held₁ pending
      → (input : List ℕ) × (text : List ℕ) × Appends taken taken₂ input × Appends held held₁ text × RunsUntil options input text
  runs_until taken₂ held₁ (input, text, took, wrote, ran) =
      (found.0 ++ input, text, Appends-trans taken taken₁ taken₂ found.0 input found.1 took, wrote, inr (choice, pending ++ input, o, chosen input, are, ran))

-- the selection that a body is, if it is one
pub chosen_body : (o : Option Text) (ended : Type 0) (input rest frame : List ℕ) (head : HeadView) (body : List ℕ) {given : List ℕ} → given ≡ body → input ≡ frame ++ rest → IsFrame frame head body
    → MatchOption o (¬ IsUtf8 given) (λ s. IsUtf8 given × (s ≡ on_one_line given)) → MatchOption o (NoChoice ended input) (λ s. IsChoice input s rest)
chosen_body None ended input rest frame head body given_is input_is frame_is h = inr (frame, body, rest, head, input_is, frame_is, λ u. h (subst (λ (xs : List ℕ). IsUtf8 xs) (sym given_is) u))
chosen_body (Some s) ended input rest frame head body given_is input_is frame_is h = record {
  frame = frame;
  head = head;
  body = body;
  input_is = input_is;
  frame_is = frame_is;
  text = subst (λ (xs : List ℕ). IsUtf8 xs) given_is h.0;
  choice_is = h.1 ∙ ap on_one_line given_is;
}

-- there is an option for a selection
pub finds : (options : Options) (old new : Option (List ℕ)) (ended : Type 0) (before after : List ℕ) (choice : Option Text) → options.choice ≡ true → ReadsChoice old new ended before after choice → FindsChoice options old new ended before after choice
finds options old new ended before after None e h = (h.0, h.1, (e, h.2))
finds options old new ended before after (Some s) e h = (h.0, h.1, (λ _. h.2, λ f. absurd (true≢false (sym e ∙ f))))

-- no selection could be read
pub runs_none : (options : Options) {ended : Type 0} (taken taken₁ held : Option (List ℕ)) (after : List ℕ) → FindsChoice options taken taken₁ ended [] after None
    → (input : List ℕ) × (text : List ℕ) × Appends taken taken₁ input × Appends held held text × Runs options ended input text 3
runs_none options taken taken₁ held after (bytes, took, none) = (bytes, [], took, Appends-nil held, inr (none.0, none.1, refl, refl))

-- a fault stopped the run before the first request
pub runs_unasked : (options : Options) (taken taken₁ held : Option (List ℕ)) → Took taken taken₁
    → (input : List ℕ) × (text : List ℕ) × Appends taken taken₁ input × Appends held held text × RunsUntil options input text
runs_unasked options taken taken₁ held (bytes, took) = (bytes, [], took, Appends-nil held, inl refl)

-- ---- a prefix of the output

head_or : List ℕ → ℕ → ℕ
head_or [] x = x
head_or (y ∷ ys) x = y

IsCons : List ℕ → Type 0
IsCons [] = ⊥
IsCons (x ∷ xs) = Unit {0}

not_nil : {x : ℕ} {xs : List ℕ} → x ∷ xs ≡ [] → ⊥
unfolding IsCons
not_nil e = subst IsCons e tt

cons_parts : (x y : ℕ) (xs ys : List ℕ) → x ∷ xs ≡ y ∷ ys → (x ≡ y) × (xs ≡ ys)
unfolding head_or
cons_parts x y xs ys e = (ap (λ (l : List ℕ). head_or l x) e, ap (λ (l : List ℕ). drop 1 l) e)

-- a prefix of a list in two parts ends in the first part or in the second
cut_in : (p s a b : List ℕ) → p ++ s ≡ a ++ b → ((c : List ℕ) × (p ≡ a ++ c) × (b ≡ c ++ s)) ⊎ ((c : List ℕ) × (a ≡ p ++ c))
cut_in [] s a b e = inr (a, refl)
cut_in (x ∷ p) s [] b e = inl (x ∷ p, refl, sym e)
cut_in (x ∷ p) s (y ∷ a) b e =
    let parts = cons_parts x y (p ++ s) (a ++ b) e in
    elim (cut_in p s a b parts.1) [
      | inl h ↦ inl (h.0, ap (λ (xs : List ℕ). x ∷ xs) h.1 ∙ ap (λ (z : ℕ). z ∷ a ++ h.0) parts.0, h.2)
      | inr h ↦ inr (h.0, ap (λ (xs : List ℕ). y ∷ xs) h.1 ∙ ap (λ (z : ℕ). z ∷ p ++ h.0) (sym parts.0))
    ]

-- exchanges whose output was cut
cut_exchanges : (o : RequestOptions) (h : List Exchange) (read written left input p s : List ℕ) → Exchanged o h read written → IsJustified h → written ≡ p ++ s → input ≡ read ++ left → RanUntil o input p
cut_exchanges o [] read written left input p s x j e i = record {
  read = [];
  left = input;
  written = [];
  next = get_log Target;
  front = [];
  back = request_text o (get_log Target);
  run = record { history = []; exchanged = (refl, refl); justified = tt; allowed = tt };
  input_is = refl;
  text_is = nothing p s (sym e ∙ x.1);
  request_is = refl;
}
  where
    nothing : (p s : List ℕ) → p ++ s ≡ [] → p ≡ []
    nothing [] s e = refl
    nothing (b ∷ p) s e = absurd (not_nil e)
cut_exchanges o (e ∷ h) read written left input p s x j w i =
    let i' : input ≡ x.read_before ++ (x.frame ++ left) = i ∙ ap (λ (xs : List ℕ). xs ++ left) x.read_is ∙ append_assoc x.read_before x.frame left in
    elim (cut_in p s x.written_before (request_text o e.request) (sym w ∙ x.written_is)) [
      | inl c ↦ record {
        read = x.read_before;
        left = x.frame ++ left;
        written = x.written_before;
        next = e.request;
        front = c.0;
        back = s;
        run = record { history = h; exchanged = x.before; justified = j.1; allowed = j.0 };
        input_is = i';
        text_is = c.1;
        request_is = c.2;
      }
      | inr c ↦ cut_exchanges o h x.read_before x.written_before (x.frame ++ left) input p c.0 x.before j.1 c.1 i'
    ]

-- a run that a fault stopped, whose output was cut
cut_until : (o : RequestOptions) (input text p s : List ℕ) → RanUntil o input text → text ≡ p ++ s → RanUntil o input p
cut_until o input text p s r e = elim (cut_in p s r.written r.front (sym e ∙ r.text_is)) [
  | inl c ↦ record {
    read = r.read;
    left = r.left;
    written = r.written;
    next = r.next;
    front = c.0;
    back = s ++ r.back;
    run = r.run;
    input_is = r.input_is;
    text_is = c.1;
    request_is = r.request_is ∙ ap (λ (xs : List ℕ). xs ++ r.back) c.2 ∙ append_assoc c.0 s r.back;
  }
  | inr c ↦ cut_exchanges o r.run.history r.read r.written r.left input p c.0 r.run.exchanged r.run.justified c.1 r.input_is
]

no_text : (p s text : List ℕ) → text ≡ [] → text ≡ p ++ s → p ≡ []
no_text [] s text n e = refl
no_text (b ∷ p) s text n e = absurd (not_nil (sym e ∙ n))

pub cut_runs : (options : Options) (input text p s : List ℕ) → RunsUntil options input text → text ≡ p ++ s → RunsUntil options input p
cut_runs options input text p s (inl n) e = inl (no_text p s text n e)
cut_runs options input text p s (inr (choice, rest, o, takes, are, r)) e = inr (choice, rest, o, takes, are, cut_until o rest text p s r e)

-- ---- the standard streams

same_known : {x y : List ℕ} → Some x ≡ Some y → x ≡ y
same_known {x} {y} e = ap (λ (o : Option (List ℕ)). unwrap_or o x) e

-- after nothing
after_none : {a b c : List ℕ} → a ≡ [] → b ≡ a ++ c → b ≡ c
after_none {c = c} e h = h ∙ ap (λ (xs : List ℕ). xs ++ c) e

-- the program at standard input and output: what the reader returned and the writer accepted is of the arguments
pub standard : (words : List Text) (ended : Type 0) (e : Ended) (b b' h h' given sent : List ℕ) → b ≡ [] → h ≡ [] → (rest : List ℕ) × (h' ≡ given ++ rest) → Some given ≡ Some sent
    → (input : List ℕ) × (text : List ℕ) × (b' ≡ b ++ input) × (h' ≡ h ++ text) × RunsWords words ended input text e
    → IfRan e (sent ≡ h') → RunsWords words ended b' given e
standard words ended (end.NotRun why) b b' h h' given sent eb eh (rest, front) same (input, text, ei, et, (no_input, no_output, refuses)) flushed =
    (after_none eb ei ∙ no_input, no_text given rest h' (after_none eh et ∙ no_output) front, refuses)
standard words ended (end.Ran (Ok status)) b b' h h' given sent eb eh front same (input, text, ei, et, (options, says, runs)) flushed =
    let input_is : b' ≡ input = after_none eb ei in
    let text_is : given ≡ text = same_known same ∙ flushed ∙ after_none eh et in (
      options,
      says,
      subst (λ (xs : List ℕ). Runs options ended xs given status) (sym input_is) (subst (λ (xs : List ℕ). Runs options ended input xs status) (sym text_is) runs),
    )
standard words ended (end.Ran (Err fault)) b b' h h' given sent eb eh (rest, front) same (input, text, ei, et, (options, says, until)) flushed =
    let input_is : b' ≡ input = after_none eb ei in
    (options, says, subst (λ (xs : List ℕ). RunsUntil options xs given) (sym input_is) (cut_runs options input text given rest until (sym (after_none eh et) ∙ front)))

-- ---- the arguments

-- the run of options that the arguments give
pub words_ran : (words : List Text) (options : Options) (ended : Type 0) (taken taken₁ held held₁ : Option (List ℕ)) (r : Result ℕ ScriptFault) → Says words options
    → IfOk r (λ status. (input : List ℕ) × (text : List ℕ) × Appends taken taken₁ input × Appends held held₁ text × Runs options ended input text status)
    → OnErr r ((input : List ℕ) × (text : List ℕ) × Appends taken taken₁ input × Appends held held₁ text × RunsUntil options input text)
    → (input : List ℕ) × (text : List ℕ) × Appends taken taken₁ input × Appends held held₁ text × RunsWords words ended input text (end.Ran r)
words_ran words options ended taken taken₁ held held₁ (Ok status) says (input, text, took, wrote, runs) err = (input, text, took, wrote, (options, says, runs))
words_ran words options ended taken taken₁ held held₁ (Err fault) says ok (input, text, took, wrote, until) = (input, text, took, wrote, (options, says, until))

-- no option's text is a number, so the arguments give no options
pub words_refused : (words : List Text) (ended : Type 0) (taken held : Option (List ℕ)) (why : NoOptions) → why ≡ NoNumber → ((o : Options) → Says words o → ⊥)
    → (input : List ℕ) × (text : List ℕ) × Appends taken taken input × Appends held held text × RunsWords words ended input text (end.NotRun why)
words_refused words ended taken held why e none = ([], [], Appends-nil taken, Appends-nil held, (refl, refl, subst (Refuses words) (sym e) none))
