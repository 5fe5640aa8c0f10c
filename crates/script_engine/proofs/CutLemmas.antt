-- Scripts that stopped within a line's output.
use Rattle.proof_prelude.proofs.{◌≡◌, ℕ, ◌+◌, ◌<◌, List, [], ◌∷◌, ◌++◌, length, Bool, true, false, true≢false, ◌&&◌, if◌then◌else◌, refl, sym, ap, subst, ◌∙◌, arith, append_assoc, length-append, is_ok, Ok, Err, Result, Option, Some, None, IfErr, Appends, Appends-trans}
use Rattle.script_engine.specs.{AnswersCut, Answering, Begins, Cuts, FeedsCut, IsSplit, Place, ScriptFault, Step, Told, has_line_end, lines_of, start, text_with, told_text}
use Rattle.script_engine.specs.Served.{Served}
use Rattle.script_engine.specs.Serving.{Fits}
use Rattle.script_engine.specs.declared.fault.ScriptFault.TheVariants.{Read, Write, Memory, Cut}
use Rattle.script_engine.proofs.ServedLemmas.{Served-none, Served-joined, Served-line, lines_of-line}

IsCut : ScriptFault → Type 0
IsCut Cut = Unit {0}
IsCut _ = ⊥

pub write_not_cut : Write ≡ Cut → ⊥
unfolding IsCut
write_not_cut e = subst IsCut (sym e) tt

-- a rest of an output is not empty
pub split_left : {R : Type 0} (left : R → List ℕ) (accepted : Bool) (piece : List ℕ) (rest : Option R) → IsSplit 1 left accepted piece rest → Fits (λ r. 0 < length (left r)) rest
split_left left accepted piece None h = tt
split_left left accepted piece (Some r) h = h.2

-- the first piece is written, and a part of the rest
pub cut_answer : {R T : Type 0} (left : R → List ℕ) (accepted : Bool) (answer refusal given : List ℕ) (rest : Option R) (held held' held'' : Option (List ℕ)) (r : Result T ScriptFault) →
    given ≡ (if accepted then answer else refusal) → IsSplit 1 left accepted answer rest → Appends held held' given →
    IfErr r (λ fault. fault ≡ Cut → (front : List ℕ) × (back : List ℕ) × (text_with left [] rest ≡ front ++ back) × Appends held' held'' front × (0 < length back)) →
    IfErr r (λ fault. fault ≡ Cut → (begun : List ℕ) × (more : List ℕ) × (accepted ≡ true) × (text_with left answer rest ≡ begun ++ more) × Appends held held'' begun × (0 < length begun) × (0 < length more))
cut_answer left accepted answer refusal given rest held held' held'' (Ok x) e s w h = tt
cut_answer left accepted answer refusal given None held held' held'' (Err fault) e s w h = λ is.
    let p = h is in
    absurd (omega (arith, ap length p.2, length-append p.0 p.1, p.4))
cut_answer left accepted answer refusal given (Some r) held held' held'' (Err fault) e s w h = λ is.
    let p = h is in
    let whole : given ≡ answer = e ∙ ap (λ b. if b then answer else refusal) s.0 in (
      given ++ p.0,
      p.1,
      s.0,
      ap (λ z. z ++ left r) (sym whole) ∙ ap (λ z. given ++ z) p.2 ∙ sym (append_assoc given p.0 p.1),
      Appends-trans held held' held'' given p.0 w p.3,
      omega (arith, length-append given p.0, ap length whole, s.1),
      p.4,
    )

-- a part of a line's output is written
pub cut_line : {S R : Type 0} {f : Answering S (List ℕ)} (left : R → List ℕ) (p : Place S) (line answer refusal : List ℕ) (rest : Option R) (accepted : Bool) (begun more : List ℕ) (new : S) →
    has_line_end p.begun ≡ false → line ≡ p.begun →
    (told : Told) × Step f p.state line told new × (text_with left (if accepted then answer else refusal) rest ≡ told_text p.number told) × (accepted ≡ is_ok told) →
    accepted ≡ true → text_with left answer rest ≡ begun ++ more → 0 < length begun → 0 < length more → Cuts f p (10 ∷ []) begun
cut_line {f = f} left p line answer refusal rest true begun more new closed l (Ok text, step, t, a) is e some missing = record {
  front = [];
  back = [];
  mid = p;
  new = new;
  before = [];
  begun = begun;
  more = more;
  bytes_are = refl;
  serves = Served-none p;
  line_is = closed;
  step = subst (λ z. Step f p.state z (Ok (begun ++ more)) new) l (subst (λ z. Step f p.state line (Ok z) new) (sym t ∙ e) step);
  text_is = refl;
  some = some;
  left = missing;
}
cut_line left p line answer refusal rest true begun more new closed l (Err name, step, t, a) is e some missing = absurd (true≢false a)
cut_line left p line answer refusal rest false begun more new closed l told is e some missing = absurd (true≢false (sym is))

-- after a stretch that was run
pub Cuts-joined : {S : Type 0} {f : Answering S (List ℕ)} → {a b : Place S} {xs ys t u : List ℕ} → Served f a xs b t → Cuts f b ys u → Cuts f a (xs ++ ys) (t ++ u)
Cuts-joined {f} {a} {b} {xs} {ys} {t} {u} s h = record {
  front = xs ++ h.front;
  back = h.back;
  mid = h.mid;
  new = h.new;
  before = t ++ h.before;
  begun = h.begun;
  more = h.more;
  bytes_are = ap (λ z. xs ++ z) h.bytes_are ∙ sym (append_assoc xs h.front (10 ∷ h.back));
  serves = Served-joined s h.serves;
  line_is = h.line_is;
  step = h.step;
  text_is = ap (λ z. t ++ z) h.text_is ∙ sym (append_assoc t h.before h.begun);
  some = h.some;
  left = h.left;
}

-- more bytes may follow
pub Cuts-more : {S : Type 0} {f : Answering S (List ℕ)} → {a : Place S} {xs t : List ℕ} (ys : List ℕ) → Cuts f a xs t → Cuts f a (xs ++ ys) t
Cuts-more {a} {xs} {t} ys h = record {
  front = h.front;
  back = h.back ++ ys;
  mid = h.mid;
  new = h.new;
  before = h.before;
  begun = h.begun;
  more = h.more;
  bytes_are = ap (λ z. z ++ ys) h.bytes_are ∙ append_assoc h.front (10 ∷ h.back) ys;
  serves = h.serves;
  line_is = h.line_is;
  step = h.step;
  text_is = h.text_is;
  some = h.some;
  left = h.left;
}

-- the text is a prefix of the output
pub Cuts-begins : {S : Type 0} {f : Answering S (List ℕ)} → {a : Place S} {xs t : List ℕ} → Cuts f a xs t → Begins f a xs t
Cuts-begins {S} {f} {a} {xs} {t} h =
    let after : Place S = record { state = h.new; begun = []; number = h.mid.number + 1; clean = h.mid.clean && true } in
    let line = Served-line h.mid after h.mid.begun (h.begun ++ h.more) true h.line_is refl (Ok (h.begun ++ h.more), h.step, refl, refl) refl refl refl in
    record {
      front = h.front ++ (10 ∷ []);
      back = h.back;
      new = after;
      more = h.more;
      bytes_are = h.bytes_are ∙ sym (append_assoc h.front (10 ∷ []) h.back);
      serves = subst (λ z. Served f a (h.front ++ (10 ∷ [])) after z) (sym (append_assoc h.before h.begun h.more) ∙ ap (λ z. z ++ h.more) (sym h.text_is)) (Served-joined h.serves line);
    }

-- a script that stopped within a line's output
pub answers_cut : {S : Type 0} {f : Answering S (List ℕ)} {g : S} {xs text : List ℕ} (input : List ℕ) → Cuts f (start g) xs text → lines_of xs ≡ lines_of input → AnswersCut f g input text
answers_cut {f} {g} {xs} {text} input h l =
    let s = h.serves in
    let all : lines_of input ≡ s.lines ++ h.mid.begun ∷ lines_of h.back = sym l ∙ ap lines_of h.bytes_are ∙ s.cut (10 ∷ h.back) ∙ ap (λ z. s.lines ++ z) (lines_of-line h.mid.begun h.back h.line_is) in
    (s.lines, h.mid.begun, lines_of h.back, s.told, h.mid.state, h.begun, h.more, h.new, all, s.run, h.step, h.text_is ∙ ap (λ z. z ++ h.begun) s.text_is, h.some, h.left)
