-- A complete picture, and what is written of a picture before an error.
use Rattle.proof_prelude.proofs.{◌≡◌, ℕ, List, [], ◌++◌, Bool, Option, refl, sym, ap, ◌∙◌, append_assoc, append-nil, chars, Appends, Appends-trans}
use Rattle.script_engine.specs.{Gives, IsAnswered, IsAnsweredSoFar, IsToldUntil, ScriptFault, lines_of}
use Rattle.script_engine.specs.declared.fault.ScriptFault.TheVariants.{Read, Write, Memory, Cut}
use Rattle.script_engine.proofs.RunLemmas.{SoFar-none}
use Rattle.diagrams.specs.declared.form.Form.{Form}
use Rattle.diagrams.specs.Drawing.{IsDrawnUntil, IsPictureOf, IsPictured, IsPicturedUntil, Pictures, Sketch, first_sketch}
use Rattle.diagrams.specs.{Draws}
use Rattle.diagrams.proofs.ShownTexts.{safe_shown}

-- nothing is a drawing without signs
no_ink : Draws [] [] []
no_ink = record { pieces = []; ink = refl; drawn = refl }

module _ (form : Form) (db left held : Option (List ℕ)) where
  -- ---- pictures

  -- a start, drawings and an end
  picture_of : (input : List ℕ) (clean : Bool) (head text tail : List ℕ) (last : Sketch) → Draws [] head [] → IsAnswered Pictures (first_sketch form db) input clean text last → Draws [] tail []
      → IsPictureOf form db input (record { clean = clean; tally = last.tally }) ((head ++ text) ++ tail)
  picture_of input clean head text tail last h a t = record {
    head = head;
    head_drawn = h;
    text = text;
    left_open = last;
    answered = a;
    counts = refl;
    tail = tail;
    tail_drawn = t;
    parts = refl;
    safe = λ shows. safe_shown form (chars shows);
  }

  pub picture_whole : (input : List ℕ) (clean : Bool) (head text tail : List ℕ) (last : Sketch) (held1 held2 held3 : Option (List ℕ)) → Gives left input
      → Draws [] head [] → IsAnswered Pictures (first_sketch form db) input clean text last → Draws [] tail []
      → Appends held held1 head → Appends held1 held2 text → Appends held2 held3 tail → IsPictured form db (record { clean = clean; tally = last.tally }) left held held3
  picture_whole input clean head text tail last held1 held2 held3 g h a t w w' w'' = record {
    input = input;
    gives = g;
    picture = (head ++ text) ++ tail;
    pictured = picture_of input clean head text tail last h a t;
    written = Appends-trans held held2 held3 (head ++ text) tail (Appends-trans held held1 held2 head text w w') w'';
  }

  -- ---- errors

  -- the start is interrupted
  pub until_head : (front back head : List ℕ) (held' : Option (List ℕ)) → Draws [] head [] → head ≡ front ++ back → Appends held held' front → IsPicturedUntil Write form db left held held'
  until_head front back head held' h e w =
      let s = SoFar-none {f = Pictures} {g = first_sketch form db} left held in
      let a = s.answered.0 in
      record {
        input = s.input;
        gives = s.gives;
        outcome = record { clean = a.0; tally = a.2.tally };
        picture = (head ++ (s.text ++ a.1)) ++ [];
        pictured = picture_of s.input a.0 head (s.text ++ a.1) [] a.2 h a.3 no_ink;
        text = front;
        missing = back ++ (s.text ++ a.1);
        parts = append-nil (head ++ (s.text ++ a.1)) ∙ ap (λ z. z ++ (s.text ++ a.1)) e ∙ append_assoc front back (s.text ++ a.1);
        written = w;
        drawn = tt;
      }

  drawn_so_far : (fault : ScriptFault) (input head text : List ℕ) → Draws [] head [] → IsToldUntil fault Pictures (first_sketch form db) input text → IsDrawnUntil fault form db input (head ++ text)
  drawn_so_far Read input head text h a = (head, h, text, a.1, refl)
  drawn_so_far Write input head text h a = tt
  drawn_so_far Memory input head text h a = (head, h, text, a.1, refl)
  drawn_so_far Cut input head text h a = (head, h, text, a.1, refl)

  told_so_far : (fault : ScriptFault) (input text : List ℕ) → IsToldUntil fault Pictures (first_sketch form db) input text → IsAnsweredSoFar Pictures (first_sketch form db) input text
  told_so_far Read input text a = a.0
  told_so_far Write input text a = a
  told_so_far Memory input text a = a.0
  told_so_far Cut input text a = a.0

  -- a line is not reached, or its drawing is interrupted
  pub until_lines : (fault : ScriptFault) (input head text : List ℕ) (held1 held2 : Option (List ℕ)) → Gives left input → Draws [] head [] → IsToldUntil fault Pictures (first_sketch form db) input text
      → Appends held held1 head → Appends held1 held2 text → IsPicturedUntil fault form db left held held2
  until_lines fault input head text held1 held2 g h told w w' =
      let a = told_so_far fault input text told in
      record {
        input = input;
        gives = g;
        outcome = record { clean = a.0; tally = a.2.tally };
        picture = (head ++ (text ++ a.1)) ++ [];
        pictured = picture_of input a.0 head (text ++ a.1) [] a.2 h a.3 no_ink;
        text = head ++ text;
        missing = a.1;
        parts = append-nil (head ++ (text ++ a.1)) ∙ sym (append_assoc head text a.1);
        written = Appends-trans held held1 held2 head text w w';
        drawn = drawn_so_far fault input head text h told;
      }

  -- the end finds no memory
  pub until_tail : (input : List ℕ) (clean : Bool) (head text : List ℕ) (last : Sketch) (held1 held2 : Option (List ℕ)) → Gives left input
      → Draws [] head [] → IsAnswered Pictures (first_sketch form db) input clean text last
      → Appends held held1 head → Appends held1 held2 text → IsPicturedUntil Memory form db left held held2
  until_tail input clean head text last held1 held2 g h a w w' = record {
    input = input;
    gives = g;
    outcome = record { clean = clean; tally = last.tally };
    picture = (head ++ text) ++ [];
    pictured = picture_of input clean head text [] last h a no_ink;
    text = head ++ text;
    missing = [];
    parts = refl;
    written = Appends-trans held held1 held2 head text w w';
    drawn = (head, h, text, (lines_of input, [], a.0, last, sym (append-nil (lines_of input)), a.1, a.2), refl);
  }

  -- the end is interrupted
  pub until_end : (input : List ℕ) (clean : Bool) (head text tail front back : List ℕ) (last : Sketch) (held1 held2 held3 : Option (List ℕ)) → Gives left input
      → Draws [] head [] → IsAnswered Pictures (first_sketch form db) input clean text last → Draws [] tail []
      → Appends held held1 head → Appends held1 held2 text → tail ≡ front ++ back → Appends held2 held3 front → IsPicturedUntil Write form db left held held3
  until_end input clean head text tail front back last held1 held2 held3 g h a t w w' e w'' = record {
    input = input;
    gives = g;
    outcome = record { clean = clean; tally = last.tally };
    picture = (head ++ text) ++ tail;
    pictured = picture_of input clean head text tail last h a t;
    text = (head ++ text) ++ front;
    missing = back;
    parts = ap (λ z. (head ++ text) ++ z) e ∙ sym (append_assoc (head ++ text) front back);
    written = Appends-trans held held2 held3 (head ++ text) front (Appends-trans held held1 held2 head text w w') w'';
    drawn = tt;
  }
